-- Lists of tokens that are alike.
use Rattle.std.proofs.Common.{◌∷◌, [], List, ◌++◌, sym, ◌∙◌}
use Rattle.std.specs.List.{AllZip}
use Rattle.graphql_lexical.specs.Cutting.{Lexeme}
use Rattle.graphql_lexical.specs.laws.Alike.{Alike}

pub alike_sym : (as' bs : List Lexeme) → AllZip Alike as' bs → AllZip Alike bs as'
alike_sym [] [] p = tt
alike_sym [] (b ∷ bs) p = absurd p
alike_sym (a ∷ as') [] p = absurd p
alike_sym (a ∷ as') (b ∷ bs) p = (record { kind = sym p.0.kind; text = sym p.0.text }, alike_sym as' bs p.1)

pub alike_trans : (as' bs cs : List Lexeme) → AllZip Alike as' bs → AllZip Alike bs cs → AllZip Alike as' cs
alike_trans [] [] [] p q = tt
alike_trans [] [] (c ∷ cs) p q = absurd q
alike_trans [] (b ∷ bs) cs p q = absurd p
alike_trans (a ∷ as') [] cs p q = absurd p
alike_trans (a ∷ as') (b ∷ bs) [] p q = absurd q
alike_trans (a ∷ as') (b ∷ bs) (c ∷ cs) p q =
    (record { kind = p.0.kind ∙ q.0.kind; text = p.0.text ∙ q.0.text }, alike_trans as' bs cs p.1 q.1)

pub alike_join : (as' bs cs ds : List Lexeme) → AllZip Alike as' bs → AllZip Alike cs ds → AllZip Alike (as' ++ cs) (bs ++ ds)
alike_join [] [] cs ds p q = q
alike_join [] (b ∷ bs) cs ds p q = absurd p
alike_join (a ∷ as') [] cs ds p q = absurd p
alike_join (a ∷ as') (b ∷ bs) cs ds p q = (p.0, alike_join as' bs cs ds p.1 q)
