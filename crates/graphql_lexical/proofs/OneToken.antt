-- After a text one token comes next, or one lexical error, and not both.
use Rattle.std.proofs.Common.{◌≡◌, ◌++◌, length, take, drop, sym, ap, ◌∙◌}
use Rattle.std.proofs.Math.Seq.{take-append_seam, drop-append_seam}
use Rattle.graphql_lexical.specs.Place.{Place}
use Rattle.graphql_lexical.specs.Characters.{Text}
use Rattle.graphql_lexical.specs.Kinds.{LexicalError}
use Rattle.graphql_lexical.specs.Cutting.{Lexeme, Stands, BreaksThere}
use Rattle.graphql_lexical.proofs.Cuts.{one_stands, stands_unbroken}
use Rattle.graphql_lexical.proofs.CutByTexts.{done_whole, stands_from_text, there_from_text}

done_there : (before left : Text) (x : Lexeme) (done after : Text) → Stands before left x done after
    → done ≡ take (length done) (before ++ left)
done_there before left x done after s =
    sym (ap (take (length done)) (done_whole before left x done after s) ∙ take-append_seam done after)

after_there : (before left : Text) (x : Lexeme) (done after : Text) → Stands before left x done after
    → after ≡ drop (length done) (before ++ left)
after_there before left x done after s =
    sym (ap (drop (length done)) (done_whole before left x done after s) ∙ drop-append_seam done after)

pub one_token : (before left : Text) (x y : Lexeme) (done after up_to rest : Text) → Stands before left x done after
    → Stands before left y up_to rest → (x ≡ y) × (done ≡ up_to) × (after ≡ rest)
one_token before left x y done after up_to rest s t =
    let one = one_stands (before ++ left) (length before) x y (length done) (length up_to)
    (stands_from_text before left x done after s) (stands_from_text before left y up_to rest t) in (
      one.0,
      done_there before left x done after s ∙ ap (λ n. take n (before ++ left)) one.1
          ∙ sym (done_there before left y up_to rest t),
      after_there before left x done after s ∙ ap (λ n. drop n (before ++ left)) one.1
          ∙ sym (after_there before left y up_to rest t),
    )

pub token_or_error : (before left : Text) (x : Lexeme) (done after : Text) (error : LexicalError) (at : Place)
    → Stands before left x done after → BreaksThere before left error at → ⊥
token_or_error before left x done after error at s b =
    let there = there_from_text before left error at b in
    stands_unbroken (before ++ left) (length before) x (length done) there.ignored there.size error
    (stands_from_text before left x done after s) there.longest_ignored there.fails
