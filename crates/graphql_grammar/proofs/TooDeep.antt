-- Tokens that are nested too deep, by the tokens before them and by their number: the same, both ways.
use Rattle.std.proofs.Common.{ℕ, List, [], ◌∷◌, ◌++◌, length, refl, sym, subst}
use Rattle.graphql_lexical.specs.Cutting.{Lexeme}
use Rattle.graphql_lexical.proofs.Public.{deeper_after, after_deeper, up_to_token}
use Rattle.graphql_grammar.specs.Tree.{Scalars}
use Rattle.graphql_grammar.specs.Depth.{IsTooDeep}
use Rattle.graphql_grammar.specs.device.AlikeFaults.{BeginsDocument, IsTooDeepAt}
use Rattle.graphql_grammar.proofs.Begun.{to_begins, from_begins}

module _ {C F : Type 0} (S : Scalars C F) (depth : ℕ) (ts : List Lexeme) where
  pub too_deep_after : (i : ℕ) (t : Lexeme) (d : IsTooDeepAt S depth ts i t) → IsTooDeep S depth ts d.deeper.before t
  too_deep_after i t d =
      let f = d.deeper in
      record {
        deeper = deeper_after depth ts i t f;
        begins = from_begins S (f.before ++ t ∷ []) (subst (BeginsDocument S) (up_to_token ts f.before f.after t i f.whole f.number) d.begins);
      }

  pub after_too_deep : (before : List Lexeme) (t : Lexeme) → IsTooDeep S depth ts before t → IsTooDeepAt S depth ts (length before) t
  after_too_deep before t d =
      let f = d.deeper in
      record {
        deeper = after_deeper depth ts before t f;
        begins = subst (BeginsDocument S) (sym (up_to_token ts before f.after t (length before) f.whole refl)) (to_begins S (before ++ t ∷ []) d.begins);
      }
