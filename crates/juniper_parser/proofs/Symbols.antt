-- Values, types and selections, as readers of the grammar and as a cursor: what both answer.
use Rattle.std.proofs.Common.{◌≡◌, ℕ, zero, suc, Bool, true, false, List, [], ◌∷◌, refl, ap, ◌∙◌, inl, inr}
use Rattle.graphql_lexical.specs.Cutting.{Lexeme}
use Rattle.graphql_grammar.specs.Tokens.{Located}
use Rattle.graphql_grammar.specs.Tree.{Scalars, TypeRef}
use Rattle.graphql_grammar.specs.device.Reading.{Test, passes, Took, Refused, Out, Reader, after, seq, look, choose, a_value, a_type, a_selection}
use Rattle.graphql_grammar.specs.device.Reading as reading
use Rattle.graphql_grammar.specs.device.Productions.{symbol_at, named_type, list_type, nullable_type, non_null, type}
use Rattle.graphql_grammar.proofs.Public.{values_answer, types_answer, selections_answer}
use Rattle.juniper_tokens.specs.Errors.{Error}
use Rattle.juniper_parser.specs.device.Seen.{seen}
use Rattle.juniper_parser.specs.device.Steps.{no_scalars, value_read, type_read, selection_read}
use Rattle.juniper_parser.proofs.CursorGoes.{enough, SymbolsShown}

-- ---- a type is read alike, whatever the scalars are

abbrev Same : {F A : Type 0} → Reader F A → Reader F A → Type 0
Same f g = (ts : List Lexeme) → f ts ≡ g ts

after_same : {F A B : Type 0} (k l : A → Reader F B) (r : reading.Read F A) → ((x : A) → Same (k x) (l x))
    → after r k ≡ after r l
after_same k l (Took a rest) h = h a rest
after_same k l (Refused rest x) h = refl
after_same k l Out h = refl

seq_same : {F A B : Type 0} (f g : Reader F A) (k l : A → Reader F B) → Same f g → ((x : A) → Same (k x) (l x))
    → Same (seq f k) (seq g l)
unfolding seq
seq_same f g k l e h ts = ap (λ z. after z k) (e ts) ∙ after_same k l (g ts) h

look_same : {F A : Type 0} (test : Test) (f g k l : Reader F A) → Same f k → Same g l
    → Same (look test f g) (look test k l)
unfolding look
look_same test f g k l p q [] = q []
look_same {F} {A} test f g k l p q (t ∷ ts) = by_test (passes test t)
  where
    by_test : (b : Bool) → choose b f g (t ∷ ts) ≡ choose b k l (t ∷ ts)
    by_test true = p (t ∷ ts)
    by_test false = q (t ∷ ts)

same : {F A : Type 0} (f : Reader F A) → Same f f
same f ts = refl

types_same : {C D F : Type 0} (S : Scalars C F) (T : Scalars D F) (n : ℕ)
    → Same (symbol_at S n (Located TypeRef) a_type) (symbol_at T n (Located TypeRef) a_type)
unfolding symbol_at type nullable_type named_type list_type non_null
types_same S T zero ts = refl
types_same S T (suc n) ts = seq_same _ _ _ _
    (look_same _ _ _ _ _ (same _) (seq_same _ _ _ _ (same _) (λ o. seq_same _ _ _ _ (types_same S T n) (λ x. same _))))
    (λ x. same _) ts

module _ {C : Type 0} (S : Scalars C Error) where
  pub symbols_shown : SymbolsShown S
  unfolding value_read type_read selection_read
  symbols_shown A (a_value free) n ts = enough _ (values_answer S free) n ts
  symbols_shown A a_type n ts = elim (enough _ (types_answer no_scalars) n ts) [
    | inl e ↦ inl (types_same S no_scalars n ts ∙ e)
    | inr e ↦ inr (ap seen (types_same S no_scalars n ts) ∙ e)
  ]
  symbols_shown A a_selection n ts = enough _ (selections_answer S) n ts
