-- The scalar tokens of a document are those that its scalar type reads.
use Rattle.std.proofs.Common.{true, false, ◌≡◌, ◌∷◌, [], List, ◌++◌, sym, ap, ◌∙◌, inl, inr, Ok}
use Rattle.std.specs.Result.{is_ok}
use Rattle.std.specs.List.{AllByRecursion}
use Rattle.graphql_lexical.specs.declared.kind.Kind.{Kind}
use Rattle.graphql_lexical.specs.Cutting.{Lexeme}
use Rattle.graphql_grammar.specs.Tree.{Scalars, Definition}
use Rattle.graphql_grammar.specs.Grammar.{IsScalarKind, IsDocument}
use Rattle.graphql_grammar.specs.ScalarTokens.{IsRead}
use Rattle.graphql_grammar.proofs.Elements.{all_join}
use Rattle.graphql_grammar.proofs.Nested as nested
use Rattle.graphql_grammar.proofs.Nested.{is_plain, is_scalar, IsPair}
use Rattle.graphql_grammar.proofs.TokenTests.{both}
use Rattle.std.proofs.lemmas.Bool.{not-true}

no_scalar_kind : (k : Kind) → is_scalar k ≡ false → IsScalarKind k → ⊥
no_scalar_kind k n (inl e) = let z = sym n ∙ ap is_scalar e in absurd (cc z)
no_scalar_kind k n (inr (inl e)) = let z = sym n ∙ ap is_scalar e in absurd (cc z)
no_scalar_kind k n (inr (inr (inl e))) = let z = sym n ∙ ap is_scalar e in absurd (cc z)
no_scalar_kind k n (inr (inr (inr e))) = let z = sym n ∙ ap is_scalar e in absurd (cc z)

plain_is_none : (k : Kind) → is_plain k ≡ true → is_scalar k ≡ false
plain_is_none k p = not-true _ (both _ _ (both _ _ (both _ _ p).1).1).0

opening_is_none : (o c : Kind) → IsPair o c → is_scalar o ≡ false
opening_is_none o c (inl (a, b)) = ap is_scalar a
opening_is_none o c (inr (inl (a, b))) = ap is_scalar a
opening_is_none o c (inr (inr (a, b))) = ap is_scalar a

closing_is_none : (o c : Kind) → IsPair o c → is_scalar c ≡ false
closing_is_none o c (inl (a, b)) = ap is_scalar b
closing_is_none o c (inr (inl (a, b))) = ap is_scalar b
closing_is_none o c (inr (inr (a, b))) = ap is_scalar b

module _ {C F : Type 0} (S : Scalars C F) where
  AreRead : List Lexeme → Type 0
  AreRead = AllByRecursion (IsRead S)

  none : (t : Lexeme) → is_scalar t.kind ≡ false → AreRead (t ∷ [])
  unfolding AreRead
  none t n = ((λ s. absurd (no_scalar_kind t.kind n s)), tt)

  join : (us vs : List Lexeme) → AreRead us → AreRead vs → AreRead (us ++ vs)
  unfolding AreRead
  join us vs h k = all_join (IsRead S) us vs h k

  plain : (t : Lexeme) → is_plain t.kind ≡ true → AreRead (t ∷ [])
  plain t p = none t (plain_is_none t.kind p)

  around : (o c : Lexeme) (us : List Lexeme) → IsPair o.kind c.kind → AreRead us → AreRead (o ∷ us ++ (c ∷ []))
  around o c us p h = join (o ∷ []) (us ++ (c ∷ [])) (none o (opening_is_none o.kind c.kind p))
      (join us (c ∷ []) h (none c (closing_is_none o.kind c.kind p)))

  scalar : (t : Lexeme) (c : C) → IsScalarKind t.kind → S.read t.kind t.text ≡ Ok c → AreRead (t ∷ [])
  unfolding AreRead
  scalar t c s e = ((λ k. ap is_ok e), tt)

  pub document_is_read : (ts : List Lexeme) (ds : List (Definition C)) → IsDocument S ds ts
      → AllByRecursion (IsRead S) ts
  unfolding AreRead
  document_is_read = nested.document AreRead tt join plain around S scalar (λ t e. none t (ap is_scalar e))
