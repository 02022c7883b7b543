-- The laws of the grammar, from the tokens of a text to the text.
use Rattle.std.proofs.Common.{◌≡◌, ◌⊎◌, ℕ, List, inl, inr, refl, sym, ap, ap₂, subst, ◌∙◌}
use Rattle.std.specs.List.{AllZip}
use Rattle.graphql_lexical.specs.Place.{Span}
use Rattle.graphql_lexical.specs.Cutting.{Lexeme, Cut}
use Rattle.graphql_lexical.specs.laws.Alike.{Alike}
use Rattle.graphql_lexical.proofs.Public.{one_cut_or_break}
use Rattle.graphql_grammar.specs.Tree.{Scalars, Definition}
use Rattle.graphql_grammar.specs.Grammar.{IsDocument}
use Rattle.graphql_grammar.specs.Faults.{DocumentRefusedAt}
use Rattle.graphql_grammar.specs.Unlocated.{SameDocument}
use Rattle.graphql_grammar.proofs.Public as tokens
use Rattle.graphql_grammar.proofs.Public.{cut_spelled, cut_ends}
use Rattle.juniper_tokens.specs.Errors.{Error, UnexpectedEndOfFile, Fault}
use Rattle.juniper_parser.specs.Promise.{lexical_fault, HasTree, unexpected, IsRefusal}
use Rattle.juniper_documents.specs.laws.RefusalClauses.{IsRefusalByClauses}
use Rattle.juniper_documents.specs.Sources.{AreRefusedAlike}
use Rattle.juniper_documents.proofs.Promises.{tree_of, refusal_at, lexical}
use Rattle.juniper_documents.proofs.Refusals.{by_clauses, by_cases}

abbrev as_fault : Error → Span → Fault
as_fault error span = record { error = error; span = span }

module _ {C : Type 0} (S : Scalars C Error) where
  pub refusal_of : (source : List ℕ) (ts before : List Lexeme) (t : Lexeme) (e : Error) → Cut source ts
      → DocumentRefusedAt UnexpectedEndOfFile unexpected S ts before t e
      → IsRefusalByClauses S source (as_fault e t.span)
  refusal_of source ts before t e cut refused =
      refusal_at S source ts cut (as_fault e t.span)
      (record { before = before; token = t; refused = refused; span = refl })

  pub either : (source : List ℕ) → ((tree : List (Definition C)) × HasTree S source tree)
      ⊎ ((fault : Fault) × IsRefusalByClauses S source fault)
  either source = elim (one_cut_or_break source).some [
    | inl cut ↦ elim (tokens.document_or_error UnexpectedEndOfFile unexpected S cut.0 (cut_spelled source cut.0 cut.1)
        (cut_ends source cut.0 cut.1)) [
          | inl d ↦ inl (d.0, tree_of S source cut.0 cut.1 d.0 d.1)
          | inr r ↦ inr (
            record { error = r.2; span = r.1.span },
            refusal_of source cut.0 r.0 r.1 r.2 cut.1 r.3,
          )
        ]
    | inr break ↦ inr (lexical_fault break.0 break.1, lexical S source break.0 break.1 _ break.2 refl)
  ]

  pub one : (source : List ℕ) (f g : Fault) → IsRefusalByClauses S source f → IsRefusalByClauses S source g → f ≡ g
  one source f g r s = elim (one_cut_or_break source).some [
    | inl cut ↦ (
        let x = r.grammatical cut.0 cut.1 in
        let y = s.grammatical cut.0 cut.1 in
        let same = tokens.one_document_error UnexpectedEndOfFile unexpected S cut.0 x.before y.before x.token y.token
        f.error g.error x.refused y.refused in
        ap₂ as_fault same.2
        (x.span ∙ ap (λ (t : Lexeme). t.span) same.1 ∙ sym y.span))
    | inr break ↦ r.lexical break.0 break.1 break.2 ∙ sym (s.lexical break.0 break.1 break.2)
  ]

  pub never_both : (source : List ℕ) (tree : List (Definition C)) (fault : Fault) → HasTree S source tree
      → IsRefusalByClauses S source fault → ⊥
  never_both source tree fault h r = r.no_document h.lexemes tree h.cut h.document

  pub alike_accepted : (a b : List ℕ) (ts us : List Lexeme) (x : List (Definition C)) → Cut a ts → Cut b us
      → AllZip Alike ts us → HasTree S a x → (y : List (Definition C)) × HasTree S b y × SameDocument x y
  alike_accepted a b ts us x c d alike h =
      let r = tokens.document_alike S ts us x alike
      (subst (λ (xs : List Lexeme). IsDocument S x xs) ((one_cut_or_break a).one_cut h.lexemes ts h.cut c) h.document) in
      (r.0, tree_of S b us d r.0 r.1, r.2)

  pub alike_refused : (a b : List ℕ) (ts us : List Lexeme) (f : Fault) → Cut a ts → Cut b us → AllZip Alike ts us
      → IsRefusalByClauses S a f → (g : Fault) × IsRefusalByClauses S b g × AreRefusedAlike S ts us f g
  alike_refused a b ts us f c d alike h =
      let x = h.grammatical ts c in
      let r = tokens.document_error_alike UnexpectedEndOfFile unexpected S ts us x.before x.token f.error alike
      x.refused in (
        record { error = f.error; span = r.1.span },
        refusal_of b us r.0 r.1 f.error d r.4,
        record {
          before = x.before;
          other_before = r.0;
          fronts = r.2;
          token = x.token;
          other = r.1;
          tokens = r.3;
          refused = x.refused;
          other_refused = r.4;
          span = x.span;
          other_span = refl;
          error = refl;
        },
      )

-- ---- the laws in the words of a refusal by cases

module _ {C : Type 0} (S : Scalars C Error) where
  pub either_refused : (source : List ℕ) → ((tree : List (Definition C)) × HasTree S source tree)
      ⊎ ((fault : Fault) × IsRefusal S source fault)
  either_refused source = elim (either S source) [
    | inl tree ↦ inl tree
    | inr refusal ↦ inr (refusal.0, by_clauses S source refusal.0 refusal.1)
  ]

  pub one_refused : (source : List ℕ) (f g : Fault) → IsRefusal S source f → IsRefusal S source g → f ≡ g
  one_refused source f g r s = one S source f g (by_cases S source f r) (by_cases S source g s)

  pub never_both_refused : (source : List ℕ) (tree : List (Definition C)) (fault : Fault) → HasTree S source tree
      → IsRefusal S source fault → ⊥
  never_both_refused source tree fault h r = never_both S source tree fault h (by_cases S source fault r)

  pub alike_refused_with : (a b : List ℕ) (ts us : List Lexeme) (f : Fault) → Cut a ts → Cut b us → AllZip Alike ts us
      → IsRefusal S a f → (g : Fault) × IsRefusal S b g × AreRefusedAlike S ts us f g
  alike_refused_with a b ts us f c d alike h =
      let r = alike_refused S a b ts us f c d alike (by_cases S a f h) in
      (r.0, by_clauses S b r.0 r.1, r.2)
