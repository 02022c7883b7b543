-- What the steps of a cursor take.
use Rattle.std.proofs.Common.{◌≡◌, ℕ, Bool, true, false, cond, List, [], ◌∷◌, bytes_eq, Option, Some, None, Ok, refl, sym, ap, ◌∙◌}
use Rattle.std.specs.Cmp.{first_so}
use Rattle.graphql_lexical.specs.declared.kind.Kind.TheVariants.{Name, EndOfFile}
use Rattle.graphql_lexical.specs.Kinds.{same_kind}
use Rattle.graphql_lexical.specs.declared.kind.Kind.{Kind}
use Rattle.graphql_lexical.specs.Place.{Span}
use Rattle.graphql_lexical.specs.Cutting.{Lexeme}
use Rattle.graphql_grammar.specs.device.Reading.{passes, word}
use Rattle.graphql_grammar.proofs.Public.{of_kind}
use Rattle.juniper_tokens.specs.Cursor.{Read, EndsOnce, first_of, kind_at, next_at}
use Rattle.juniper_parser.specs.device.Steps.{closing_at}

pub ok_is : {A : Type 0} (x y : A × List Lexeme) → ◌≡◌ {A = Read A} (Ok x) (Ok y) → x ≡ y
ok_is x y e = cc

-- what is of a kind other than the end's is not the end
pub closing_is_no_end : (k : Kind) (ts : List Lexeme) → same_kind k EndOfFile ≡ false → same_kind (kind_at ts) k ≡ true
    → same_kind (kind_at ts) EndOfFile ≡ false
closing_is_no_end k ts e p = ap (λ (z : Kind). same_kind z EndOfFile) (of_kind k (first_of ts) p) ∙ e

-- a word is not the end
pub word_is_no_end : (w : List ℕ) (ts : List Lexeme) → passes (word w) (first_of ts) ≡ true
    → same_kind (kind_at ts) EndOfFile ≡ false
word_is_no_end w ts e =
    closing_is_no_end Name ts refl (first_so (same_kind (kind_at ts) Name) (bytes_eq (first_of ts).text w) e)

-- a token of this kind, not the end's, was taken
pub took : (k : Kind) (ts rest : List Lexeme) → same_kind k EndOfFile ≡ false → EndsOnce ts
    → (Some (first_of ts).span, rest) ≡ closing_at k ts
    → (same_kind (kind_at ts) k ≡ true) × (next_at ts ≡ Ok (first_of ts, rest))
took k [] rest e ended p = absurd ended
took k (t ∷ us) rest e ended p = by_kind (same_kind t.kind k) refl p
  where
    by_kind : (b : Bool) → same_kind t.kind k ≡ b
        → ◌≡◌ {A = Option Span × List Lexeme} (Some t.span, rest) (cond b (Some t.span, us) (None, t ∷ us))
        → (same_kind t.kind k ≡ true) × (next_at (t ∷ us) ≡ Ok (t, rest))
    by_kind true is p = (is, rw (closing_is_no_end k (t ∷ us) e is) (ap (λ (z : Option Span × List Lexeme). Ok (t, z.1)) (sym p)))
    by_kind false is p =
        let apart : Some t.span ≡ None = ap (λ (z : Option Span × List Lexeme). z.0) p in absurd (cc apart)
