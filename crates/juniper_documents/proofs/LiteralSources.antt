-- From the tokens of a source to the source, where they are to be a literal and then the end.
use Rattle.std.proofs.Common.{◌≡◌, ◌⊎◌, ℕ, ◌<◌, ◌≤◌, true, List, [], ◌∷◌, ◌++◌, length, sym, ap, ◌∙◌, subst, arith, inl}
use Rattle.std.proofs.Common.{inr, append_assoc}
use Rattle.std.specs.List.{AllByRecursion}
use Rattle.graphql_lexical.specs.Place.{Span}
use Rattle.graphql_lexical.specs.declared.kind.Kind.TheVariants.{EndOfFile}
use Rattle.graphql_lexical.specs.Cutting.{Lexeme, Cut}
use Rattle.graphql_lexical.specs.Nesting.{is_opening, nesting, end_after, ended_by, IsFirstDeeper}
use Rattle.graphql_lexical.proofs.Public.{one_cut_or_break, one_deep, after_deeper, crossed, opening_no_end, opens}
use Rattle.graphql_lexical.proofs.Public.{IsWide, tokens_wide, tokens_in_order}
use Rattle.graphql_grammar.proofs.Public.{middle_of, same_parts, token_in}
use Rattle.juniper_tokens.specs.Errors.{Error, Fault}
use Rattle.juniper_tokens.specs.Nesting.{IsShallow}
use Rattle.juniper_documents.specs.Literals.{IsAlone, BeginsAlone, HasLiteral, IsLiteralRefusal, HasLiteralTooDeep}
use Rattle.juniper_documents.specs.Literals.{IsLiteralWithin, grammatical}
use Rattle.juniper_documents.specs.device.Alone.{Refused}
use Rattle.juniper_documents.proofs.LiteralEnds.{MayEnd}
use Rattle.juniper_documents.proofs.LiteralTokens.{split_last, same_last}

module _ {A : Type 0} (R : A → List Lexeme → Type 0) (one : (ts : List Lexeme) (x y : A) → R x ts → R y ts
    → x ≡ y) where
  alone_parts : (ts : List Lexeme) (x : A) (h : IsAlone R x ts)
      → ts ≡ h.front ++ token_in EndOfFile h.back h.second ∷ []
  alone_parts ts x h = h.whole ∙ ap (λ (l : List Lexeme). h.front ++ l) h.second.2

  one_alone : (ts : List Lexeme) (x y : A) → IsAlone R x ts → IsAlone R y ts → x ≡ y
  one_alone ts x y h k =
      let same = same_last h.front k.front (token_in EndOfFile h.back h.second) (token_in EndOfFile k.back k.second)
      (sym (alone_parts ts x h) ∙ alone_parts ts y k) in
      one k.front x y (subst (R x) same.0 h.first) k.first

  pub has_literal : (source : List ℕ) (ts : List Lexeme) → Cut source ts → (x : A) → IsAlone R x ts
      → HasLiteral R source x
  has_literal source ts cut x h = record {
    lexemes = ts;
    cut = cut;
    alone = h;
    only = λ others other d k. one_alone ts other x
        (subst (IsAlone R other) ((one_cut_or_break source).one_cut others ts d cut) k) h;
  }

module _ {A : Type 0} (R : A → List Lexeme → Type 0) (Names : List Lexeme → Lexeme → Error → Type 0) (source : List ℕ)
    (ts : List Lexeme) (cut : Cut source ts) where
  pub literal_refusal : (fault : Fault) → Refused R Names ts fault → IsLiteralRefusal R Names source fault
  literal_refusal fault r =
      subst (IsLiteralRefusal R Names source) (ap (λ (s : Span). record { error = fault.error; span = s }) (sym r.span))
      (grammatical cut r.at r.names)

  module _ (depth : ℕ) where
    deep_here : (span : Span) (h : HasLiteralTooDeep R depth source span) → IsFirstDeeper depth ts h.before h.token
    deep_here span h =
        subst (λ (xs : List Lexeme). IsFirstDeeper depth xs h.before h.token)
        ((one_cut_or_break source).one_cut h.lexemes ts h.cut cut) h.deeper

    pub shallow_literal : IsShallow depth ts → IsLiteralWithin R depth source
    shallow_literal shallow = record {
      none = λ span h.
          let d = deep_here span h in
          crossed (nesting (h.before ++ h.token ∷ [])) depth
          (shallow (h.before ++ h.token ∷ []) d.after (d.whole ∙ sym (append_assoc h.before (h.token ∷ []) d.after)))
          d.deeper;
    }

    module _ (before : List Lexeme) (t : Lexeme) (d : IsFirstDeeper depth ts before t) where
      same_deep : (span : Span) (h : HasLiteralTooDeep R depth source span)
          → h.before ++ h.token ∷ [] ≡ before ++ t ∷ []
      same_deep span h =
          let k = deep_here span h in
          let number = one_deep depth ts (length h.before) (length before) h.token t
          (after_deeper depth ts h.before h.token k) (after_deeper depth ts before t d) in
          let same = same_parts h.before before k.after d.after h.token t number (sym k.whole ∙ d.whole) in
          ap (λ (l : List Lexeme). l ++ h.token ∷ []) same.0 ∙ ap (λ (x : Lexeme). before ++ x ∷ []) same.1

      pub unbegun_literal : (BeginsAlone R (before ++ t ∷ []) → ⊥) → IsLiteralWithin R depth source
      unbegun_literal none = record { none = λ span h. none (subst (BeginsAlone R) (same_deep span h) h.begins) }

      pub begun_literal : BeginsAlone R (before ++ t ∷ []) → (span : Span) → span ≡ t.span
          → HasLiteralTooDeep R depth source span
      begun_literal begins span e =
          record { lexemes = ts; cut = cut; before = before; token = t; deeper = d; begins = begins; at = e }

      t_opens : is_opening t.kind ≡ true
      t_opens = opens depth ts (length before) t (after_deeper depth ts before t d)

      short_parts : ended_by before t ≡ (before ++ t ∷ []) ++ end_after t ∷ []
      short_parts = sym (append_assoc before (t ∷ []) (end_after t ∷ []))

      -- they are no literal, since none ends in an opening bracket
      pub short_no_literal : ((front : List Lexeme) (u : Lexeme) (x : A) → R x (front ++ u ∷ []) → MayEnd u.kind)
          → (x : A) → IsAlone R x (ended_by before t) → ⊥
      short_no_literal last x h =
          let same = same_last h.front (before ++ t ∷ []) (token_in EndOfFile h.back h.second) (end_after t)
          (sym (h.whole ∙ ap (λ (l : List Lexeme). h.front ++ l) h.second.2) ∙ short_parts) in
          let may = last before t x (subst (R x) same.0 h.first) in
          absurd (cc (sym may.0 ∙ t_opens))

      -- Where they are refused: at their end, which stands where t ends, or before, where all tokens are.
      abbrev pub RefusedInFront : Fault → Type 0
      RefusedInFront fault = (BeginsAlone R (before ++ t ∷ []) → ⊥) × Refused R Names ts fault
          × (fault.span.start.index < t.span.end.index)

      pub short_refused : (fault : Fault) → Refused R Names (ended_by before t) fault
          → (BeginsAlone R (before ++ t ∷ []) × (fault.span.start.index ≡ t.span.end.index)) ⊎ RefusedInFront fault
      short_refused fault r =
          let whole : (r.before ++ r.token ∷ []) ++ r.at.after ≡ (before ++ t ∷ []) ++ end_after t ∷ [] =
          append_assoc r.before (r.token ∷ []) r.at.after ∙ sym r.at.whole ∙ short_parts in
          elim (split_last (r.before ++ r.token ∷ []) r.at.after (before ++ t ∷ []) (end_after t) whole) [
            | inl (_, is) ↦
                (let same = same_last r.before (before ++ t ∷ []) r.token (end_after t) is in
                inl (
                  subst (BeginsAlone R) same.0 r.at.begins,
                  ap (λ (s : Span). s.start.index) r.span ∙ ap (λ (x : Lexeme). x.span.start.index) same.1,
                ))
            | inr (inner, is, _) ↦ inr (in_front inner is)
          ]
        where
          in_front : (inner : List Lexeme) → before ++ t ∷ [] ≡ (r.before ++ r.token ∷ []) ++ inner
              → RefusedInFront fault
          in_front inner is =
              let all : ts ≡ r.before ++ r.token ∷ (inner ++ d.after) =
              d.whole ∙ sym (append_assoc before (t ∷ []) d.after)
              ∙ ap (λ (l : List Lexeme). l ++ d.after) is
              ∙ append_assoc (r.before ++ r.token ∷ []) inner d.after
              ∙ append_assoc r.before (r.token ∷ []) (inner ++ d.after) in
              let wide = middle_of IsWide before d.after t
              (subst (AllByRecursion IsWide) d.whole (tokens_wide source ts cut))
              (opening_no_end t.kind t_opens) in
              let no_later = middle_of (λ (x : Lexeme). x.span.start.index ≤ t.span.start.index) r.before inner r.token
              (subst (AllByRecursion (λ (x : Lexeme). x.span.start.index ≤ t.span.start.index))
              (is ∙ append_assoc r.before (r.token ∷ []) inner)
              (tokens_in_order source t d.after before (subst (Cut source) d.whole cut))) in (
                (λ b. r.at.ends (record {
                  more = inner ++ b.more;
                  literal = b.literal;
                  alone = subst (IsAlone R b.literal)
                      (ap (λ (l : List Lexeme). l ++ b.more) is ∙ append_assoc (r.before ++ r.token ∷ []) inner b.more)
                      b.alone;
                })),
                record {
                  before = r.before;
                  token = r.token;
                  at = record { after = inner ++ d.after; whole = all; begins = r.at.begins; ends = r.at.ends };
                  names = r.names;
                  span = r.span;
                },
                omega (arith, wide, no_later, ap (λ (s : Span). s.start.index) r.span),
              )
