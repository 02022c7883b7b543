-- A source is one literal, is refused, or is nested too deep: exactly one of these.
use Rattle.std.proofs.Common.{◌≡◌, ◌⊎◌, ℕ, ◌<◌, ◌≤◌, Bool, true, false, List, [], ◌∷◌, ◌++◌, length, refl, sym, ap, ap₂}
use Rattle.std.proofs.Common.{◌∙◌, subst, arith, inl, inr, append_assoc, length-append, Err}
use Rattle.std.specs.Prelude.{◌≢◌, IsErr, Result}
use Rattle.graphql_lexical.specs.Place.{Span}
use Rattle.graphql_lexical.specs.Kinds.{same_kind}
use Rattle.graphql_lexical.specs.declared.kind.Kind.{Kind}
use Rattle.graphql_lexical.specs.declared.kind.Kind.TheVariants.{EndOfFile}
use Rattle.graphql_lexical.specs.Cutting.{Lexeme, Cut, EndsOnce}
use Rattle.graphql_lexical.specs.Nesting.{ended_by, IsFirstDeeper}
use Rattle.graphql_lexical.specs.device.Indexed.{nesting_at, IsFirstDeeperAt}
use Rattle.std.proofs.lemmas.Bool.{cases_order}
use Rattle.graphql_lexical.proofs.Public.{one_cut_or_break, after_deeper, crossed, deeper_after}
use Rattle.graphql_grammar.specs.Tokens.{Located, span_of}
use Rattle.graphql_grammar.specs.Tree.{Scalars, Value, TypeRef}
use Rattle.graphql_grammar.specs.Grammar.{IsScalarKind, IsType}
use Rattle.graphql_grammar.specs.Faults.{AtFault, BeginsValue, BeginsType, other}
use Rattle.graphql_grammar.specs.Faults as named
use Rattle.graphql_grammar.specs.device.Faults.{TypeFaultAt, ValueFaultAt}
use Rattle.graphql_grammar.specs.device.Productions.{symbol_at}
use Rattle.graphql_grammar.specs.device.Reading.{Took, Refused, Out, GivesFront, a_type, a_value, fully}
use Rattle.graphql_grammar.specs.device.Reading as reading
use Rattle.graphql_grammar.proofs.Public.{IsSpannedType, cut_ends, cut_spelled, end_parts, same_parts, short_ends}
use Rattle.graphql_grammar.proofs.Public.{type_error, type_given, value_error, value_given}
use Rattle.juniper_tokens.specs.Errors.{Error, UnexpectedEndOfFile, Fault}
use Rattle.juniper_tokens.specs.device.Nested.{IsShallowAt}
use Rattle.juniper_parser.specs.Promise.{lexical_fault, unexpected}
use Rattle.juniper_parser.specs.device.Seen.{error_of}
use Rattle.juniper_parser.specs.device.Steps.{no_scalars}
use Rattle.juniper_documents.specs.Literals.{IsAlone, BeginsAlone, HasLiteral, HasLiteralTooDeep, HasOneLiteralResult}
use Rattle.juniper_documents.specs.Literals.{IsLiteralRefusal, IsLiteralWithin, NamesTypeError, NamesValueError}
use Rattle.juniper_documents.specs.Literals.{grammatical, lexical}
use Rattle.juniper_documents.specs.device.Alone as alone
use Rattle.juniper_documents.proofs.DepthLimits.{shallow_or_deeper}
use Rattle.juniper_documents.proofs.LiteralAnswers.{Typ, Val, from_type, from_value, no_end, no_value_stands, to_type}
use Rattle.juniper_documents.proofs.LiteralAnswers.{to_value, whole_alone}
use Rattle.juniper_documents.proofs.LiteralEnds.{MayEnd, longer_type, no_longer_value, one_located_type, one_value}
use Rattle.juniper_documents.proofs.LiteralEnds.{type_last, value_last}
use Rattle.juniper_documents.proofs.LiteralSources.{begun_literal, has_literal, literal_refusal, short_no_literal}
use Rattle.juniper_documents.proofs.LiteralSources.{short_refused, unbegun_literal}
use Rattle.juniper_documents.proofs.LiteralTokens.{NoLonger, fault_alone, named_alone, refused_after}

-- ---- tokens that end once

rest_ends : (us : List Lexeme) (t : Lexeme) (after : List Lexeme) → EndsOnce (us ++ t ∷ after) → EndsOnce (t ∷ after)
rest_ends [] t after ends = ends
rest_ends (x ∷ []) t after ends = ends.1
rest_ends (x ∷ y ∷ us) t after ends = rest_ends (y ∷ us) t after ends.1

-- a list is a literal and the end, or is refused
abbrev IsOrRefused : {A : Type 0} → (A → List Lexeme → Type 0) → (List Lexeme → Lexeme → Error → Type 0) → List Lexeme
    → Type 0
IsOrRefused {A} R Names ts = ((x : A) × IsAlone R x ts) ⊎ ((fault : Fault) × alone.Refused R Names ts fault)

module _ {A : Type 0} (R : A → List Lexeme → Type 0) (Names : List Lexeme → Lexeme → Error → Type 0)
    (last : (front : List Lexeme) (u : Lexeme) (x : A) → R x (front ++ u ∷ []) → MayEnd u.kind) where
  -- a literal that stands in front: the end comes after it, or a token that is refused
  after_front : (ts front rest : List Lexeme) (x : A) → EndsOnce ts → ts ≡ front ++ rest → R x front
      → ((t : Lexeme) (after : List Lexeme) → rest ≡ t ∷ after → t.kind ≢ EndOfFile
      → NoLonger R front t × Names front t (unexpected t.kind t.text))
      → IsOrRefused R Names ts
  after_front ts front [] x ends e h goes_on =
      let parts = end_parts ts ends in
      let whole = subst (R x) (sym (e ∙ append_nil_of front) ∙ parts.whole) h in
      absurd ((last parts.inner parts.end x whole).1 parts.is_end)
    where
      append_nil_of : (us : List Lexeme) → us ++ [] ≡ us
      append_nil_of [] = refl
      append_nil_of (u ∷ us) = ap (λ (l : List Lexeme). u ∷ l) (append_nil_of us)
  after_front ts front (t ∷ after) x ends e h goes_on = by_test (same_kind t.kind EndOfFile) refl
    where
      rest_once : EndsOnce (t ∷ after)
      rest_once = rest_ends front t after (subst EndsOnce e ends)

      by_test : (b : Bool) → same_kind t.kind EndOfFile ≡ b → IsOrRefused R Names ts
      by_test true is = inl (
        x,
        whole_alone R ts (t ∷ after) x (record { taken = front; whole = e; means = h })
            rest_once is,
      )
      by_test false is =
          let more = goes_on t after refl (no_end t is) in
          inr (
            record { error = unexpected t.kind t.text; span = t.span },
            record {
              before = front;
              token = t;
              at = subst (λ (l : List Lexeme). AtFault (BeginsAlone R) l front t) (sym e)
                  (refused_after R front after t x h (no_end t is) more.0);
              names = more.1;
              span = refl;
            },
          )

-- ---- values and types

module _ {C : Type 0} (S : Scalars C Error) (free : Bool) (ts : List Lexeme) (ends : EndsOnce ts) where
  value_by_reading : (z : reading.Read Error (Located (Value C)))
      → GivesFront (Val S free) (ValueFaultAt S free ts) ts z
      → IsOrRefused (Val S free) (NamesValueError S free) ts
  value_by_reading (Took v rest) (front, whole, means, _) =
      after_front (Val S free) (NamesValueError S free) (value_last S free) ts front rest v ends whole means
      (λ t after is none. (
        λ more w k. no_longer_value S free front more t v w means k,
        other none (λ s r stands. no_value_stands S free front v means stands),
      ))
  value_by_reading (Refused [] e) g = absurd g
  value_by_reading (Refused (t ∷ rest) e) (none, (before, whole, at)) =
      let refused = value_error UnexpectedEndOfFile unexpected S free ts before t e at in
      inr (
        record { error = error_of e; span = t.span },
        record {
          before = before;
          token = t;
          at = fault_alone (Val S free) (BeginsValue S free) (to_value S free) (from_value S free) ts before t none
              refused.0;
          names = named_alone (Val S free) (BeginsValue S free) (to_value S free) (from_value S free)
              UnexpectedEndOfFile unexpected S before t (error_of e) refused.1;
          span = refl;
        },
      )
  value_by_reading Out g = absurd g

  value_or_refused : IsOrRefused (Val S free) (NamesValueError S free) ts
  value_or_refused =
      value_by_reading (fully (λ n. symbol_at S n (Located (Value C)) (a_value free)) ts) (value_given S free ts ends)

module _ (ts : List Lexeme) (ends : EndsOnce ts) where
  type_by_reading : (z : reading.Read Error (Located TypeRef)) → GivesFront IsSpannedType (TypeFaultAt ts) ts z
      → IsOrRefused Typ NamesTypeError ts
  type_by_reading (Took x rest) (front, whole, means, longest) =
      after_front Typ NamesTypeError (λ us u y h. type_last us u y.item h.0) ts front rest x ends whole means
      (λ t after is none. (
        λ more y k.
            let nothing = longer_type front more t x.item y.item means.0 k.0 in
            let one : IsType y.item (front ++ t ∷ []) =
            subst (λ (l : List Lexeme). IsType y.item (front ++ t ∷ l)) nothing k.0 in
            let short : length (front ++ t ∷ []) ≤ length front =
            longest (front ++ t ∷ []) after (record { item = y.item; span = span_of (front ++ t ∷ []) })
            (whole ∙ ap (λ (l : List Lexeme). front ++ l) is ∙ sym (append_assoc front (t ∷ []) after)) (one, refl) in
            absurd (omega (arith, short, length-append front (t ∷ []))),
        inr (none, refl),
      ))
  type_by_reading (Refused [] e) g = absurd g
  type_by_reading (Refused (t ∷ rest) e) (none, (before, whole, at)) =
      let refused = type_error UnexpectedEndOfFile unexpected ts before t e at in
      inr (
        record { error = error_of e; span = t.span },
        record {
          before = before;
          token = t;
          at = fault_alone Typ BeginsType to_type from_type ts before t none refused.0;
          names = refused.1;
          span = refl;
        },
      )
  type_by_reading Out g = absurd g

  type_or_refused : IsOrRefused Typ NamesTypeError ts
  type_or_refused =
      type_by_reading (fully (λ n. symbol_at no_scalars n (Located TypeRef) a_type) ts) (type_given no_scalars ts ends)

-- ---- one error

scalar_no_end : (k : Kind) → IsScalarKind k → k ≡ EndOfFile → ⊥
scalar_no_end k (inl e) h = absurd (cc (sym e ∙ h))
scalar_no_end k (inr (inl e)) h = absurd (cc (sym e ∙ h))
scalar_no_end k (inr (inr (inl e))) h = absurd (cc (sym e ∙ h))
scalar_no_end k (inr (inr (inr e))) h = absurd (cc (sym e ∙ h))

is_err : {C : Type 0} (r : Result C Error) {e : Error} → r ≡ Err e → IsErr r
is_err r e = subst IsErr (sym e) refl

value_names_one : {C : Type 0} (S : Scalars C Error) (free : Bool) (before : List Lexeme) (t : Lexeme) (e f : Error)
    → NamesValueError S free before t e → NamesValueError S free before t f → e ≡ f
value_names_one S free before t _ _ (named.end h) (named.end k) = refl
value_names_one S free before t _ _ (named.end h) (named.own s r v) = absurd (scalar_no_end t.kind s h)
value_names_one S free before t _ _ (named.end h) (named.other n o) = absurd (n h)
value_names_one S free before t _ _ (named.own s r v) (named.end h) = absurd (scalar_no_end t.kind s h)
value_names_one S free before t _ _ (named.own s r v) (named.own s' r' v') = cc (sym r ∙ r')
value_names_one S free before t _ _ (named.own s r v) (named.other n o) = absurd (o s (is_err _ r) v)
value_names_one S free before t _ _ (named.other n o) (named.end h) = absurd (n h)
value_names_one S free before t _ _ (named.other n o) (named.own s r v) = absurd (o s (is_err _ r) v)
value_names_one S free before t _ _ (named.other n o) (named.other n' o') = refl

type_names_one : (before : List Lexeme) (t : Lexeme) (e f : Error) → NamesTypeError before t e
    → NamesTypeError before t f
    → e ≡ f
type_names_one before t e f (inl (h, x)) (inl (k, y)) = x ∙ sym y
type_names_one before t e f (inl (h, x)) (inr (n, y)) = absurd (n h)
type_names_one before t e f (inr (n, x)) (inl (h, y)) = absurd (n h)
type_names_one before t e f (inr (n, x)) (inr (m, y)) = x ∙ sym y

-- a token that stands within a front is the front's
within_front : (us vs before after : List Lexeme) (t : Lexeme) → us ++ vs ≡ before ++ t ∷ after
    → length before < length us
    → (middle : List Lexeme) × (us ≡ before ++ t ∷ middle)
within_front [] vs before after t e l = absurd (omega (arith, l))
within_front (u ∷ us) vs [] after t e l = let h : u ≡ t = cc in (us, ap (λ (x : Lexeme). x ∷ us) h)
within_front (u ∷ us) vs (b ∷ bs) after t e l =
    let h : us ++ vs ≡ bs ++ t ∷ after = cc in
    let k : u ≡ b = cc in
    let w = within_front us vs bs after t h (omega (arith, l)) in
    (w.0, ap₂ (λ (x : Lexeme) (xs : List Lexeme). x ∷ xs) k w.1)

-- ---- a source

module _ {A : Type 0} (R : A → List Lexeme → Type 0) (Names : List Lexeme → Lexeme → Error → Type 0)
    (last : (front : List Lexeme) (u : Lexeme) (x : A) → R x (front ++ u ∷ []) → MayEnd u.kind)
    (one : (ts : List Lexeme) (x y : A) → R x ts → R y ts → x ≡ y)
    (names_one : (before : List Lexeme) (t : Lexeme) (e f : Error) → Names before t e → Names before t f → e ≡ f)
    (decide : (ts : List Lexeme) → EndsOnce ts → IsOrRefused R Names ts) (depth : ℕ) (source : List ℕ) where
  -- where tokens are refused they are refused with one error, and are no literal and the end
  one_fault : (ts us vs : List Lexeme) (t u : Lexeme) → AtFault (BeginsAlone R) ts us t
      → AtFault (BeginsAlone R) ts vs u
      → (us ≡ vs) × (t ≡ u)
  one_fault ts us vs t u h k = elim (cases_order (length us) (length vs)) [
    | inl same ↦ same_parts us vs h.after k.after t u same (sym h.whole ∙ k.whole)
    | inr (inl less) ↦ absurd (earlier ts us vs t u h k less)
    | inr (inr less) ↦ absurd (earlier ts vs us u t k h less)
  ]
    where
      -- a front of what begins a literal begins it
      front_begins : (xs ys : List Lexeme) → BeginsAlone R (xs ++ ys) → BeginsAlone R xs
      front_begins xs ys b = record {
        more = ys ++ b.more;
        literal = b.literal;
        alone = subst (IsAlone R b.literal) (append_assoc xs ys b.more) b.alone;
      }

      earlier : (ts us vs : List Lexeme) (t u : Lexeme) → AtFault (BeginsAlone R) ts us t
          → AtFault (BeginsAlone R) ts vs u
          → length us < length vs → ⊥
      earlier ts us vs t u h k less =
          let w = within_front vs (u ∷ k.after) us h.after t (sym k.whole ∙ h.whole) less in
          h.ends (front_begins (us ++ t ∷ []) w.0
          (subst (BeginsAlone R) (w.1 ∙ sym (append_assoc us (t ∷ []) w.0)) k.begins))

  literal_or_refused : (x : A) (fault : Fault) → HasLiteral R source x → IsLiteralRefusal R Names source fault → ⊥
  literal_or_refused x _ h (lexical b) = (one_cut_or_break source).never_both h.lexemes _ _ h.cut b
  literal_or_refused x _ h (grammatical {ts} {before} {t} cut at names) =
      let same = (one_cut_or_break source).one_cut h.lexemes ts h.cut cut in
      at.ends (record {
        more = at.after;
        literal = x;
        alone = subst (IsAlone R x) (same ∙ at.whole ∙ sym (append_assoc before (t ∷ []) at.after)) h.alone;
      })

  one_refusal : (f g : Fault) → IsLiteralRefusal R Names source f → IsLiteralRefusal R Names source g → f ≡ g
  one_refusal _ _ (lexical {error} {at} b) (lexical {error = wrong} {at = there} c) =
      let same = (one_cut_or_break source).one_break error wrong at there b c in ap₂ lexical_fault same.0 same.1
  one_refusal _ _ (lexical b) (grammatical {ts} cut at names) =
      absurd ((one_cut_or_break source).never_both ts _ _ cut b)
  one_refusal _ _ (grammatical {ts} cut at names) (lexical c) =
      absurd ((one_cut_or_break source).never_both ts _ _ cut c)
  one_refusal _ _ (grammatical {ts} {before} {t} {error} cut at names)
      (grammatical {ts = us} {before = vs} {t = u} {error = wrong} d there others) =
      let same = (one_cut_or_break source).one_cut us ts d cut in
      let parts = one_fault ts before vs t u at (subst (λ (l : List Lexeme). AtFault (BeginsAlone R) l vs u) same there)
      in
      let moved = subst (λ (x : Lexeme). Names before x wrong) (sym parts.1)
      (subst (λ (l : List Lexeme). Names l u wrong) (sym parts.0) others) in
      ap₂ (λ (e : Error) (x : Lexeme). record { error = e; span = x.span }) (names_one before t error wrong names moved)
      parts.1

  abbrev Some : Type 0
  Some = (IsLiteralWithin R depth source × ((x : A) × HasLiteral R source x))
      ⊎ ((IsLiteralWithin R depth source × ((fault : Fault) × IsLiteralRefusal R Names source fault))
      ⊎ ((span : Span) × HasLiteralTooDeep R depth source span))

  module _ (ts : List Lexeme) (cut : Cut source ts) where
    shallow_within : IsShallowAt depth ts → IsLiteralWithin R depth source
    shallow_within shallow = record {
      none = λ span h.
          let same = (one_cut_or_break source).one_cut h.lexemes ts h.cut cut in
          let d = subst (λ (l : List Lexeme). IsFirstDeeper depth l h.before h.token) same h.deeper in
          let inside : length h.before < length ts =
          omega (arith, ap length d.whole, length-append h.before (h.token ∷ d.after)) in
          crossed (nesting_at ts (length h.before)) depth (shallow (length h.before) inside)
          (after_deeper depth ts h.before h.token d).deeper;
    }

    shallow_some : IsShallowAt depth ts → Some
    shallow_some shallow = elim (decide ts (cut_ends source ts cut)) [
      | inl (x, h) ↦ inl (shallow_within shallow, (x, has_literal R one source ts cut x h))
      | inr (fault, r) ↦ inr (inl (shallow_within shallow, (fault, literal_refusal R Names source ts cut fault r)))
    ]

    deep_some : (i : ℕ) (t : Lexeme) → IsFirstDeeperAt depth ts i t → Some
    deep_some i t d =
        let f = deeper_after depth ts i t d in
        let ends = short_ends no_scalars depth ts i t d (cut_spelled source ts cut) (cut_ends source ts cut) in
        elim (decide (ended_by d.before t) ends) [
          | inl (x, h) ↦ absurd (short_no_literal R Names source ts cut depth d.before t f last x h)
          | inr (fault, r) ↦ elim (short_refused R Names source ts cut depth d.before t f fault r) [
            | inl (begins, _) ↦
                inr (inr (t.span, begun_literal R Names source ts cut depth d.before t f begins t.span refl))
            | inr (none, refused, _) ↦ inr (inl (
              unbegun_literal R Names source ts cut depth d.before t f none,
              (fault, literal_refusal R Names source ts cut fault refused),
            ))
          ]
        ]

  some : Some
  some = elim (one_cut_or_break source).some [
    | inl (ts, cut) ↦ elim (shallow_or_deeper depth ts) [
      | inl shallow ↦ shallow_some ts cut shallow
      | inr (i, t, d) ↦ deep_some ts cut i t d
    ]
    | inr (error, at, b) ↦ inr (inl (
      record { none = λ span h. (one_cut_or_break source).never_both h.lexemes error at h.cut b },
      (lexical_fault error at, lexical b),
    ))
  ]

  one_result : HasOneLiteralResult R depth source Names
  one_result = record {
    some = some;
    literal_or_refused = literal_or_refused;
    one_refusal = one_refusal;
    within_or_too_deep = λ span h d. h.none span d;
  }

pub one_value_result : {C : Type 0} (S : Scalars C Error) (free : Bool) (depth : ℕ) (source : List ℕ)
    → HasOneLiteralResult (Val S free) depth source (NamesValueError S free)
one_value_result S free = one_result (Val S free) (NamesValueError S free) (value_last S free) (one_value S free)
    (value_names_one S free) (value_or_refused S free)

pub one_type_result : (depth : ℕ) (source : List ℕ) → HasOneLiteralResult Typ depth source NamesTypeError
one_type_result = one_result Typ NamesTypeError (λ us u x h. type_last us u x.item h.0) one_located_type type_names_one
    type_or_refused
