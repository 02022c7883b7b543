-- From a value or a type at the front of tokens to one and then the end.
use Rattle.std.proofs.Common.{◌≡◌, ◌≤◌, Bool, true, false, cond, List, [], ◌∷◌, ◌++◌, length, refl, sym, ap, ◌∙◌, subst}
use Rattle.std.proofs.Common.{arith, inr, append_assoc, Result, Ok, Err}
use Rattle.std.specs.Prelude.{◌≢◌, OnOk}
use Rattle.graphql_lexical.specs.Kinds.{same_kind}
use Rattle.graphql_lexical.specs.declared.kind.Kind.{Kind}
use Rattle.graphql_lexical.specs.declared.kind.Kind.TheVariants.{EndOfFile}
use Rattle.graphql_lexical.specs.Cutting.{Lexeme, EndsOnce}
use Rattle.graphql_lexical.specs.Display.{shown}
use Rattle.graphql_grammar.specs.Tokens.{Located, span_of}
use Rattle.graphql_grammar.specs.Tree.{Scalars, Value, TypeRef}
use Rattle.graphql_grammar.specs.Grammar.{Is, IsLocated, IsValue, IsType}
use Rattle.graphql_grammar.specs.Faults.{AtFault, BeginsValue, BeginsType, ValueMayStand, other}
use Rattle.graphql_grammar.proofs.Public.{row}
use Rattle.juniper_tokens.specs.declared.error.ParseFailure.{ParseFailure}
use Rattle.juniper_tokens.specs.declared.error.ParseFailure.TheVariants as failure
use Rattle.juniper_tokens.specs.Cursor.{◌>>=◌, Read, Fails, Gives, kind_at, refused_at}
use Rattle.juniper_tokens.specs.Errors.{Error, UnexpectedToken, UnexpectedEndOfFile, Fault, view_fault}
use Rattle.juniper_parser.specs.Promise.{Takes, unexpected}
use Rattle.juniper_parser.specs.device.Steps.{type_read, value_read}
use Rattle.juniper_parser.proofs.Public.{answers_type, answers_value}
use Rattle.juniper_documents.specs.Literals.{IsAlone, BeginsAlone, NamesTypeError, NamesValueError}
use Rattle.juniper_documents.specs.device.Alone.{Answers, Refused}
use Rattle.juniper_documents.proofs.LiteralTokens.{NoLonger, fault_alone, goes_on_alone, named_alone, refused_after}
use Rattle.juniper_documents.proofs.LiteralEnds.{longer_type, no_longer_value}

-- ---- what stands after a literal

-- the end alone, where it stands first
end_alone : (ts : List Lexeme) → EndsOnce ts → same_kind (kind_at ts) EndOfFile ≡ true → Is EndOfFile ts
end_alone [] ends h = absurd ends
end_alone (t ∷ []) ends h =
    (t.text, t.span, ap (λ (k : Kind). record { kind = k; text = t.text; span = t.span } ∷ []) ends)
end_alone (t ∷ u ∷ ts) ends h = absurd (cc (sym ends.0 ∙ h))

-- a token that is not the end
pub no_end : (t : Lexeme) → same_kind t.kind EndOfFile ≡ false → t.kind ≢ EndOfFile
no_end t h = λ k. let same : same_kind t.kind EndOfFile ≡ true = ap (λ (z : Kind). same_kind z EndOfFile) k in absurd
    (cc (sym h ∙ same))

-- two faults with what they leave
same_fault : {Y : Type 0} (a b : Fault) (p q : List Lexeme) → ◌≡◌ {A = Read Y} (Err (a, p)) (Err (b, q)) → b ≡ a
same_fault a b p q e = let h : (a, p) ≡ (b, q) = cc in sym (ap (λ (x : Fault × List Lexeme). x.0) h)

-- the fault of a token that is refused there
fault_here : {Y : Type 0} (t : Lexeme) (after left : List Lexeme) (fault : Fault) → same_kind t.kind EndOfFile ≡ false
    → refused_at {A = Y} (t ∷ after) ≡ Err (fault, left)
    → fault ≡ record { error = UnexpectedToken (shown t.kind t.text); span = t.span }
fault_here {Y} t after left fault h e =
    let refused : Fault = record { error = UnexpectedToken (shown t.kind t.text); span = t.span } in
    let here : refused_at {A = Y} (t ∷ after) ≡ Err (refused, after) =
    ap (λ (b : Bool). cond {A = Read Lexeme} b (Err (record { error = UnexpectedEndOfFile; span = t.span }, t ∷ after))
    (Ok (t, after)) >>= λ x. Err (record { error = UnexpectedToken (shown x.0.kind x.0.text); span = x.0.span }, x.1)) h
    in
    same_fault {Y = Y} refused fault after left (sym here ∙ e)

module _ {A : Type 0} (R : A → List Lexeme → Type 0) where
  -- a literal and the end
  pub whole_alone : (ts rest : List Lexeme) (x : A) → Takes R x ts rest → EndsOnce rest
      → same_kind (kind_at rest) EndOfFile ≡ true → IsAlone R x ts
  whole_alone ts rest x takes ends h =
      subst (IsAlone R x) (sym takes.whole) (row takes.taken rest takes.means (end_alone rest ends h))

  -- A literal and a token that is not the end: that is refused, since no literal goes on with it.
  more_refused : {Y : Type 0} (Names : List Lexeme → Lexeme → Error → Type 0) (ts after left : List Lexeme) (t : Lexeme)
      (x : A) (fault : Fault)
      → (takes : Takes R x ts (t ∷ after)) → same_kind t.kind EndOfFile ≡ false
      → refused_at {A = Y} (t ∷ after) ≡ Err (fault, left) → NoLonger R takes.taken t
      → Names takes.taken t (unexpected t.kind t.text) → Refused R Names ts fault
  more_refused {Y} Names ts after left t x fault takes h e longer names =
      let is = fault_here {Y = Y} t after left fault h e in
      record {
        before = takes.taken;
        token = t;
        at = subst (λ (l : List Lexeme). AtFault (BeginsAlone R) l takes.taken t) (sym takes.whole)
            (refused_after R takes.taken after t x takes.means (no_end t h) longer);
        names = subst (Names takes.taken t) (sym (ap (λ (f : Fault). f.error) is)) names;
        span = ap (λ (f : Fault). f.span) is;
      }

-- ---- values

module _ {C : Type 0} (S : Scalars C Error) (free : Bool) where
  abbrev pub Val : Located (Value C) → List Lexeme → Type 0
  Val = IsLocated (IsValue S free)

  pub to_value : (ts more : List Lexeme) (v : Located (Value C)) → Val v (ts ++ more) → BeginsValue S free ts
  to_value ts more v h = record { more = more; value = v; is_value = h }

  pub from_value : (ts : List Lexeme) → BeginsValue S free ts → (more : List Lexeme)
      × ((v : Located (Value C)) × Val v (ts ++ more))
  from_value ts b = (b.more, (b.value, b.is_value))

  -- after a value stands no other one
  pub no_value_stands : (taken : List Lexeme) (v : Located (Value C)) → Val v taken
      → ValueMayStand (BeginsAlone Val) taken → ⊥
  no_value_stands taken v h stands =
      let null = stands.null (span_of []) in
      let m = goes_on_alone Val taken _ (λ k. absurd (cc k)) null in
      no_longer_value S free taken m.0 _ v m.1.0 h (subst (Val m.1.0) (append_assoc taken _ m.0) m.1.1)

  pub value_alone : (ts rest : List Lexeme) (v : Located (Value C)) → EndsOnce ts → value_read S free ts ≡ Ok (v, rest)
      → EndsOnce rest → same_kind (kind_at rest) EndOfFile ≡ true → IsAlone Val v ts
  value_alone ts rest v ends e rest_ends h =
      whole_alone Val ts rest v (answers_value S free (λ x. x) (Ok v) ts rest ends e).0 rest_ends h

  pub value_more : {X : Type 0} (built : X → Located (Value C) → Type 0) (ts rest left : List Lexeme)
      (v : Located (Value C)) (failed : ParseFailure) → EndsOnce ts → value_read S free ts ≡ Ok (v, rest)
      → EndsOnce rest → same_kind (kind_at rest) EndOfFile ≡ false → Fails {Y = X} failed left (refused_at rest)
      → Answers Val (NamesValueError S free) {X = X} built (Err failed) ts
  value_more built ts [] left v failed ends e rest_ends h fails = absurd rest_ends
  value_more built ts (t ∷ after) left v failure.Memory ends e rest_ends h fails = tt
  value_more {X} built ts (t ∷ after) left v (failure.Refused fault) ends e rest_ends h fails =
      let takes = (answers_value S free (λ x. x) (Ok v) ts (t ∷ after) ends e).0 in
      more_refused Val {Y = X} (NamesValueError S free) ts after left t v (view_fault fault) takes h fails
      (λ more w k. no_longer_value S free takes.taken more t v w takes.means k)
      (other (no_end t h) (λ s r stands. no_value_stands takes.taken v takes.means stands))

  pub value_refused : {X : Type 0} (built : X → Located (Value C) → Type 0) (ts rest left : List Lexeme)
      (v : Located (Value C)) (result : Result X ParseFailure) → EndsOnce ts → value_read S free ts ≡ Ok (v, rest)
      → EndsOnce rest → same_kind (kind_at rest) EndOfFile ≡ false → OnOk result ⊥
      → Gives (λ x. x) result left (refused_at rest) → Answers Val (NamesValueError S free) built result ts
  value_refused built ts rest left v (Ok x) ends e rest_ends h never gives = absurd never
  value_refused built ts rest left v (Err failed) ends e rest_ends h never gives =
      value_more built ts rest left v failed ends e rest_ends h gives

  pub value_fails : {X : Type 0} (built : X → Located (Value C) → Type 0) (ts left : List Lexeme)
      (failed : ParseFailure)
      → EndsOnce ts → Fails failed left (value_read S free ts)
      → Answers Val (NamesValueError S free) {X = X} built (Err failed) ts
  value_fails built ts left failure.Memory ends fails = tt
  value_fails {X} built ts left (failure.Refused fault) ends fails =
      let view : Located (Value C) → Located (Value C) = λ x. x in
      let r = answers_value S free view (Err (failure.Refused fault)) ts left ends fails in
      record {
        before = r.before;
        token = r.token;
        at = fault_alone Val (BeginsValue S free) to_value from_value ts r.before r.token r.none r.refused.0;
        names = named_alone Val (BeginsValue S free) to_value from_value UnexpectedEndOfFile unexpected S r.before
            r.token
            (view_fault fault).error r.refused.1;
        span = r.span;
      }

-- ---- types

abbrev pub Typ : Located TypeRef → List Lexeme → Type 0
Typ = IsLocated IsType

pub to_type : (ts more : List Lexeme) (x : Located TypeRef) → Typ x (ts ++ more) → BeginsType ts
to_type ts more x h = record { more = more; type_ref = x.item; is_type = h.0 }

pub from_type : (ts : List Lexeme) → BeginsType ts → (more : List Lexeme) × ((x : Located TypeRef) × Typ x (ts ++ more))
from_type ts b = (b.more, (record { item = b.type_ref; span = span_of (ts ++ b.more) }, (b.is_type, refl)))

pub type_alone : (ts rest : List Lexeme) (x : Located TypeRef) → EndsOnce ts → type_read ts ≡ Ok (x, rest)
    → EndsOnce rest → same_kind (kind_at rest) EndOfFile ≡ true → IsAlone Typ x ts
type_alone ts rest x ends e rest_ends h =
    whole_alone Typ ts rest x (answers_type (λ y. y) (Ok x) ts rest ends e).0 rest_ends h

pub type_more : {X : Type 0} (built : X → Located TypeRef → Type 0) (ts rest left : List Lexeme) (x : Located TypeRef)
    (failed : ParseFailure) → EndsOnce ts → type_read ts ≡ Ok (x, rest) → EndsOnce rest
    → same_kind (kind_at rest) EndOfFile ≡ false → Fails {Y = X} failed left (refused_at rest)
    → Answers Typ NamesTypeError {X = X} built (Err failed) ts
type_more built ts [] left x failed ends e rest_ends h fails = absurd rest_ends
type_more built ts (t ∷ after) left x failure.Memory ends e rest_ends h fails = tt
type_more {X} built ts (t ∷ after) left x (failure.Refused fault) ends e rest_ends h fails =
    let answer = answers_type (λ y. y) (Ok x) ts (t ∷ after) ends e in
    let takes = answer.0 in
    more_refused Typ {Y = X} NamesTypeError ts after left t x (view_fault fault) takes h fails longer
    (inr (no_end t h, refl))
  where
    longer : NoLonger Typ (answers_type (λ y. y) (Ok x) ts (t ∷ after) ends e).0.taken t
    longer more y k =
        let answer = answers_type (λ y. y) (Ok x) ts (t ∷ after) ends e in
        let takes = answer.0 in
        let none = longer_type takes.taken more t x.item y.item takes.means.0 k.0 in
        let one : IsType y.item (takes.taken ++ t ∷ []) =
        subst (λ (l : List Lexeme). IsType y.item (takes.taken ++ t ∷ l)) none k.0 in
        let short : length (t ∷ after) ≤ length after = answer.1 (takes.taken ++ t ∷ []) after y.item
        (takes.whole ∙ sym (append_assoc takes.taken (t ∷ []) after)) one in
        absurd (omega (arith, short))

pub type_refused : {X : Type 0} (built : X → Located TypeRef → Type 0) (ts rest left : List Lexeme)
    (x : Located TypeRef)
    (result : Result X ParseFailure) → EndsOnce ts → type_read ts ≡ Ok (x, rest) → EndsOnce rest
    → same_kind (kind_at rest) EndOfFile ≡ false → OnOk result ⊥ → Gives (λ y. y) result left (refused_at rest)
    → Answers Typ NamesTypeError built result ts
type_refused built ts rest left x (Ok y) ends e rest_ends h never gives = absurd never
type_refused built ts rest left x (Err failed) ends e rest_ends h never gives =
    type_more built ts rest left x failed ends e rest_ends h gives

pub type_fails : {X : Type 0} (built : X → Located TypeRef → Type 0) (ts left : List Lexeme) (failed : ParseFailure)
    → EndsOnce ts → Fails failed left (type_read ts) → Answers Typ NamesTypeError {X = X} built (Err failed) ts
type_fails built ts left failure.Memory ends fails = tt
type_fails {X} built ts left (failure.Refused fault) ends fails =
    let view : Located TypeRef → Located TypeRef = λ x. x in
    let r = answers_type view (Err (failure.Refused fault)) ts left ends fails in
    record {
      before = r.before;
      token = r.token;
      at = fault_alone Typ BeginsType to_type from_type ts r.before r.token
          (λ us vs y q h. r.none us vs y.item q h.0) r.refused.0;
      names = r.refused.1;
      span = r.span;
    }
