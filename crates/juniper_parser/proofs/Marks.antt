-- The span from a mark on is that of the tokens that were taken since.
use Rattle.std.proofs.Common.{◌≡◌, ℕ, zero, suc, ◌+◌, ◌-◌, ◌<◌, ◌≤◌, List, [], ◌∷◌, length, take, drop, Result, Ok, Err, refl, sym, ap, ◌∙◌, arith, length-drop}
use Rattle.std.specs.Prelude.{OnOk}
use Rattle.std.proofs.lemmas.List.{drop-drop}
use Rattle.graphql_lexical.specs.Place.{Place, Span}
use Rattle.graphql_lexical.specs.Cutting.{Lexeme, last_of}
use Rattle.graphql_grammar.specs.Tokens.{span_of, from_to}
use Rattle.graphql_grammar.specs.device.Reading.{front}
use Rattle.graphql_lexical.proofs.Public.{last_next}
use Rattle.juniper_tokens.specs.declared.error.ParseFailure.{ParseFailure}
use Rattle.juniper_tokens.specs.declared.error.ParseFailure.TheVariants as failures
use Rattle.juniper_tokens.specs.Errors.{view_fault}
use Rattle.juniper_tokens.specs.Cursor.{Read, ◌>>=◌, first_of}
use Rattle.juniper_tokens.specs.declared.error.ParseError.{ParseError}
use Rattle.juniper_tokens.specs.declared.span.Spanning.{Spanning}
use Rattle.juniper_tokens.specs.Taking.{Taking, left, last_end, next_taken, GoesOn}
use Rattle.juniper_tokens.proofs.Public.{more_taken}
use Rattle.juniper_parser.specs.device.Builds.{Builds}
use Rattle.juniper_parser.specs.device.Steps.{at_span}
use Rattle.juniper_parser.proofs.Cursors.{ok_is}

abbrev between : Place → Place → Span
between p q = record { start = p; end = q }

-- the lexeme that was taken last ends where it stood
pub last_taken : (t : Taking) → last_end (next_taken t) ≡ (first_of (left t)).span.end
last_taken t =
    let same : (t.taken + 1) - 1 ≡ t.taken = omega arith in
    ap (λ n. (first_of (drop n t.tokens)).span.end) same

-- from the start of one span to the end of another, which was taken last
pub closes : (p q : Span) (new : Taking) (start : Place) (span : Span) → start ≡ p.start → q.end ≡ last_end new
    → span ≡ record { start = start; end = last_end new } → from_to p q ≡ span
closes p q new start span e f h =
    ap (λ (z : Place). between z q.end) (sym e) ∙ ap (λ (z : Place). between start z) f ∙ sym h

last_is : (n : ℕ) (t : Lexeme) (ts : List Lexeme) → n ≤ length ts → last_of t (take n ts) ≡ first_of (drop n (t ∷ ts))
last_is zero t ts l = refl
last_is (suc n) t [] l = absurd (omega (arith, l))
last_is (suc n) t (u ∷ us) l = last_next t u (take n us) ∙ last_is n u us (omega (arith, l))

-- what was read, with the span of the tokens that were taken for it
abbrev spanning : {A : Type 0} → List Lexeme → Read (Span → A) → Read A
spanning ts r = r >>= λ y. Ok (y.0 (span_of (front ts y.1)), y.1)

-- one token more than n
span_is : (n : ℕ) (ts : List Lexeme) → n < length ts
    → between (first_of ts).span.start (first_of (drop n ts)).span.end ≡ span_of (take (suc n) ts)
span_is n [] l = absurd (omega (arith, l))
span_is n (t ∷ ts) l =
    ap (λ (u : Lexeme). between t.span.start u.span.end) (sym (last_is n t ts (omega (arith, l))))

module _ (old new : Taking) (on : GoesOn old new) (shorter : length (left new) < length (left old))
    (within : new.taken < length new.tokens) where
  taken_span : between (first_of (left old)).span.start (last_end new) ≡ span_of (front (left old) (left new))
  taken_span =
      let more = more_taken old new on shorter in
      let n = (new.taken - old.taken) - 1 in
      let whole : old.taken + n ≡ new.taken - 1 = omega (arith, more) in
      let size : length (left old) - length (left new) ≡ suc n = omega (
        arith,
        more,
        within,
        ap length on.same,
        ap length (ap (drop new.taken) on.same),
        length-drop old.taken old.tokens,
        length-drop new.taken old.tokens,
      ) in
      let some_left : n < length (left old) = omega (arith, size) in
      let last : drop n (left old) ≡ drop (new.taken - 1) new.tokens =
      drop-drop n old.taken old.tokens ∙ ap (λ k. drop k old.tokens) whole
      ∙ ap (drop (new.taken - 1)) (sym on.same) in
      ap (λ (ts : List Lexeme). between (first_of (left old)).span.start (first_of ts).span.end) (sym last)
      ∙ span_is n (left old) some_left ∙ ap (λ k. span_of (take k (left old))) (sym size)

  -- What was read with the span from a mark has the span of its tokens.
  pub marked : {A : Type 0} (r : Read (Span → A)) (x : A) (start : Place)
      → start ≡ (first_of (left old)).span.start → at_span start (last_end new) r ≡ Ok (x, left new)
      → spanning (left old) r ≡ Ok (x, left new)
  marked {A} (Ok y) x start e h =
      let given : (y.0 (between start (last_end new)), y.1) ≡ (x, left new) = ok_is _ _ h in
      let span : between start (last_end new) ≡ span_of (front (left old) y.1) =
      ap (λ p. between p (last_end new)) e ∙ taken_span
      ∙ ap (λ (z : A × List Lexeme). span_of (front (left old) z.1)) (sym given) in
      ap (λ p. Ok (y.0 p, y.1)) (sym span) ∙ h
  marked (Err y) x start e h = absurd (cc h)

pub on_ok : {X P Q : Type 0} (result : Result X ParseFailure) → (P → Q) → OnOk result P → OnOk result Q
on_ok (Ok x) f h = f h
on_ok (Err e) f h = h

-- What another function read from a mark on, and refused.
refused : {A : Type 0} (old new : Taking) (start : Place) (e : Spanning ParseError) (r : Read (Span → A))
    → at_span start (last_end new) r ≡ Err (view_fault e, left new) → spanning (left old) r ≡ Err (view_fault e, left new)
refused old new start e (Ok y) h = absurd (cc h)
refused old new start e (Err y) h = h

-- What another function built from a mark on, and returns.
module _ {X A : Type 0} (built : X → A → Type 0) (old new : Taking) (start : Place)
    (place : start ≡ (first_of (left old)).span.start) where
  pub marked_builds : (r : Read (Span → A)) (result : Result X ParseFailure) → OnOk result (GoesOn old new)
      → OnOk result (length (left new) < length (left old)) → OnOk result (new.taken < length new.tokens)
      → Builds built result (left new) (at_span start (last_end new) r)
      → Builds built result (left new) (spanning (left old) r)
  marked_builds r (Ok x) on shorter within made = record {
    part = made.part;
    reads = marked old new on shorter within r made.part start place made.reads;
    is_built = made.is_built;
  }
  marked_builds r (Err (failures.Refused e)) on shorter within gives =
      refused old new start e r gives
  marked_builds r (Err failures.Memory) on shorter within gives = tt
