-- From the reading of a literal to its promise.
use Rattle.std.proofs.Common.{◌≡◌, ◌≤◌, ℕ, suc, Bool, List, [], ◌∷◌, length, Result, Ok, Err, refl, sym, ap, ◌∙◌, subst, arith, length-append}
use Rattle.graphql_lexical.specs.Cutting.{Lexeme}
use Rattle.graphql_grammar.specs.Tokens.{Located, span_of}
use Rattle.graphql_grammar.specs.Tree.{Scalars, Value, TypeRef}
use Rattle.graphql_grammar.specs.Grammar.{IsValue, IsLocated}
use Rattle.graphql_grammar.specs.Faults.{ValueRefusedAt, TypeRefusedAt}
use Rattle.graphql_grammar.specs.device.Faults as device
use Rattle.graphql_grammar.specs.device.Faults.{ValueFaultAt, TypeFaultAt}
use Rattle.graphql_grammar.specs.device.Reading.{Took, Refused, Out, Reader, GivesFront, fully, a_value, a_type}
use Rattle.graphql_grammar.specs.device.Productions.{symbol_at}
use Rattle.graphql_grammar.proofs.Public.{value_error, type_error, IsSpannedType, value_given, type_given, value_found}
use Rattle.graphql_grammar.specs.device.Reading as reading
use Rattle.juniper_tokens.specs.declared.error.ParseFailure.{ParseFailure}
use Rattle.juniper_tokens.specs.declared.error.ParseFailure.TheVariants as failure
use Rattle.juniper_tokens.specs.Errors.{Error, UnexpectedEndOfFile, Fault, view_fault}
use Rattle.juniper_tokens.specs.Cursor.{Read, EndsOnce, Gives}
use Rattle.juniper_parser.specs.device.Seen.{error_of, seen}
use Rattle.juniper_parser.specs.device.Steps.{no_scalars, value_read, type_read}
use Rattle.juniper_parser.specs.Promise.{Refuses, ReturnsValue, ReturnsType, unexpected}
use Rattle.juniper_parser.proofs.Stepping.{seen_took}

fault_is : {A : Type 0} (a b : Fault) (p q : List Lexeme) → ◌≡◌ {A = Read A} (Err (a, p)) (Err (b, q))
    → (b ≡ a) × (q ≡ p)
fault_is a b p q e = let h : (a, p) ≡ (b, q) = cc in (
  sym (ap (λ (x : Fault × List Lexeme). x.0) h),
  sym (ap (λ (x : Fault × List Lexeme). x.1) h),
)

module _ {A : Type 0} (R : A → List Lexeme → Type 0)
    (FaultAt : List Lexeme → List Lexeme → Lexeme → device.Fault Error → Type 0)
    (RefusedAt : List Lexeme → List Lexeme → Lexeme → Error → Type 0)
    (error_is : (ts before : List Lexeme) (t : Lexeme) (x : device.Fault Error) → FaultAt ts before t x
    → RefusedAt ts before t (error_of x)) (old left : List Lexeme) where
  refuses : (fault : Fault) (z : reading.Read Error A) → GivesFront R (FaultAt old) old z → seen z ≡ Err (fault, left)
      → Refuses R RefusedAt fault old left
  refuses fault (Took x rest) g q = absurd (cc q)
  refuses fault (Refused [] x) g q = absurd g
  refuses fault (Refused (t ∷ rest) x) (none, (before, whole, at)) q =
      let is = fault_is {A = A} _ fault _ left q in
      record {
        none = none;
        before = before;
        token = t;
        after = rest;
        whole = whole;
        refused = subst (RefusedAt old before t) (sym (ap (λ (f : Fault). f.error) is.0)) (error_is old before t x at);
        span = ap (λ (f : Fault). f.span) is.0;
        leaves = is.1;
      }
  refuses fault Out g q = absurd g

module _ {C : Type 0} (S : Scalars C Error) (free : Bool) where
  abbrev value_at : ℕ → Reader Error (Located (Value C))
  value_at n = symbol_at S n (Located (Value C)) (a_value free)

  pub answers_value : {X : Type 0} (view : X → Located (Value C)) (result : Result X ParseFailure)
      (old left : List Lexeme) → EndsOnce old → Gives view result left (value_read S free old)
      → ReturnsValue S free view result old left
  unfolding fully value_read
  answers_value view (Ok x) old left ended h =
      let took = seen_took (fully value_at old) (view x) left h in
      let g = subst (λ z. GivesFront (IsLocated (IsValue S free)) (ValueFaultAt S free old) old z) took
      (value_given S free old ended) in (
        record { taken = g.0; whole = g.1; means = g.2 },
        λ us vs y e k. (
            let both : Took y vs ≡ Took (view x) left = sym (ap (value_at (suc (length old))) e
            ∙ value_found S free (suc (length old)) us vs y
            (let l = ap length e ∙ length-append us vs in omega (arith, l)) k) ∙ took in
            (cc both, cc both)),
      )
  answers_value view (Err (failure.Refused e)) old left ended h =
      refuses (IsLocated (IsValue S free)) (ValueFaultAt S free) (ValueRefusedAt UnexpectedEndOfFile unexpected S free)
      (value_error UnexpectedEndOfFile unexpected S free) old left (view_fault e) (fully value_at old)
      (value_given S free old ended) h
  answers_value view (Err failure.Memory) old left ended h = tt

-- ---- types

abbrev type_at : ℕ → Reader Error (Located TypeRef)
type_at n = symbol_at no_scalars n (Located TypeRef) a_type

pub answers_type : {X : Type 0} (view : X → Located TypeRef) (result : Result X ParseFailure) (old left : List Lexeme)
    → EndsOnce old → Gives view result left (type_read old) → ReturnsType view result old left
unfolding type_read
answers_type view (Ok x) old left ended h =
    let g = subst (λ z. GivesFront IsSpannedType (TypeFaultAt old) old z)
    (seen_took (fully type_at old) (view x) left h) (type_given no_scalars old ended) in (
      record { taken = g.0; whole = g.1; means = g.2 },
      λ us vs y e k. (
          let longest : length us ≤ length g.0 = g.3 us vs (record { item = y; span = span_of us }) e (k, refl) in
          let one = ap length e ∙ length-append us vs in
          let two = ap length g.1 ∙ length-append g.0 left in
          omega (arith, longest, one, two)),
    )
answers_type view (Err (failure.Refused e)) old left ended h =
    let r = refuses IsSpannedType TypeFaultAt (TypeRefusedAt UnexpectedEndOfFile unexpected)
    (type_error UnexpectedEndOfFile unexpected) old left (view_fault e) (fully type_at old)
    (type_given no_scalars old ended) h in
    record {
      none = λ us vs y q k. r.none us vs (record { item = y; span = span_of us }) q (k, refl);
      before = r.before;
      token = r.token;
      after = r.after;
      whole = r.whole;
      refused = r.refused;
      span = r.span;
      leaves = r.leaves;
    }
answers_type view (Err failure.Memory) old left ended h = tt
