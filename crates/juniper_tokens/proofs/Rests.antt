-- What is left of the tokens is a rest of them.
use Rattle.std.proofs.Common.{◌≡◌, ℕ, zero, suc, ◌+◌, ◌-◌, ◌≤◌, List, [], ◌∷◌, length, drop, Result, Ok, Err, refl, sym, ap, subst, ◌∙◌, arith, length-drop}
use Rattle.std.proofs.lemmas.List.{drop-drop}
use Rattle.graphql_lexical.specs.Cutting.{Lexeme}
use Rattle.juniper_tokens.specs.declared.error.ParseFailure.{ParseFailure}
use Rattle.juniper_tokens.specs.declared.error.ParseFailure.TheVariants as failures
use Rattle.juniper_tokens.specs.Cursor.{OnMemory}
use Rattle.juniper_tokens.specs.Delimited.{IsRest, IsProperRest}

pub none_taken : (ts : List Lexeme) → IsRest ts ts
none_taken ts = record { taken = 0; left = refl }

pub one_taken : (old new : List Lexeme) → new ≡ drop 1 old → IsRest old new
one_taken old new e = record { taken = 1; left = e }

pub further : (a b c : List Lexeme) → IsRest a b → IsRest b c → IsRest a c
further a b c r s = record {
  taken = r.taken + s.taken;
  left = s.left ∙ ap (drop s.taken) r.left ∙ drop-drop s.taken r.taken a;
}

pub no_longer : (old new : List Lexeme) → IsRest old new → length new ≤ length old
no_longer old new rest = omega (arith, ap length rest.left, length-drop rest.taken old)

drop_rest : (n : ℕ) (ts : List Lexeme) → drop (length ts - length (drop n ts)) ts ≡ drop n ts
drop_rest zero ts =
    let none : length ts - length ts ≡ 0 = omega arith in
    ap (λ k. drop k ts) none
drop_rest (suc n) [] = refl
drop_rest (suc n) (t ∷ ts) =
    let more : (length (t ∷ ts)) - length (drop n ts) ≡ suc (length ts - length (drop n ts)) =
    omega (arith, length-drop n ts) in
    ap (λ k. drop k (t ∷ ts)) more ∙ drop_rest n ts

-- a rest is what is left once as many were taken as it is shorter
pub rest_is : (old new : List Lexeme) → IsRest old new → drop (length old - length new) old ≡ new
rest_is old new rest = ap (λ ts. drop (length old - length ts) old) rest.left ∙ drop_rest rest.taken old ∙ sym rest.left

followed : (old at new left : List Lexeme) (count : ℕ) → at ≡ old → IsRest at new → count ≡ length new
    → left ≡ drop (length old - count) old → left ≡ new
followed old at new left count from rest count_is left_is =
    left_is ∙ ap (λ k. drop (length old - k) old) count_is
    ∙ sym (ap (λ ts. drop (length ts - length new) ts) from) ∙ rest_is at new rest

-- A cursor began at the tokens that a parser had left, and the parser then followed it: what is so of the cursor is so of
-- the parser.
pub follows : (P : List Lexeme → List Lexeme → Type 0) (old at new left : List Lexeme) (count : ℕ) → at ≡ old
    → IsRest at new → count ≡ length new → left ≡ drop (length old - count) old → P at new → P old left
follows P old at new left count from rest count_is left_is p =
    subst (λ ts. P old ts) (sym (followed old at new left count from rest count_is left_is))
    (subst (λ ts. P ts new) from p)

pub properly_further : (a b c : List Lexeme) → IsProperRest a b → IsRest b c → IsProperRest a c
properly_further a b c r s = record {
  rest = further a b c r.rest s;
  shorter = omega (arith, r.shorter, no_longer b c s);
}

pub on_memory : {X : Type 0} (result : Result X ParseFailure) (a b : List Lexeme) → IsRest a b
    → OnMemory result (IsRest a b)
on_memory (Ok x) a b r = tt
on_memory (Err (failures.Refused e)) a b r = tt
on_memory (Err failures.Memory) a b r = r
