-- With enough fuel, each production answers.
use Rattle.std.proofs.Common.{ℕ, zero, suc, Bool, true, ◌≡◌, ◌<◌, [], ◌∷◌, List, length, refl, inl, arith, le_refl}
use Rattle.graphql_lexical.specs.declared.kind.Kind.{Kind}
use Rattle.graphql_lexical.specs.Cutting.{Lexeme}
use Rattle.graphql_grammar.specs.Tokens.{Located}
use Rattle.graphql_grammar.specs.Samples.{sample, IsSample}
use Rattle.graphql_grammar.specs.device.Reading.{Test, of, passes, Reader, seq, done, on, look, many, repeated, fully, a_value, a_type, a_selection, Steps}
use Rattle.graphql_grammar.specs.device.Productions.{symbol_at, reads}
use Rattle.graphql_grammar.specs.Tree.{Scalars, Value, TypeRef, Selection}
use Rattle.graphql_grammar.specs.Grammar.{IsValue, IsSelection, Each, IsLocated}
use Rattle.graphql_grammar.proofs.Rules.{Rule}
use Rattle.graphql_grammar.proofs.PartRules.{Closed, many_rule, repeated_rule}
use Rattle.graphql_grammar.proofs.Values.{value_rule}
use Rattle.graphql_grammar.proofs.DocumentRules.{IsSpannedType, type_rule}
use Rattle.graphql_grammar.proofs.SelectionRules.{selection_rule}
use Rattle.graphql_grammar.proofs.Fuel.{Under, under_refl, under_trans, seq_under, on_under, look_under, many_under, repeated_under, symbol_under, reads_under, Answers, answers, settled, steps}

module _ {C F : Type 0} (S : Scalars C F) where
  pub values_answer : (free : Bool) → Answers (λ n. symbol_at S n (Located (Value C)) (a_value free))
  values_answer free = answers _ (IsLocated (IsValue S free))
      (λ n m le. symbol_under S n m le (Located (Value C)) (a_value free))
      (λ n. value_rule S free n n (le_refl n))

  pub types_answer : Answers (λ n. symbol_at S n (Located TypeRef) a_type)
  types_answer = answers _ IsSpannedType (λ n m le. symbol_under S n m le (Located TypeRef) a_type)
      (λ n. type_rule S n n (le_refl n))

  pub selections_answer : Answers (λ n. symbol_at S n (Selection C) a_selection)
  selections_answer = answers _ (IsSelection S) (λ n m le. symbol_under S n m le (Selection C) a_selection)
      (λ n. selection_rule S n n (le_refl n))

  module _ {A : Type 0} (p : Steps C A) (R : A → List Lexeme → Type 0)
      (rule : (n : ℕ) → Rule n (reads S n p) (reads S n p) R) where
    pub reads_answer : Answers (λ n. reads S n p)
    reads_answer = answers _ R (reads_under S p) rule

    -- items of p

    module _ (takes : (us : List Lexeme) (x : A) → R x us → 0 < length us) where
      pub closed_rule : (k : Kind) → passes (of k) (sample k) ≡ true → IsSample (sample k) → (n : ℕ)
          → Rule n (many (of k) (reads S n p) n) (many (of k) (reads S n p) n) (Closed (of k) R)
      closed_rule k closes is n = many_rule (of k) (sample k) closes is R takes _ _ n n n (le_refl n) (le_refl n)
          (rule n)

      pub closed_answer : (k : Kind) → passes (of k) (sample k) ≡ true → IsSample (sample k)
          → Answers (λ n. many (of k) (reads S n p) n)
      closed_answer k closes is = answers _ (Closed (of k) R)
          (λ n m le. many_under (of k) _ _ (reads_under S p n m le) n m le) (closed_rule k closes is)

      pub each_rule : (test : Test) (n : ℕ)
          → Rule n (repeated test (reads S n p) n) (repeated test (reads S n p) n) (Each R)
      each_rule test n = repeated_rule R takes test _ _ n n n (le_refl n) (le_refl n) (rule n)

      pub each_answer : (test : Test) → Answers (λ n. repeated test (reads S n p) n)
      each_answer test = answers _ (Each R)
          (λ n m le. repeated_under test _ _ (reads_under S p n m le) n m le) (each_rule test)

-- ---- what each step of a list answers as far as its fuel goes is the answer

pub law : {F A : Type 0} (f : ℕ → Reader F A) → Answers f → (g : Reader F A) → ((n : ℕ) → Under (f n) g)
    → (ts : List Lexeme) → fully f ts ≡ g ts
law f w g h ts = steps f w g ts ((h (suc (length ts))).at ts)

module _ {F A : Type 0} (f : ℕ → Reader F A) (w : Answers f) (test : Test) where
  abbrev pub many_of : ℕ → Reader F (List A × Lexeme)
  many_of n = many test (f n) n

  abbrev pub repeats_of : ℕ → Reader F (List A)
  repeats_of n = repeated test (f n) n

  abbrev pub many_step : Reader F (List A × Lexeme)
  many_step = on test (λ t. done ([], t)) (seq (fully f) (λ x. seq (fully many_of) (λ r. done (x ∷ r.0, r.1))))

  abbrev pub repeats_step : Reader F (List A)
  repeats_step = look test (seq (fully f) (λ x. seq (fully repeats_of) (λ xs. done (x ∷ xs)))) (done [])

  many_under_step : Answers many_of → (n : ℕ) → Under (many_of n) many_step
  unfolding many
  many_under_step v zero = record { at = λ ts. inl refl }
  many_under_step v (suc n) = on_under test _ _ _ _ (λ t. under_refl _)
      (seq_under _ _ _ _ (settled f w (suc n)) (λ x. seq_under _ _ _ _
      (under_trans _ _ _ (many_under test _ _ (w.under (suc n) (suc n) (le_refl (suc n))) n (suc n) (omega arith))
      (settled many_of v (suc n))) (λ r. under_refl _)))

  pub many_law : Answers many_of → (ts : List Lexeme) → fully many_of ts ≡ many_step ts
  many_law v = law many_of v many_step (many_under_step v)

  repeats_under_step : Answers repeats_of → (n : ℕ) → Under (repeats_of n) repeats_step
  unfolding repeated
  repeats_under_step v zero = record { at = λ ts. inl refl }
  repeats_under_step v (suc n) = look_under test _ _ _ _
      (seq_under _ _ _ _ (settled f w (suc n)) (λ x. seq_under _ _ _ _
      (under_trans _ _ _ (repeated_under test _ _ (w.under (suc n) (suc n) (le_refl (suc n))) n (suc n) (omega arith))
      (settled repeats_of v (suc n))) (λ r. under_refl _)))
      (under_refl _)

  pub repeats_law : Answers repeats_of → (ts : List Lexeme) → fully repeats_of ts ≡ repeats_step ts
  repeats_law v = law repeats_of v repeats_step (repeats_under_step v)
