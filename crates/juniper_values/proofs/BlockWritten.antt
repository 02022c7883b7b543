-- What each character adds to the value of a block string.
use Rattle.std.proofs.Common.{◌≡◌, refl, ap, ◌∙◌, ℕ, zero, suc, true, false, List, [], ◌∷◌, ◌++◌, map, take}
use Rattle.std.proofs.Common.{drop, arith}
use Rattle.std.specs.List.{onto_first}
use Rattle.std.proofs.lemmas.List.{drop_all}
use Rattle.juniper_values.specs.Text.{Text}
use Rattle.graphql_lexical.specs.Characters.{is_line_end}
use Rattle.juniper_values.specs.BlockStrings.{with_quotes, joined}
use Rattle.juniper_values.specs.device.BlockSteps.{lines_of, is_left_out, left_text}
use Rattle.juniper_values.proofs.BlockLines.{HasFirst, has_line, left_out, line_ended, line_goes_on}

dropped : (n : ℕ) → drop {A = ℕ} n [] ≡ []
dropped n = drop_all n [] (omega arith)

-- ---- within a line

first_goes_on : (c : ℕ) (line : Text) (ls : List Text) → joined ((c ∷ line) ∷ ls) ≡ c ∷ joined (line ∷ ls)
first_goes_on c line [] = refl
first_goes_on c line (l ∷ ls) = refl

-- a character that stays
stays_in_front : (k feeds c : ℕ) (ls : List Text)
    → left_text k 0 feeds (onto_first c ls) ≡ c ∷ left_text k 0 feeds ls
stays_in_front k zero c [] = refl
stays_in_front k (suc feeds) c [] = refl
stays_in_front k feeds c (line ∷ ls) = first_goes_on c line (take feeds (map (drop k) ls))

-- one that is removed
removed_in_front : (k n feeds c : ℕ) (ls : List Text)
    → left_text k (suc n) feeds (onto_first c ls) ≡ left_text k n feeds ls
removed_in_front k n zero c [] = dropped n
removed_in_front k n (suc feeds) c [] = dropped n
removed_in_front k n feeds c (line ∷ ls) = refl

-- ---- the end of a line

empty_line : (k n : ℕ) (ls : List Text) → left_text k n 0 ([] ∷ ls) ≡ []
empty_line k n ls = dropped n

no_line : (k n feeds : ℕ) → left_text k n feeds ([] ∷ []) ≡ []
no_line k n zero = empty_line k n []
no_line k n (suc feeds) = empty_line k n []

line_in_front : (k n feeds : ℕ) (ls : List Text) → HasFirst ls
    → left_text k n (suc feeds) ([] ∷ ls) ≡ 10 ∷ left_text k k feeds ls
line_in_front k n feeds ls h = rw h.2 (ap (λ v. v ++ 10 ∷ left_text k k feeds (h.0 ∷ h.1)) (dropped n))

-- ---- the loop

module _ (k n feeds : ℕ) where
  pub none_left : (u : Text) → u ≡ [] → left_text k n feeds (lines_of u) ≡ []
  none_left u none = ap (λ v. left_text k n feeds (lines_of v)) none ∙ no_line k n feeds

  module _ (c : ℕ) (t u : Text) (is : u ≡ c ∷ t) where
    pub passes : is_left_out c t ≡ true → left_text k n feeds (lines_of u) ≡ left_text k n feeds (lines_of t)
    passes e = ap (left_text k n feeds) (ap lines_of is ∙ left_out c t e)

    module _ (e : is_left_out c t ≡ false) where
      goes_on : is_line_end c ≡ false → lines_of u ≡ onto_first c (lines_of t)
      goes_on on = ap lines_of is ∙ line_goes_on c t e on

      ends : is_line_end c ≡ true → lines_of u ≡ [] ∷ lines_of t
      ends on = ap lines_of is ∙ line_ended c t e on

      pub stays : is_line_end c ≡ false → n ≡ 0
          → left_text k n feeds (lines_of u) ≡ c ∷ left_text k n feeds (lines_of t)
      stays on none = rw none (ap (left_text k 0 feeds) (goes_on on) ∙ stays_in_front k feeds c (lines_of t))

      pub is_removed : is_line_end c ≡ false → (less : ℕ) → n ≡ suc less
          → left_text k n feeds (lines_of u) ≡ left_text k less feeds (lines_of t)
      is_removed on less some =
          rw some (ap (left_text k (suc less) feeds) (goes_on on) ∙ removed_in_front k less feeds c (lines_of t))

      pub last_line : is_line_end c ≡ true → feeds ≡ 0 → left_text k n feeds (lines_of u) ≡ []
      last_line on none =
          ap (left_text k n feeds) (ends on) ∙ ap (λ m. left_text k n m ([] ∷ lines_of t)) none
          ∙ empty_line k n (lines_of t)

      pub feeds_line : is_line_end c ≡ true → (less : ℕ) → feeds ≡ suc less
          → left_text k n feeds (lines_of u) ≡ 10 ∷ left_text k k less (lines_of t)
      feeds_line on less more =
          ap (left_text k n feeds) (ends on) ∙ ap (λ m. left_text k n m ([] ∷ lines_of t)) more
          ∙ line_in_front k n less (lines_of t) (has_line (with_quotes t))
