-- The table of classes.
use Rattle.std.proofs.Common.{◌≡◌, ℕ, Bool, zero, suc, ◌+◌, ◌<◌, true, false, None, ◌==◌, refl, sym, ap, ◌∙◌, arith}
use Rattle.std.proofs.lemmas.Bool.{eqb-true}
use Rattle.std.specs.Prelude.{slice_index_or, nat_lt, nat_le}
use denote.Enum.Bare.{sameb}
use Rattle.graphql_lexical.specs.Characters.{is_name_character, is_digit}
use Rattle.graphql_lexical.specs.declared.state.State.TheVariants.{Start}
use Rattle.graphql_lexical.specs.device.Scan.{step, ignored_step}
use Rattle.juniper_tokens.specs.device.ByteRuns.{is_inner}
use Rattle.juniper_tokens.specs.contracts.byte_classes.ByteClass.{the_type}
use Rattle.juniper_tokens.specs.declared.byte_classes.ByteClass.{ByteClass}
use Rattle.juniper_tokens.specs.declared.byte_classes.ByteClass.TheVariants.{White, LineFeed, Hash, Quote, Dot, Minus, NameStart, Digit, Punctuator, Control, Other, Inner, Lead}
use Rattle.juniper_tokens.specs.ByteClasses.{tabulate, class_of, name_class, digit_class, inner_class, first_state, ignored_class}

first_place : (b : ℕ) → b ≡ b + 0
first_place b = omega arith

next_place : (b i : ℕ) → suc b + i ≡ b + suc i
next_place b i = omega arith

none_below : (i : ℕ) → i < 0 → ⊥
none_below i l = omega arith

below_pred : (i n : ℕ) → suc i < suc n → i < n
below_pred i n l = omega arith

pub tabulate_at : {X : Type 0} (f : ℕ → X) (b n i : ℕ) (d : X) → i < n → slice_index_or (tabulate f b n) i d ≡ f (b + i)
tabulate_at f b zero i d l = absurd (none_below i l)
tabulate_at f b (suc n) zero d l = ap f (first_place b)
tabulate_at f b (suc n) (suc i) d l = tabulate_at f (suc b) n i d (below_pred i n l) ∙ ap f (next_place b i)

pub in_table : {X : Type 0} (f : ℕ → X) (b : ℕ) (d : X) → b < 256 → slice_index_or (tabulate f 0 256) b d ≡ f b
in_table f b d l = tabulate_at f 0 256 b d l ∙ ap f (same b)
  where
    same : (i : ℕ) → 0 + i ≡ i
    same i = omega arith

-- two functions that agree on all bytes, by computing
agree_at : {X : Type 0} (f g : ℕ → X) → tabulate f 0 256 ≡ tabulate g 0 256 → (b : ℕ) → b < 256 → f b ≡ g b
agree_at f g e b l = sym (in_table f b (f b) l) ∙ (ap (λ xs. slice_index_or xs b (f b)) e ∙ in_table g b (f b) l)

pub name_class_tests : (b : ℕ) → b < 256 → name_class (class_of b) ≡ is_name_character b
name_class_tests b l = agree_at (λ k. name_class (class_of k)) is_name_character refl b l

pub inner_class_tests : (b : ℕ) → b < 256 → inner_class (class_of b) ≡ is_inner b
inner_class_tests b l = agree_at (λ k. inner_class (class_of k)) is_inner refl b l

pub first_state_tests : (b : ℕ) → b < 256 → first_state (class_of b) b ≡ step Start b
first_state_tests b l = agree_at (λ k. first_state (class_of k) k) (step Start) refl b l

pub digit_class_tests : (b : ℕ) → b < 256 → digit_class (class_of b) ≡ is_digit b
digit_class_tests b l = agree_at (λ k. digit_class (class_of k)) is_digit refl b l

-- a class of ASCII bytes
abbrev pub low_class : ByteClass → Bool
low_class Inner = false
low_class Lead = false
low_class _ = true

pub low_class_tests : (b : ℕ) → b < 256 → low_class (class_of b) ≡ nat_lt b 128
low_class_tests b l = agree_at (λ k. low_class (class_of k)) (λ k. nat_lt k 128) refl b l

pub lead_class_tests : (b : ℕ) → b < 256 → sameb the_type (class_of b) Lead ≡ nat_le 192 b
lead_class_tests b l = agree_at (λ k. sameb the_type (class_of k) Lead) (λ k. nat_le 192 k) refl b l

pub feed_class_tests : (b : ℕ) → b < 256 → sameb the_type (class_of b) LineFeed ≡ (b == 10)
feed_class_tests b l = agree_at (λ k. sameb the_type (class_of k) LineFeed) (λ k. k == 10) refl b l

pub quote_class_tests : (b : ℕ) → b < 256 → sameb the_type (class_of b) Quote ≡ (b == 34)
quote_class_tests b l = agree_at (λ k. sameb the_type (class_of k) Quote) (λ k. k == 34) refl b l

pub dot_class_tests : (b : ℕ) → b < 256 → sameb the_type (class_of b) Dot ≡ (b == 46)
dot_class_tests b l = agree_at (λ k. sameb the_type (class_of k) Dot) (λ k. k == 46) refl b l

pub ignored_class_tests : (b : ℕ) → b < 256 → ignored_class (class_of b) ≡ ignored_step false b
ignored_class_tests b l = agree_at (λ k. ignored_class (class_of k)) (ignored_step false) refl b l

-- where ignored tokens don't go on
pub ignored_none : (class : ByteClass) → (class ≡ White → ⊥) → (class ≡ LineFeed → ⊥) → (class ≡ Hash → ⊥)
    → ignored_class class ≡ None
ignored_none White w l h = absurd (w refl)
ignored_none LineFeed w l h = absurd (l refl)
ignored_none Hash w l h = absurd (h refl)
ignored_none Inner w l h = refl
ignored_none Quote w l h = refl
ignored_none Dot w l h = refl
ignored_none Minus w l h = refl
ignored_none NameStart w l h = refl
ignored_none Digit w l h = refl
ignored_none Punctuator w l h = refl
ignored_none Control w l h = refl
ignored_none Other w l h = refl
ignored_none Lead w l h = refl

-- ---- at one byte, by its class

pub outer : (b : ℕ) (class : ByteClass) (inner : Bool) → b < 256 → class ≡ class_of b → inner ≡ inner_class class
    → is_inner b ≡ inner
outer b class inner l e f = sym (f ∙ (ap inner_class e ∙ inner_class_tests b l))

pub feed_byte : (b : ℕ) (class : ByteClass) → b < 256 → class ≡ class_of b → class ≡ LineFeed → b ≡ 10
feed_byte b class l e f = eqb-true b 10 (sym (feed_class_tests b l)
    ∙ ap (λ k. sameb the_type k LineFeed) (sym e ∙ f))

pub not_inner : (b : ℕ) (class : ByteClass) → b < 256 → class ≡ class_of b → (class ≡ Inner → ⊥) → is_inner b ≡ false
not_inner b class l e n = outer b class false l e (sym (by_class class n))
  where
    by_class : (k : ByteClass) → (k ≡ Inner → ⊥) → inner_class k ≡ false
    by_class Inner h = absurd (h refl)
    by_class _ h = refl

pub no_feed_byte : (b : ℕ) (class : ByteClass) → b < 256 → class ≡ class_of b → (class ≡ LineFeed → ⊥)
    → (b == 10) ≡ false
no_feed_byte b class l e n = sym (feed_class_tests b l)
    ∙ (ap (λ k. sameb the_type k LineFeed) (sym e) ∙ by_class class n)
  where
    by_class : (k : ByteClass) → (k ≡ LineFeed → ⊥) → sameb the_type k LineFeed ≡ false
    by_class LineFeed h = absurd (h refl)
    by_class _ h = refl
