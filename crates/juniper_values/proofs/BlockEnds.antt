-- Blank lines in front and at the end.
use Rattle.std.proofs.Common.{◌≡◌, refl, Bool, true, false, ◌&&◌, List, [], ◌∷◌, drop}
use Rattle.std.specs.List.{list_all}
use Rattle.juniper_values.specs.Text.{Text}
use Rattle.juniper_values.specs.BlockStrings.{is_blank, indents, drop_blank_front, drop_blank_end}
use Rattle.juniper_values.specs.device.BlockSteps.{begins_blank}

pub and_true : (b : Bool) → (b && true) ≡ b
and_true true = refl
and_true false = refl

-- without the blank lines on either side
abbrev pub inner : List Text → List Text
inner ls = drop_blank_end (drop_blank_front ls)

-- the first line that is kept is not blank, so it has a character
pub first_filled : (ls : List Text) (l : Text) (rest : List Text) → drop_blank_front ls ≡ l ∷ rest
    → is_blank l ≡ false
first_filled [] l rest e = absurd (cc)
first_filled (k ∷ ls) l rest e = by_test (is_blank k) refl (first_filled ls l rest)
  where
    by_test : (b : Bool) → is_blank k ≡ b → (drop_blank_front ls ≡ l ∷ rest → is_blank l ≡ false) → is_blank l ≡ false
    by_test true is later = later (rw is at e)
    by_test false is later = let h = rw is at e in let same : k ≡ l = cc in rw (← same) is

-- ---- the first line

pub front_goes : (ls : List Text) → begins_blank ls ≡ true → drop_blank_front ls ≡ drop_blank_front (drop 1 ls)
front_goes [] e = refl
front_goes (line ∷ ls) e = rw e refl

pub front_stays : (ls : List Text) → begins_blank ls ≡ false → drop_blank_front ls ≡ ls
front_stays [] e = refl
front_stays (line ∷ ls) e = rw e refl

-- ---- blank lines alone

pub none_at_end : (ls : List Text) → list_all is_blank ls ≡ true → drop_blank_end ls ≡ []
none_at_end [] e = refl
none_at_end (line ∷ ls) e = rw e

-- blank lines have no indent that counts
pub indents_front : (ls : List Text) → indents (drop_blank_front ls) ≡ indents ls
indents_front [] = refl
indents_front (line ∷ ls) = by_test (is_blank line) refl (indents_front ls)
  where
    by_test : (b : Bool) → is_blank line ≡ b → indents (drop_blank_front ls) ≡ indents ls
        → indents (drop_blank_front (line ∷ ls)) ≡ indents (line ∷ ls)
    by_test true is later = rw is later
    by_test false is later = rw is (rw is refl)
