-- Which part of a line is shown, and where its caret is.
use Rattle.std.proofs.Common.{◌≡◌, ◌∙◌, ℕ, zero, suc, ◌-◌, ◌<◌, Bool, true, false, [], ◌∷◌, ◌++◌, length, take, drop, map, refl, sym, ap, arith, if◌then◌else◌, length-take, length-drop}
use Rattle.std.specs.Prelude.{nat_lt}
use Rattle.std.proofs.Math.Seq.{take-length}
use Rattle.graphql_lexical.specs.Characters.{Text}
use Rattle.firthnapkin_results.specs.Excerpts.{after_bar, first_shown, part_shown, spaces, visible}

-- the most characters that are shown of a line
abbrev pub most : Text → ℕ
most line = if nat_lt 120 (length line) then 80 else length line

part_is : (column : ℕ) (line : Text) → part_shown column line ≡ take (most line) (drop (first_shown column line) line)
part_is column line = by_test (nat_lt 120 (length line))
  where
    by_test : (b : Bool) → (if b then take 80 (drop (if b then column - 40 else 0) line) else line)
        ≡ take (if b then 80 else length line) (drop (if b then column - 40 else 0) line)
    by_test true = refl
    by_test false = sym (take-length line)

some_after_bar : (text : Text) → 0 < length text → after_bar (map visible text) ≡ 32 ∷ map visible text
some_after_bar [] some = absurd (omega (arith, some))
some_after_bar (c ∷ text) some = refl

some_most : (n first : ℕ) (b : Bool) → first < n → 0 < (if b then 80 else n)
some_most n first true l = omega arith
some_most n first false l = omega (arith, l)

pub some_shown : (column : ℕ) (line : Text) → first_shown column line < length line
    → after_bar (map visible (part_shown column line))
    ≡ 32 ∷ map visible (take (most line) (drop (first_shown column line) line))
some_shown column line l =
    let rest = drop (first_shown column line) line in
    ap (λ (t : Text). after_bar (map visible t)) (part_is column line)
    ∙ some_after_bar (take (most line) rest) (omega (
      arith,
      l,
      length-take (most line) rest,
      length-drop (first_shown column line) line,
      some_most (length line) (first_shown column line) (nat_lt 120 (length line)) l,
    ))

pub caret_after_bar : (count : ℕ) → after_bar (spaces count ++ 94 ∷ []) ≡ 32 ∷ (spaces count ++ 94 ∷ [])
caret_after_bar zero = refl
caret_after_bar (suc count) = refl
