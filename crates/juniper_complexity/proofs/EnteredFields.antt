-- A field that is entered, counted number by number.
use Rattle.std.proofs.Common.{◌≡◌, ◌+◌, ◌-◌, ◌^◌, ℕ, zero, suc, min, max, Option, refl, arith}
use Rattle.graphql_grammar.specs.Tokens.{Word}
use Rattle.juniper_outlines.specs.Complexities.{plus, capped, capped_complexity}
use Rattle.juniper_complexity.specs.Parts.{alias_count, field_complexity}
use Rattle.juniper_outlines.specs.Sums.{at_level}
use Rattle.juniper_outlines.specs.declared.complexity.Complexity.{Complexity}
use Rattle.juniper_complexity.proofs.Algebra.{same_complexity}

-- how many fields at the root a field is, inside so many others
abbrev pub root_count : ℕ → ℕ
root_count zero = 1
root_count (suc n) = 0

pub no_root : (n : ℕ) → (n ≡ 0 → ⊥) → root_count n ≡ 0
no_root zero n = absurd (n refl)
no_root (suc m) n = refl

-- a complexity with one more field inside so many others
abbrev pub entered : ℕ → Option Word → Complexity → Complexity
entered around alias a = record {
  fields = capped (a.fields + 1);
  aliases = capped (a.aliases + alias_count alias);
  directives = a.directives;
  root_fields = capped (a.root_fields + root_count around);
  depth = max a.depth (capped (around + 1));
}

pub entered_field : (x : Complexity) (around l : ℕ) (alias : Option Word) → around ≡ capped l
    → entered around alias (capped_complexity x) ≡ capped_complexity (plus x (at_level l (field_complexity alias)))
entered_field x around zero alias e =
    let none : around ≡ zero = omega arith in
    rw none (same_complexity _ _ (omega arith) (omega arith) (omega arith) (omega arith) (omega arith))
entered_field x around (suc l) alias e =
    let some : around ≡ suc (min l (2 ^ 64 - 2)) = omega arith in
    rw some (same_complexity _ _ (omega arith) (omega arith) (omega arith) (omega arith) (omega arith))
