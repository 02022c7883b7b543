-- Sums of complexities, exact and with the numbers of the code.
use Rattle.std.proofs.Common.{◌≡◌, ◌+◌, ◌-◌, ◌^◌, ℕ, zero, suc, min, refl, arith}
use Rattle.juniper_outlines.specs.Complexities.{nothing, plus, capped, capped_complexity}
use Rattle.juniper_outlines.specs.Sums.{at_level, plus_capped, at_level_capped}
use Rattle.juniper_outlines.specs.declared.complexity.Complexity.{Complexity}

same_parts : (f f' a a' d d' r r' e e' : ℕ) → f ≡ f' → a ≡ a' → d ≡ d' → r ≡ r' → e ≡ e'
    → ◌≡◌ {A = Complexity} (record { fields = f; aliases = a; directives = d; root_fields = r; depth = e })
    (record { fields = f'; aliases = a'; directives = d'; root_fields = r'; depth = e' })
same_parts f f' a a' d d' r r' e e' p q s t u = rw (p, q, s, t, u) refl

pub same_complexity : (a b : Complexity) → a.fields ≡ b.fields → a.aliases ≡ b.aliases → a.directives ≡ b.directives
    → a.root_fields ≡ b.root_fields
    → a.depth ≡ b.depth → a ≡ b
same_complexity a b p q r s t =
    same_parts a.fields b.fields a.aliases b.aliases a.directives b.directives a.root_fields b.root_fields a.depth
    b.depth p q r s t

pub plus_assoc : (a b c : Complexity) → plus (plus a b) c ≡ plus a (plus b c)
plus_assoc a b c = same_complexity _ _ (omega arith) (omega arith) (omega arith) (omega arith) (omega arith)

pub plus_nothing : (a : Complexity) → plus a nothing ≡ a
plus_nothing a = same_complexity _ _ (omega arith) (omega arith) (omega arith) (omega arith) (omega arith)

pub nothing_plus : (a : Complexity) → plus nothing a ≡ a
nothing_plus a = same_complexity _ _ (omega arith) (omega arith) (omega arith) (omega arith) (omega arith)

pub capped_plus : (a b : Complexity)
    → plus_capped (capped_complexity a) (capped_complexity b) ≡ capped_complexity (plus a b)
capped_plus a b = same_complexity _ _ (omega arith) (omega arith) (omega arith) (omega arith) (omega arith)

pub at_capped_level : (l : ℕ) (a : Complexity)
    → at_level_capped (capped l) (capped_complexity a) ≡ capped_complexity (at_level l a)
at_capped_level zero a = refl
at_capped_level (suc l) a =
    let some : capped (suc l) ≡ suc (min l (2 ^ 64 - 2)) = omega arith in
    rw some (same_complexity _ _ refl refl refl refl (omega arith))

pub capped_suc : (level l : ℕ) → level ≡ capped l → min (level + 1) (2 ^ 64 - 1) ≡ capped (suc l)
capped_suc level l e = omega arith
