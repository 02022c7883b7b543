-- Sums of what stands at a level.
use Rattle.std.proofs.Common.{◌≡◌, ◌+◌, ℕ, zero, suc, max, Option, refl, arith}
use Rattle.graphql_grammar.specs.Tokens.{Word}
use Rattle.juniper_outlines.specs.Complexities.{nothing, plus, in_a_field}
use Rattle.juniper_outlines.specs.Sums.{at_level}
use Rattle.juniper_complexity.specs.Parts.{field_complexity, only_directives}
use Rattle.juniper_outlines.specs.declared.complexity.Complexity.{Complexity}
use Rattle.juniper_complexity.proofs.Algebra.{same_complexity}

-- what is counted there, and what the spreads add, is this part inside so many fields
pub record Sums (l : ℕ) (o s x : Complexity) : Type 0 where
  pub fields : o.fields + s.fields ≡ x.fields
  pub aliases : o.aliases + s.aliases ≡ x.aliases
  pub directives : o.directives + s.directives ≡ x.directives
  pub roots : o.root_fields + s.root_fields ≡ (at_level l x).root_fields
  pub depth : max l (max o.depth s.depth) ≡ l + x.depth

pub sums_none : (l : ℕ) → Sums l nothing nothing nothing
sums_none zero = record { fields = refl; aliases = refl; directives = refl; roots = refl; depth = refl }
sums_none (suc l) = record { fields = refl; aliases = refl; directives = refl; roots = refl; depth = omega arith }

-- by its five numbers
sums_by : (l : ℕ) (o s x : Complexity) → o.fields + s.fields ≡ x.fields → o.aliases + s.aliases ≡ x.aliases
    → o.directives + s.directives ≡ x.directives → o.root_fields + s.root_fields ≡ (at_level l x).root_fields
    → max l (max o.depth s.depth) ≡ l + x.depth → Sums l o s x
sums_by l o s x f a d r e = record { fields = f; aliases = a; directives = d; roots = r; depth = e }

-- what is counted in two parts
both : (o s x p t y : ℕ) → o + s ≡ x → p + t ≡ y → (o + p) + (s + t) ≡ x + y
both o s x p t y e f = omega arith

both_roots : (l o s p t : ℕ) (x y : Complexity) → o + s ≡ (at_level l x).root_fields
    → p + t ≡ (at_level l y).root_fields → (o + p) + (s + t) ≡ (at_level l (plus x y)).root_fields
both_roots zero o s p t x y e f = both o s _ p t _ e f
both_roots (suc l) o s p t x y e f = both o s _ p t _ e f

pub sums_row : (l : ℕ) (o s x p t y : Complexity) → Sums l o s x → Sums l p t y
    → Sums l (plus o p) (plus s t) (plus x y)
sums_row l o s x p t y e f = record {
  fields = both o.fields s.fields _ p.fields t.fields _ e.fields f.fields;
  aliases = both o.aliases s.aliases _ p.aliases t.aliases _ e.aliases f.aliases;
  directives = both o.directives s.directives _ p.directives t.directives _ e.directives f.directives;
  roots = both_roots l o.root_fields s.root_fields p.root_fields t.root_fields x y e.roots f.roots;
  depth = omega arith;
}

pub sums_leaf : (l : ℕ) (alias : Option Word) (n : ℕ)
    → Sums l (plus (plus (at_level l (field_complexity alias)) (only_directives n)) nothing) nothing
    (plus (field_complexity alias) (only_directives n))
sums_leaf zero alias n = sums_by _ _ _ _ (omega arith) (omega arith) (omega arith) (omega arith) (omega arith)
sums_leaf (suc l) alias n = sums_by _ _ _ _ (omega arith) (omega arith) (omega arith) (omega arith) (omega arith)

pub sums_field : (l : ℕ) (alias : Option Word) (n : ℕ) (o s x : Complexity) → Sums (suc l) o s x
    → Sums l (plus (plus (at_level l (field_complexity alias)) (only_directives n)) o) s
    (plus (plus (field_complexity alias) (only_directives n)) (in_a_field x))
sums_field zero alias n o s x e =
    sums_by _ _ _ _ (omega arith) (omega arith) (omega arith) (omega arith) (omega arith)
sums_field (suc l) alias n o s x e =
    sums_by _ _ _ _ (omega arith) (omega arith) (omega arith) (omega arith) (omega arith)

pub sums_spread : (l n : ℕ) (b : Complexity)
    → Sums l (only_directives n) (plus (at_level l b) nothing) (plus (only_directives n) b)
sums_spread zero n b = sums_by _ _ _ _ (omega arith) (omega arith) (omega arith) (omega arith) (omega arith)
sums_spread (suc l) n b = sums_by _ _ _ _ (omega arith) (omega arith) (omega arith) (omega arith) (omega arith)

pub sums_inline : (l n : ℕ) (o s x : Complexity) → Sums l o s x
    → Sums l (plus (only_directives n) o) s (plus (only_directives n) x)
sums_inline zero n o s x e = sums_by _ _ _ _ (omega arith) (omega arith) (omega arith) (omega arith) (omega arith)
sums_inline (suc l) n o s x e = sums_by _ _ _ _ (omega arith) (omega arith) (omega arith) (omega arith) (omega arith)

pub sums_whole : (n : ℕ) (o s x : Complexity) → Sums 0 o s x
    → plus (plus (only_directives n) o) s ≡ plus (only_directives n) x
sums_whole n o s x e = same_complexity _ _ (omega arith) (omega arith) (omega arith) (omega arith) (omega arith)
