-- The directives of variable definitions.
use Rattle.std.proofs.Common.{◌≡◌, ◌<◌, ◌+◌, ℕ, List, [], ◌∷◌, ◌++◌, length, map, take, get_or, refl, ap, sym}
use Rattle.std.proofs.Common.{subst, ◌∙◌, ◌≤◌, Option, Some, None, arith}
use Rattle.std.proofs.lemmas.List.{take_all}
use Rattle.std.specs.Borrow.{Bor}
use Rattle.graphql_grammar.specs.Tree as tree
use Rattle.graphql_grammar.specs.Tree.{Variables}
use Rattle.juniper_parser.specs.Building.{BuildsEach, BuildsOptional}
use Rattle.juniper_tree.specs.View.{view_directives, view_variable}
use Rattle.juniper_tree.specs.declared.ast.VariableDefinition.{VariableDefinition}
use Rattle.juniper_tokens.specs.declared.span.Spanning.{Spanning}
use Rattle.juniper_values.specs.Scalar.{Content}
use Rattle.juniper_outlines.specs.Complexities.{nothing, plus}
use Rattle.juniper_outlines.proofs.Public.{take_next}
use Rattle.juniper_complexity.specs.Gathered.{Gathers, GathersVariable, GathersVariables}
use Rattle.juniper_complexity.specs.Parts.{directive_count, directives_complexity, directives_of_variables}
use Rattle.juniper_complexity.specs.Parts.{only_directives, variable_directive_count}
use Rattle.juniper_complexity.specs.declared.outline_builder.OutlineBuilder.{OutlineBuilder}
use Rattle.juniper_complexity.proofs.Algebra.{same_complexity}
use Rattle.juniper_complexity.proofs.OutlineBuilders.{gathers_none, gathers_both, gathers_same}

only_plus : (n m : ℕ) → only_directives (n + m) ≡ plus (only_directives n) (only_directives m)
only_plus n m = same_complexity _ _ refl refl refl refl refl

-- two counts, one after the other
gathers_counts : (a b c : OutlineBuilder) (n m : ℕ) → Gathers a b (λ _. only_directives n) (λ _. [])
    → Gathers b c (λ _. only_directives m) (λ _. []) → Gathers a c (λ _. only_directives (n + m)) (λ _. [])
gathers_counts a b c n m g h =
    gathers_same a c (λ _. plus (only_directives n) (only_directives m)) (λ _. only_directives (n + m))
    (λ _. [] ++ []) (λ _. []) (λ _. only_plus n m) (λ _. refl) (gathers_both a b c _ _ _ _ g h)

-- ---- of definitions that are built

gathers_variables : (a b : OutlineBuilder) (xs : List (Unit {0})) (vs : List (tree.VariableDefinition Content))
    → BuildsEach GathersVariable a b xs vs
    → Gathers a b (λ _. only_directives (directives_of_variables vs)) (λ _. [])
gathers_variables a b [] [] same =
    subst (λ (z : OutlineBuilder). Gathers a z (λ _. nothing) (λ _. [])) same (gathers_none a)
gathers_variables a b [] (v ∷ vs) some = absurd some
gathers_variables a b (x ∷ xs) [] some = absurd some
gathers_variables a b (x ∷ xs) (v ∷ vs) some =
    gathers_counts a some.0 b (directive_count v.directives) (directives_of_variables vs) some.1
    (gathers_variables some.0 b xs vs some.2)

pub gathers_optional_variables : (a b : OutlineBuilder) (x : Option (Unit {0})) (vs : Option (Variables Content))
    → BuildsOptional (GathersVariables GathersVariable) a b x vs
    → Gathers a b (λ _. only_directives (variable_directive_count vs)) (λ _. [])
gathers_optional_variables a b None None same =
    subst (λ (z : OutlineBuilder). Gathers a z (λ _. nothing) (λ _. [])) same (gathers_none a)
gathers_optional_variables a b None (Some vs) some = absurd some
gathers_optional_variables a b (Some x) None some = absurd some
gathers_optional_variables a b (Some x) (Some vs) each = gathers_variables a b each.0 vs.item each.1

-- ---- of a tree's definitions

module _ {S : Type 0} (content : S → Content) where
  abbrev Pair : Type 0
  Pair = Spanning (Bor (List ℕ)) × VariableDefinition S

  abbrev counts : List Pair → ℕ
  counts xs = directives_of_variables (map (view_variable content) xs)

  counts_more : (xs : List Pair) (x : Pair)
      → counts (xs ++ x ∷ []) ≡ counts xs + directive_count (view_directives content x.1.directives)
  counts_more [] x = omega arith
  counts_more (y ∷ ys) x = omega (arith, counts_more ys x)

  -- the builder has counted the directives of the first i definitions
  abbrev pub CountsFirst : OutlineBuilder → OutlineBuilder → List Pair → ℕ → Type 0
  CountsFirst old now xs i = Gathers old now (λ _. only_directives (counts (take i xs))) (λ _. [])

  pub counts_none : (it : OutlineBuilder) (xs : List Pair) → CountsFirst it it xs 0
  counts_none it xs = gathers_none it

  pub counts_one_more : (old now new : OutlineBuilder) (xs : List Pair) (i : ℕ) (x : Pair)
      → i < length xs → x ≡ get_or xs i x → CountsFirst old now xs i
      → Gathers now new (λ _. directives_complexity (view_directives content x.1.directives)) (λ _. [])
      → CountsFirst old new xs (i + 1)
  counts_one_more old now new xs i x lt r first more =
      let longer = ap counts (take_next xs i x lt r) ∙ counts_more (take i xs) x in
      subst (λ (n : ℕ). Gathers old new (λ _. only_directives n) (λ _. [])) (sym longer)
      (gathers_counts old now new (counts (take i xs)) (directive_count (view_directives content x.1.directives)) first
      more)

  pub counts_all : (old now : OutlineBuilder) (xs : List Pair) (i : ℕ) → length xs ≤ i → CountsFirst old now xs i
      → Gathers old now (λ _. only_directives (counts xs)) (λ _. [])
  counts_all old now xs i end first =
      subst (λ (ys : List Pair). Gathers old now (λ _. only_directives (counts ys)) (λ _. [])) (take_all i xs end) first
