-- Parts of a document whose nodes were written, and which an outliner gathered.
use Rattle.std.proofs.Common.{◌+◌, ◌^◌, ◌<◌, ℕ, List, [], ◌∷◌, length, Option, Some, None, sym, ap, subst, arith, ◌∙◌}
use Rattle.std.proofs.Common.{length-append}
use Rattle.graphql_grammar.specs.Tree.{Directives, Selection, Selections, OptionalSelections, absent, present}
use Rattle.graphql_grammar.specs.Tree.{Definition}
use Rattle.graphql_nodes.specs.Nodes.{Node, if_present, each, directive_nodes, directives_nodes, selection_nodes}
use Rattle.graphql_nodes.specs.Nodes.{selections_nodes, optional_nodes, definition_nodes}
use Rattle.juniper_parser.specs.Building.{BuildsEach, BuildsOptional, BuildsOptionalSet, BuildsSet}
use Rattle.juniper_complexity.specs.Gathered.{AreGathered, Keeps, KeepsDirectives, gathered}
use Rattle.juniper_complexity.specs.declared.outline_builder.PartCount.{PartCount}
use Rattle.juniper_outlines.specs.declared.outline.DefinitionOutline.{DefinitionOutline}
use Rattle.juniper_values.specs.Scalar.{Content}
use Rattle.firthnapkin_results.specs.Builders.{Adds, Fit}
use Rattle.firthnapkin_results.specs.Buildings.{AddsDefinition, AddsDirectives, AddsOptionalSet, AddsSet, AreMarked}
use Rattle.firthnapkin_results.specs.Buildings.{AreOutlined}
use Rattle.firthnapkin_results.specs.ByteTables.{IsTableOf}
use Rattle.firthnapkin_results.specs.Fits.{NodesFit}
use Rattle.firthnapkin_results.specs.Outliners.{IsMarked}
use Rattle.firthnapkin_results.specs.declared.builder.building.Building.{Building}
use Rattle.firthnapkin_results.proofs.Builders.{adds_none, adds_more, selections_each}
use Rattle.firthnapkin_results.proofs.Written.{fits-append}

-- ---- parts in a row, and parts that may be absent

module _ {O X A : Type 0} (nodes : A → List (Node Content)) (gathers : O → O → X → A → Type 0) where
  abbrev AddsBoth : Building O → Building O → X → A → Type 0
  AddsBoth old new x part = Adds old.nodes new.nodes (nodes part) × gathers old.outlines new.outlines x part

  pub each_added : (a b : Building O) (xs : List X) (ps : List A) → BuildsEach AddsBoth a b xs ps
      → Adds a.nodes b.nodes (each nodes ps) × BuildsEach gathers a.outlines b.outlines xs ps
  unfolding each
  each_added a b [] [] same = (
    adds_none a.nodes b.nodes (ap (λ (z : Building O). z.nodes) same),
    ap (λ (z : Building O). z.outlines) same,
  )
  each_added a b [] (p ∷ ps) some = absurd some
  each_added a b (x ∷ xs) [] some = absurd some
  each_added a b (x ∷ xs) (p ∷ ps) some =
      let others = each_added some.0 b xs ps some.2 in (
        adds_more a.nodes some.0.nodes b.nodes (nodes p) (each nodes ps) some.1.0 others.0,
        (some.0.outlines, some.1.1, others.1),
      )

  pub optional_added : (a b : Building O) (x : Option X) (p : Option A) → BuildsOptional AddsBoth a b x p
      → Adds a.nodes b.nodes (if_present nodes p) × BuildsOptional gathers a.outlines b.outlines x p
  optional_added a b None None same = (
    adds_none a.nodes b.nodes (ap (λ (z : Building O). z.nodes) same),
    ap (λ (z : Building O). z.outlines) same,
  )
  optional_added a b None (Some p) some = absurd some
  optional_added a b (Some x) None some = absurd some
  optional_added a b (Some x) (Some p) one = one

module _ {O : Type 0} where
  pub directives_added : (a b : Building O) (x : Option PartCount) (ds : Directives Content) → AddsDirectives a b x ds
      → Adds a.nodes b.nodes (directives_nodes ds) × KeepsDirectives a.outlines b.outlines x ds
  unfolding directives_nodes
  directives_added a b None None same = (
    adds_none a.nodes b.nodes (ap (λ (z : Building O). z.nodes) same),
    ap (λ (z : Building O). z.outlines) same,
  )
  directives_added a b None (Some ds) some = absurd some
  directives_added a b (Some x) None some = absurd some
  directives_added a b (Some x) (Some ds) some = each_added directive_nodes Keeps a b (gathered x) ds some

-- ---- selections

module _ {O : Type 0} (gathers : O → O → Unit {0} → Selection Content → Type 0) where
  pub set_added : (a b : Building O) (parts : PartCount) (set : Selections Content) → AddsSet gathers a b parts set
      → Adds a.nodes b.nodes (selections_nodes set) × BuildsSet gathers gathered a.outlines b.outlines parts set
  set_added a b parts set h =
      let added = each_added selection_nodes gathers a b (gathered parts) h.selections h.are_built in (
        subst (Adds a.nodes b.nodes) (sym (selections_each h.selections) ∙ ap selections_nodes h.are) added.0,
        record { selections = h.selections; are = h.are; are_built = added.1 },
      )

  pub optional_set_added : (a b : Building O) (parts : Option PartCount) (set : OptionalSelections Content)
      → AddsOptionalSet gathers a b parts set
      → Adds a.nodes b.nodes (optional_nodes set) × BuildsOptionalSet gathers gathered a.outlines b.outlines parts set
  unfolding selection_nodes selections_nodes optional_nodes
  optional_set_added a b None absent same = (
    adds_none a.nodes b.nodes (ap (λ (z : Building O). z.nodes) same),
    ap (λ (z : Building O). z.outlines) same,
  )
  optional_set_added a b None (present set) some = absurd some
  optional_set_added a b (Some parts) absent some = absurd some
  optional_set_added a b (Some parts) (present set) h = set_added a b parts set h

-- ---- definitions

module _ {O D : Type 0} (outlines : D → ℕ → Definition Content → Type 0) where
  pub definitions_added : (a b : Building O) (os : List D) (ds : List (Definition Content))
      → BuildsEach (AddsDefinition outlines) a b os ds → Adds a.nodes b.nodes (each definition_nodes ds)
  unfolding each
  definitions_added a b [] [] same = adds_none a.nodes b.nodes (ap (λ (z : Building O). z.nodes) same)
  definitions_added a b [] (d ∷ ds) some = absurd some
  definitions_added a b (o ∷ os) [] some = absurd some
  definitions_added a b (o ∷ os) (d ∷ ds) some =
      adds_more a.nodes some.0.nodes b.nodes (definition_nodes d) (each definition_nodes ds) some.1.0
      (definitions_added some.0 b os ds some.2)

  pub definitions_outlined : (source : List ℕ) (a b : Building O) (os : List D) (ds : List (Definition Content))
      → BuildsEach (AddsDefinition outlines) a b os ds → IsTableOf source a.nodes.table.now
      → Fit a.nodes (each definition_nodes ds) → AreOutlined outlines a.nodes.nodes_length os ds
  unfolding each
  definitions_outlined source a b [] [] same table fit = tt
  definitions_outlined source a b [] (d ∷ ds) some table fit = absurd some
  definitions_outlined source a b (o ∷ os) [] some table fit = absurd some
  definitions_outlined source a b (o ∷ os) (d ∷ ds) some table fit =
      let one = definition_nodes d in
      let others = each definition_nodes ds in
      let fits = fits-append a.nodes.texts_length one others fit.1 in
      let count = length-append one others in
      let few : a.nodes.nodes_length + length one < 2 ^ 32 = omega (arith, fit.0, count) in
      let first = some.1.0.written source table (few, fits.0) in
      let there = subst (λ t. IsTableOf source t.now) (sym some.1.0.keeps.table) table in
      let more : some.0.nodes.nodes_length + length others < 2 ^ 32 = omega (arith, fit.0, count, first.nodes_count) in
      let next = subst (λ (k : ℕ). NodesFit k others) (sym first.texts_count) fits.1 in
      let rest = definitions_outlined source some.0 b os ds some.2 there (more, next) in
      (some.1.1, subst (λ (k : ℕ). AreOutlined outlines k os ds) first.nodes_count rest)

pub outlined_are_gathered : (at : ℕ) (os : List DefinitionOutline) (ds : List (Definition Content))
    → AreOutlined IsMarked at os ds → AreGathered os ds
outlined_are_gathered at [] [] all = tt
outlined_are_gathered at [] (d ∷ ds) all = absurd all
outlined_are_gathered at (o ∷ os) [] all = absurd all
outlined_are_gathered at (o ∷ os) (d ∷ ds) all =
    (all.0.0, outlined_are_gathered (at + length (definition_nodes d)) os ds all.1)

pub outlined_are_marked : (at : ℕ) (os : List DefinitionOutline) (ds : List (Definition Content))
    → AreOutlined IsMarked at os ds → AreMarked at os ds
outlined_are_marked at [] [] all = tt
outlined_are_marked at [] (d ∷ ds) all = absurd all
outlined_are_marked at (o ∷ os) [] all = absurd all
outlined_are_marked at (o ∷ os) (d ∷ ds) all =
    (all.0.1, outlined_are_marked (at + length (definition_nodes d)) os ds all.1)
