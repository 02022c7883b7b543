-- The spans of a document's spreads have 32 bits, since those of its nodes do.
use Rattle.std.proofs.Common.{◌≡◌, ◌+◌, ℕ, zero, suc, List, [], ◌∷◌, ◌++◌, Some}
use Rattle.std.specs.List.{slice_get}
use Rattle.graphql_grammar.specs.Tree as tree
use Rattle.graphql_grammar.specs.Tree.{Selection, Selections, no_selections, selection, OptionalSelections, absent}
use Rattle.graphql_grammar.specs.Tree.{present, Definition}
use Rattle.graphql_nodes.specs.Nodes.{Node, if_present, each, alias_nodes, arguments_nodes, directives_nodes}
use Rattle.graphql_nodes.specs.Nodes.{variables_nodes, selection_nodes, optional_nodes, selections_nodes}
use Rattle.graphql_nodes.specs.Nodes.{definition_nodes, document_nodes}
use Rattle.juniper_complexity.specs.Faults.{SpreadFault, OfCycle, OfUnknown, CannotExpand, of_none, of_outer}
use Rattle.juniper_complexity.specs.Faults.{in_fragment, in_others, FirstFault}
use Rattle.juniper_complexity.specs.Parts.{Reference, spreads_of, spreads_of_optional, spreads_of_all}
use Rattle.juniper_complexity.specs.Parts.{spreads_of_definition}
use Rattle.juniper_nodes.specs.NodeTexts.{node_texts}
use Rattle.juniper_values.specs.Scalar.{Content}
use Rattle.firthnapkin_results.specs.Fits.{NodesFit, SpanFits}
use Rattle.firthnapkin_results.specs.Nodes.{byte_count}
use Rattle.firthnapkin_results.proofs.Written.{fits-append}

abbrev pub AllFit : List Reference → Type 0
AllFit [] = Unit {0}
AllFit (r ∷ rs) = SpanFits r.span × AllFit rs

all-append : (rs qs : List Reference) → AllFit rs → AllFit qs → AllFit (rs ++ qs)
all-append [] qs h k = k
all-append (r ∷ rs) qs h k = (h.0, all-append rs qs h.1 k)

-- these nodes are those of the end of a list
module _ (at : ℕ) where
  after : (ns ms : List (Node Content)) → NodesFit at (ns ++ ms) → NodesFit (at + byte_count (node_texts ns)) ms
  after ns ms h = (fits-append at ns ms h).1

mutual
  unfolding selection_nodes selections_nodes optional_nodes spreads_of spreads_of_optional spreads_of_all

  selection_spreads : (l at : ℕ) (s : Selection Content) → NodesFit at (selection_nodes s) → AllFit (spreads_of l s)
  selection_spreads l at (tree.Field alias name arguments directives set span) h =
      let one = after _ (if_present alias_nodes alias)
      (if_present arguments_nodes arguments ++ (directives_nodes directives ++ optional_nodes set)) h.1 in
      let two = after _ (if_present arguments_nodes arguments) (directives_nodes directives ++ optional_nodes set)
      one in
      optional_spreads (suc l) _ set (after _ (directives_nodes directives) (optional_nodes set) two)
  selection_spreads l at (tree.FragmentSpread name directives span) h = (h.0.span, tt)
  selection_spreads l at (tree.InlineFragment condition directives set span) h =
      set_spreads l _ set (after _ (directives_nodes directives) (selections_nodes set) h.1)

  optional_spreads : (l at : ℕ) (s : OptionalSelections Content) → NodesFit at (optional_nodes s)
      → AllFit (spreads_of_optional l s)
  optional_spreads l at absent h = tt
  optional_spreads l at (present set) h = set_spreads l at set h

  set_spreads : (l at : ℕ) (s : Selections Content) → NodesFit at (selections_nodes s) → AllFit (spreads_of_all l s)
  set_spreads l at no_selections h = tt
  set_spreads l at (selection first others) h =
      let both = fits-append at (selection_nodes first) (selections_nodes others) h in
      all-append (spreads_of l first) (spreads_of_all l others) (selection_spreads l at first both.0)
      (set_spreads l _ others both.1)

definition_spreads : (at : ℕ) (d : Definition Content) → NodesFit at (definition_nodes d) → AllFit
    (spreads_of_definition d)
unfolding definition_nodes
definition_spreads at (tree.Operation type name variables directives set span) h =
    let one = after _ (if_present variables_nodes variables) (directives_nodes directives ++ selections_nodes set)
    h.1 in
    set_spreads 0 _ set (after _ (directives_nodes directives) (selections_nodes set) one)
definition_spreads at (tree.Fragment name condition directives set span) h =
    set_spreads 0 _ set (after _ (directives_nodes directives) (selections_nodes set) h.1)

document_spreads : (at : ℕ) (ds : List (Definition Content)) → NodesFit at (each definition_nodes ds) → (i : ℕ)
    (d : Definition Content) → slice_get ds i ≡ Some d → AllFit (spreads_of_definition d)
unfolding each
document_spreads at [] h i d e = absurd cc
document_spreads at (p ∷ ds) h zero d e =
    let same : p ≡ d = cc in
    rw (← same) (definition_spreads at p (fits-append at (definition_nodes p) (each definition_nodes ds) h).0)
document_spreads at (p ∷ ds) h (suc i) d e =
    document_spreads (at + byte_count (node_texts (definition_nodes p))) ds
    (fits-append at (definition_nodes p) (each definition_nodes ds) h).1 i d e

abbrev pub ErrorFits : SpreadFault → Type 0
ErrorFits (OfCycle span) = SpanFits span
ErrorFits (OfUnknown span) = SpanFits span

module _ (tree : List (Definition Content))
    (fit : (i : ℕ) (d : Definition Content) → slice_get tree i ≡ Some d → AllFit (spreads_of_definition d)) where
  error_fits : {inside : List ℕ} {rs : List Reference} {f : SpreadFault} → CannotExpand tree inside rs f → AllFit rs
      → ErrorFits f
  error_fits (of_none e) h = h.0
  error_fits (of_outer t e among) h = h.0
  error_fits (in_fragment t d e out stands k) h = error_fits k (fit t d stands)
  error_fits (in_others t d b e stands has k) h = error_fits k h.1

pub first_fits : (tree : List (Definition Content)) (at : ℕ) (f : SpreadFault) → NodesFit 0 (document_nodes tree)
    → FirstFault tree at f → ErrorFits f
unfolding document_nodes
first_fits tree at f h first =
    let fit = document_spreads 0 tree h in
    error_fits tree fit first.fault (fit at first.operation first.stands)
