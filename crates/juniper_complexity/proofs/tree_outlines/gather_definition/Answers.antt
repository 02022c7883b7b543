use Rattle.std.proofs.Common.{◌∙◌, ap, map, refl}
use Rattle.std.specs.Prelude.{option_map}
use Rattle.juniper_tree.specs.View.{view_directives, view_selections, view_variables}
use Rattle.juniper_complexity.specs.Gathered.{counted_directives, seen_spread}
use Rattle.juniper_complexity.proofs.OutlineBuilders.{gathers_definition, gathers_operation}
use Rattle.juniper_complexity.proofs.tree_outlines.gather_definition.Goals as goal

pub returns-in_ok-gather_selections-in-Operation : goal.returns-in_ok-gather_selections-in-Operation
returns-in_ok-gather_selections-in-Operation g c =
    let content = g.S.ParseScalarValue.content in
    let d = c.in-Operation.operation in
    let set = view_selections content d.item.selection_set.items in
    let whole = gathers_operation (counted_directives c.count_of.result)
    (view_directives content d.item.directives)
    c.count_of.ensures c.begin.new.self c.gather_variables.new.builder c.gather_selections.new.builder
    (option_map (view_variables content) d.item.variable_definitions) set _ c.begin.ensures c.gather_variables.ensures
    (rw c.deref.ensures.value at c.in_ok-gather_selections-in-Operation.ensures)
    c.end.ensures.own in
    rw c.in-Operation.is (record {
      fragment = rw c.end.ensures.fragment refl;
      own_complexity = whole.0;
      own_spreads = ap (map seen_spread) c.end.ensures.spreads ∙ whole.1;
    })

pub returns-in_ok-gather_selections-in-Fragment : goal.returns-in_ok-gather_selections-in-Fragment
returns-in_ok-gather_selections-in-Fragment g c =
    let content = g.S.ParseScalarValue.content in
    let d = c.in-Fragment.fragment in
    let set = view_selections content d.item.selection_set.items in
    let whole = gathers_definition (counted_directives c.count_of-in-Fragment.result)
    (view_directives content d.item.directives)
    c.count_of-in-Fragment.ensures c.begin.new.self c.gather_selections-in-Fragment.new.builder set _ c.begin.ensures
    (rw c.deref-in-Fragment.ensures.value at c.in_ok-gather_selections-in-Fragment.ensures)
    c.end-in-Fragment.ensures.own in
    rw c.in-Fragment.is (record {
      fragment = rw c.end-in-Fragment.ensures.fragment refl;
      own_complexity = whole.0;
      own_spreads = ap (map seen_spread) c.end-in-Fragment.ensures.spreads ∙ whole.1;
    })
