use Rattle.std.proofs.Common.{◌≡◌, ◌-◌, ◌<◌, length, arith}
use Rattle.std.proofs.lemmas.Grind.{common_steps}
use Rattle.std.proofs.lemmas.List.{length-map}
use Rattle.juniper_nodes.specs.NodeViews.{view_node}
use Rattle.juniper_nodes.proofs.Growth.{counted}
use Rattle.juniper_nodes.proofs.nodes.push.close.Goals as goal

pub returns : goal.returns
returns g c =
    let content = g.S.ParseScalarValue.content in
    let xs = c.args.nodes.now.items in
    let place = c.args.place in
    let same = length-map xs (view_node content) in
    let within : place < length xs = omega (arith, same) in
    let count : c.len.result - place - 1 ≡ length xs - place - 1 = omega arith in
    let read = c.index_mut in
    record {
      nodes = λ before inner node e h.
          counted content xs read.result.now place _ before inner node read.ensures.value within count e h;
    }

pub overflow_sub-count : goal.overflow_sub-count
overflow_sub-count g c = grind (arith, common_steps)

pub overflow_sub-count-2 : goal.overflow_sub-count-2
overflow_sub-count-2 g c = grind (arith, common_steps)
