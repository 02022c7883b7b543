use Rattle.std.proofs.Common.{map, take}
use Rattle.juniper_tree.specs.View.{view_variable}
use Rattle.juniper_values.specs.View.{values_in}
use Rattle.juniper_requests.specs.Defaults.{WithDefaults, AreKept}
use Rattle.juniper_requests.specs.device.Seen.{HasSeen}
use Rattle.juniper_requests.proofs.FirstDefaults.{names}
use Rattle.juniper_requests.proofs.defaults.with_defaults.Given as goal

abbrev pub invariant-loop-definition : goal.invariant-loop-definition
invariant-loop-definition g l =
    let content = g.S.ParseScalarValue.content in
    let so_far = map (view_variable content) (take l.definition-index l.definition-items) in
    HasSeen l.seen (names so_far)
    × WithDefaults so_far (values_in content l.initial.all) (values_in content l.all)
    × AreKept (values_in (λ s. s) l.initial.all) (values_in (λ s. s) l.all)
