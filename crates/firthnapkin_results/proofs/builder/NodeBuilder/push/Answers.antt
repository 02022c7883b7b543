use Rattle.std.proofs.Common.{[], refl}
use Rattle.juniper_parser.specs.Building.{a_list}
use Rattle.firthnapkin_results.specs.Builders.{Opens}
use Rattle.firthnapkin_results.proofs.Builders.{adds_none}
use Rattle.firthnapkin_results.proofs.builder.NodeBuilder.push.Goals as goal

pub returns : goal.returns
returns c none =
    let opened = c.open-part.new.self in
    let is_open : Opens c.args.self.now opened c.open-part.result a_list =
    record { index_is = c.open-part.ensures.index; adds = c.open-part.ensures.adds } in
    c.close.ensures c.args.self.now opened a_list [] none is_open (adds_none opened opened refl)
