use Rattle.juniper_values.proofs.Wraps.{wraps_once}
use Rattle.juniper_values.proofs.laws.wrapping.Goals as goal

pub returns : goal.returns
returns c = wraps_once
