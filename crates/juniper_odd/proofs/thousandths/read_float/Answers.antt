use Rattle.std.proofs.Common.{ap, sym, ◌∙◌}
use Rattle.std.specs.Str.{chars}
use Rattle.juniper_odd.specs.Thousandths.{milli_reading}
use Rattle.juniper_odd.proofs.thousandths.read_float.Goals as goal

pub returns-in-None : goal.returns-in-None
unfolding chars
returns-in-None c = ap milli_reading (sym c.in_ok-number.ensures ∙ c.in-None.is)
