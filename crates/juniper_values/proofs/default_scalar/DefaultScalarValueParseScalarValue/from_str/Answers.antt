use Rattle.std.proofs.Common.{rules}
use Rattle.std.specs.Str.{chars}
use Rattle.juniper_values.proofs.default_scalar.DefaultScalarValueParseScalarValue.from_str.Goals as goal

pub returns-in-Float : goal.returns-in-Float
unfolding chars
returns-in-Float c = search rules
