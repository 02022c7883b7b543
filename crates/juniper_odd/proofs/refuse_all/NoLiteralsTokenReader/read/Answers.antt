use Rattle.std.proofs.Common.{rules}
use Rattle.std.specs.Str.{chars}
use Rattle.juniper_odd.proofs.refuse_all.NoLiteralsTokenReader.read.Goals as goal

pub returns : goal.returns
unfolding chars
returns c = search rules
