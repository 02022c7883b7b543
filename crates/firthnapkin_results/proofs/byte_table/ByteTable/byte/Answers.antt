use Rattle.std.proofs.Common.{arith}
use Rattle.std.proofs.lemmas.Option.{gets}
use Rattle.firthnapkin_results.proofs.byte_table.ByteTable.byte.Goals as goal

pub returns-in-Some-get : goal.returns-in-Some-get
returns-in-Some-get c = grind (arith, gets)

pub returns-in-None-get : goal.returns-in-None-get
returns-in-None-get c = grind (arith, gets)
