use Rattle.std.proofs.Common.{ap}
use Rattle.juniper_values.proofs.Public.{read, refused}
use Rattle.firthnapkin_results.specs.Scalars.{int_reading}
use Rattle.firthnapkin_results.proofs.scalar.read_int.Goals as goal

pub returns-in-Ok-clause-reads : goal.returns-in-Ok-clause-reads
returns-in-Ok-clause-reads c =
    ap int_reading (read c.args.text.now c.utf8.text c.in-Ok.value c.parse.result c.parse.ensures.value.0 c.in-Ok.is)

pub returns-in-Err-clause-reads : goal.returns-in-Err-clause-reads
returns-in-Err-clause-reads c =
    let e = c.in-Err in
    ap int_reading (refused c.args.text.now c.utf8.text e.field-0 c.parse.result c.parse.ensures.value.0 e.is)
