use Rattle.juniper_values.proofs.Integers.{read, refused}
use Rattle.juniper_values.proofs.default_scalar.read_int.Goals as goal

pub returns-in-Ok : goal.returns-in-Ok
returns-in-Ok c = read c.args.text.now c.utf8.text c.in-Ok.value c.parse.result c.parse.ensures.value.0 c.in-Ok.is

pub returns-in-Err : goal.returns-in-Err
returns-in-Err c = rw (refused c.args.text.now c.utf8.text c.in-Err.field-0 c.parse.result c.parse.ensures.value.0
    c.in-Err.is) c.refuse.ensures
