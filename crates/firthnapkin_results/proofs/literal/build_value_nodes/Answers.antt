use Rattle.std.proofs.Common.{not, subst, sym}
use Rattle.std.specs.Str.{chars}
use Rattle.juniper_documents.specs.Literals.{FailsValue}
use Rattle.firthnapkin_results.specs.Answers.{scalars}
use Rattle.firthnapkin_results.proofs.literal.build_value_nodes.Goals as goal

pub returns-in-Ok-clause-built : goal.returns-in-Ok-clause-built
returns-in-Ok-clause-built c =
    let given = c.in-Ok.ensures in (
      given.accepted.0,
      record { utf8 = c.utf8.text; has = given.accepted.2; within = given.within; few = given.few },
      given.accepted.1.0,
    )

pub returns-in-Err-clause-failed : goal.returns-in-Err-clause-failed
returns-in-Err-clause-failed c =
    let free = not c.args.is_const in
    let text = c.args.text.now in
    let limits = c.args.limits.now in
    let given = c.in-Err.ensures.failed in
    c.failure_of.ensures.value free text limits c.utf8.text c.requires.short c.requires.table
    (subst (FailsValue scalars free limits.depth limits.tokens (chars text)) (sym given.1) given.2)
