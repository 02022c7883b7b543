use Rattle.std.proofs.Common.{refl, arith}
use Rattle.firthnapkin_results.proofs.Public.{few_tokens, few_before, few_in_limit, error_after, tells_text}
use Rattle.firthnapkin_calls.proofs.tokens.firthnapkin_tokens.Goals as goal

pub returns-then-count-tokens-clause-bounds : goal.returns-then-count-tokens-clause-bounds
returns-then-count-tokens-clause-bounds c =
    let cut = (rw c.in-Ok-Tokens.field-0-is at c.in-Ok-Tokens.ensures).1 in
    omega (arith, few_tokens c.args.source.now cut.0 cut.1, cut.4)

pub returns-else-count-tokens-clause-bounds : goal.returns-else-count-tokens-clause-bounds
returns-else-count-tokens-clause-bounds c =
    let cut = (rw c.in-Ok-Tokens.field-0-is at c.in-Ok-Tokens.ensures).1 in
    omega (arith, few_tokens c.args.source.now cut.0 cut.1, cut.4)

pub returns-in-Ok-Refused-clause-refused : goal.returns-in-Ok-Refused-clause-refused
returns-in-Ok-Refused-clause-refused c = λ _.
    let it = (rw c.in-Ok-Refused.field-0-is at c.in-Ok-Refused.ensures).1 in
    (it.0, it.1, it.2, it.3, it.4, it.5, it.6, error_after c.args.source.now it.0 it.1 it.2 it.3, it.7)

pub returns-in-Ok-Refused-clause-bounds : goal.returns-in-Ok-Refused-clause-bounds
returns-in-Ok-Refused-clause-bounds c =
    let it = (rw c.in-Ok-Refused.field-0-is at c.in-Ok-Refused.ensures).1 in
    omega (arith, few_before c.args.source.now it.0 it.1 it.2 it.3, it.6)

pub returns-in-Ok-Many-clause-many : goal.returns-in-Ok-Many-clause-many
returns-in-Ok-Many-clause-many c = λ _.
    let it = rw c.in-Ok-Many.field-0-is at c.in-Ok-Many.ensures in
    (it.1, (it.2.0, it.2.1, it.2.2, refl, it.2.3))

pub returns-in-Ok-Many-clause-bounds : goal.returns-in-Ok-Many-clause-bounds
returns-in-Ok-Many-clause-bounds c =
    let it = rw c.in-Ok-Many.field-0-is at c.in-Ok-Many.ensures in
    omega (arith, few_in_limit c.args.source.now c.args.max_tokens it.2.0 it.1 it.2.1)

pub returns-then-count-tokens-clause-texts : goal.returns-then-count-tokens-clause-texts
returns-then-count-tokens-clause-texts c = tells_text c.args.source.now

pub returns-else-count-tokens-clause-texts : goal.returns-else-count-tokens-clause-texts
returns-else-count-tokens-clause-texts c = tells_text c.args.source.now

pub returns-in-Ok-Refused-clause-texts : goal.returns-in-Ok-Refused-clause-texts
returns-in-Ok-Refused-clause-texts c = tells_text c.args.source.now

pub returns-in-Ok-Many-clause-texts : goal.returns-in-Ok-Many-clause-texts
returns-in-Ok-Many-clause-texts c = tells_text c.args.source.now

pub returns-in-Err-clause-texts : goal.returns-in-Err-clause-texts
returns-in-Err-clause-texts c = tells_text c.args.source.now
