use Rattle.std.proofs.Common.{ap, sym, ◌∙◌}
use Rattle.graphql_lexical.specs.device.Scan.{after_dots}
use Rattle.juniper_tokens.proofs.Stops.{nothing_stands, something_stands}
use Rattle.juniper_tokens.proofs.lexer.scan.dots_fault.Goals as goal

pub returns-then-is_empty : goal.returns-then-is_empty
returns-then-is_empty c = ap (after_dots c.args.at)
    (nothing_stands c.args.rest.now c.utf8.rest (sym c.is_empty.ensures ∙ c.if-is_empty.true))

pub returns-else-is_empty : goal.returns-else-is_empty
returns-else-is_empty c = ap (after_dots c.args.at)
    (something_stands c.args.rest.now c.utf8.rest (sym c.is_empty.ensures ∙ c.if-is_empty.false))
