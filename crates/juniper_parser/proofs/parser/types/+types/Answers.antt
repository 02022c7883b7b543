use Rattle.std.proofs.Common.{rules}
use Rattle.graphql_grammar.specs.device.Productions.{type}
use Rattle.juniper_tokens.specs.Taking.{left}
use Rattle.juniper_parser.proofs.Readings.{type_is}
use Rattle.juniper_parser.proofs.parser.types.+types.Goals as goal

pub parse_any_type-returns-clause-gives : goal.parse_any_type-returns-clause-gives
unfolding type
parse_any_type-returns-clause-gives g t c = rw (type_is (left c.args.tokens.now)) (search rules)

pub parse_any_type-returns-in_err-inner-clause-gives :
    goal.parse_any_type-returns-in_err-inner-clause-gives
unfolding type
parse_any_type-returns-in_err-inner-clause-gives g t c = rw (type_is (left c.args.tokens.now)) (search rules)
