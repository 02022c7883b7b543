use Rattle.std.proofs.Common.{length, ◌+◌, ◌*◌}
use Rattle.juniper_tokens.specs.Taking.{left}
use Rattle.juniper_parser.proofs.parser.types.+types.Given as goal

abbrev pub decreases-parse_any_type : goal.decreases-parse_any_type
decreases-parse_any_type g l = 3 * length (left l.tokens.now) + 2

abbrev pub decreases-parse_nullable_type : goal.decreases-parse_nullable_type
decreases-parse_nullable_type g l = 3 * length (left l.tokens.now) + 1

abbrev pub decreases-parse_list_type : goal.decreases-parse_list_type
decreases-parse_list_type g l = 3 * length (left l.tokens.now)
