use Rattle.std.proofs.Common.{ap}
use Rattle.juniper_tokens.proofs.Texts.{chars-from_bytes}
use Rattle.juniper_tokens.specs.Errors.{UnexpectedToken}
use Rattle.juniper_tokens.proofs.error.ParseError.unexpected_token.Goals as goal

pub returns : goal.returns
returns c = ap UnexpectedToken (chars-from_bytes c.in_ok-to_string.field-0 _ c.in_ok-to_string.ensures.ok)
