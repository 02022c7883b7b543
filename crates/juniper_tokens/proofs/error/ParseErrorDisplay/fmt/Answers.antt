use Rattle.std.proofs.Common.{rules}
use Rattle.std.proofs.Output.{has_written_of_eq}
use Rattle.std.proofs.lemmas.Str.{IsUtf8-string_bytes}
use Rattle.juniper_tokens.proofs.Texts.{unexpected_token-text}
use Rattle.juniper_tokens.proofs.error.ParseErrorDisplay.fmt.Goals as goal

pub returns-in-UnexpectedToken-clause-writes : goal.returns-in-UnexpectedToken-clause-writes
returns-in-UnexpectedToken-clause-writes g c p ok =
    rw c.in-UnexpectedToken.is (has_written_of_eq _ _ _ _ _ (unexpected_token-text _
    (IsUtf8-string_bytes c.in-UnexpectedToken.text)) (search rules))
