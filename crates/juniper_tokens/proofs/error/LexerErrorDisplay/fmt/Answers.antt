use Rattle.std.proofs.Common.{rules}
use Rattle.std.proofs.Output.{has_written_of_eq}
use Rattle.std.proofs.lemmas.Str.{IsUtf8-string_bytes}
use Rattle.juniper_tokens.proofs.Texts.{unknown_escape-text}
use Rattle.juniper_tokens.proofs.error.LexerErrorDisplay.fmt.Goals as goal

pub returns-in-UnknownEscapeSequence-clause-writes :
    goal.returns-in-UnknownEscapeSequence-clause-writes
returns-in-UnknownEscapeSequence-clause-writes g c p ok =
    rw c.in-UnknownEscapeSequence.is (has_written_of_eq _ _ _ _ _
    (unknown_escape-text _ (IsUtf8-string_bytes c.in-UnknownEscapeSequence.s)) (search rules))
