-- A device: what a cursor returns where a reader of the grammar gives r.
use Rattle.std.specs.Prelude.{[], ◌∷◌, Ok, Err}
use Rattle.graphql_grammar.specs.device.Reading.{Took, Refused, Out}
use Rattle.graphql_grammar.specs.device.Reading as reading
use Rattle.graphql_grammar.specs.device.Faults.{Fault, as_error}
use Rattle.juniper_tokens.specs.Errors.{Error, UnexpectedEndOfFile}
use Rattle.juniper_tokens.specs.Cursor.{Read, nowhere}
use Rattle.juniper_parser.specs.Promise.{unexpected, past}

-- the error of a reader's fault
abbrev pub error_of : Fault Error → Error
error_of = as_error UnexpectedEndOfFile unexpected

abbrev pub seen : {A : Type 0} → reading.Read Error A → Read A
seen (Took a rest) = Ok (a, rest)
seen (Refused [] e) = Err (record { error = error_of e; span = nowhere }, [])
seen (Refused (t ∷ ts) e) = Err (record { error = error_of e; span = t.span }, past (t ∷ ts))
seen Out = Err (record { error = UnexpectedEndOfFile; span = nowhere }, [])
