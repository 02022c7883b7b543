-- What `OddError` states of a token.
use Rattle.std.specs.Prelude.{Err}
use Rattle.graphql_lexical.specs.Kinds.{Spelling, Names, Strings, BlockStrings, Floats, Ints, Fixed, NoText, spelling, InvalidNumber}
use Rattle.graphql_lexical.specs.declared.kind.Kind.{Kind}
use Rattle.juniper_tokens.specs.Errors.{Lexical}
use Rattle.juniper_values.specs.Text.{Text}
use Rattle.juniper_values.specs.Scalar.{Reading}
use Rattle.juniper_values.specs.Default.{default_reading}

-- The reading of a token of this kind and text, which is spelled so: no String and no block string, and any other as the
-- default type reads it.
abbrev pub odd_error_by : Spelling → Kind → Text → Reading
odd_error_by Names kind t = default_reading kind t
odd_error_by Strings kind t = Err (Lexical InvalidNumber)
odd_error_by BlockStrings kind t = Err (Lexical InvalidNumber)
odd_error_by Floats kind t = default_reading kind t
odd_error_by Ints kind t = default_reading kind t
odd_error_by (Fixed fixed) kind t = default_reading kind t
odd_error_by NoText kind t = default_reading kind t

-- The reading of a token by its kind and its text.
abbrev pub odd_error_reading : Kind → Text → Reading
odd_error_reading kind t = odd_error_by (spelling kind) kind t
