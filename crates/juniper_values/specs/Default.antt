-- What the default scalar states of itself.
use Rattle.std.specs.Prelude.{◌&&◌, ℤ, Bool, [], Option, Some, None, Ok, Err, string_bytes, codes, if◌then◌else◌}
use Rattle.std.specs.Fmt.{signed_decimal}
use Rattle.std.specs.Str.{chars}
use Rattle.graphql_lexical.specs.declared.kind.Kind.{Kind}
use Rattle.graphql_lexical.specs.declared.kind.Kind.TheVariants.{String, Int}
use Rattle.graphql_lexical.specs.Kinds.{Spelling, Names, Strings, BlockStrings, Floats, Ints, Fixed, NoText, spelling}
use Rattle.juniper_tokens.specs.Errors.{ExpectedScalar, unexpected}
use Rattle.juniper_values.specs.Text.{Text}
use Rattle.juniper_values.specs.Scalar.{Content, integer, text, boolean, custom, Reading}
use Rattle.juniper_values.specs.ScalarDisplay.{scalar_text}
use Rattle.juniper_values.specs.Escapes.{unescape}
use Rattle.juniper_values.specs.BlockStrings.{block_value}
use Rattle.juniper_values.specs.Integers.{is_integer, integer_of, is_i32}
use Rattle.juniper_values.specs.declared.default_scalar.DefaultScalarValue.{DefaultScalarValue}
use Rattle.juniper_values.specs.declared.default_scalar.DefaultScalarValue.TheVariants as scalar

abbrev pub default_content : DefaultScalarValue → Content
default_content (scalar.Int n) = integer n
default_content (scalar.String s) = text (chars (string_bytes s))
default_content (scalar.Boolean b) = boolean b

abbrev pub int_in : Content → Option ℤ
int_in (integer n) = Some n
int_in (text t) = None
int_in (boolean b) = None
int_in (custom ns) = None

abbrev pub bool_in : Content → Option Bool
bool_in (integer n) = None
bool_in (text t) = None
bool_in (boolean b) = Some b
bool_in (custom ns) = None

abbrev pub text_in : Content → Option Text
text_in (integer n) = None
text_in (text t) = Some t
text_in (boolean b) = None
text_in (custom ns) = None

-- a String: its text with each escape replaced, where each backslash begins one
abbrev pub string_reading : Text → Option Text → Reading
string_reading t None = unexpected String t
string_reading t (Some u) = Ok (text u)

-- an Int: an optional sign and digits, whose number is one of 32 bits
abbrev pub int_reading : Text → Reading
int_reading t = if is_integer t && is_i32 (integer_of t) then Ok (integer (integer_of t)) else unexpected Int t

-- The reading of a token of this kind and text, which is spelled so.
abbrev pub reading_by : Spelling → Kind → Text → Reading
reading_by Names kind t = unexpected kind t
reading_by Strings kind t = string_reading t (unescape t)
reading_by BlockStrings kind t = Ok (text (block_value t))
reading_by Floats kind t = Err (ExpectedScalar (codes "There needs to be a Float type"))
reading_by Ints kind t = int_reading t
reading_by (Fixed fixed) kind t = unexpected kind t
reading_by NoText kind t = unexpected kind t

-- The reading of a token by its kind and its text.
abbrev pub default_reading : Kind → Text → Reading
default_reading kind t = reading_by (spelling kind) kind t

-- the decimal number; the text; `true` or `false`
abbrev pub default_shown : Content → Text
default_shown (integer n) = signed_decimal n
default_shown (text t) = t
default_shown (boolean b) = if b then codes "true" else codes "false"
default_shown (custom ns) = []

-- the same within a value: a text between quotes
abbrev pub plain_shown : Content → Text
plain_shown c = scalar_text (text_in c) (default_shown c)
