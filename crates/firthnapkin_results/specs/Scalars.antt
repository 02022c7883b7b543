-- What C's scalar type states of itself: each token's kind and what it means, without its text.
use Rattle.std.specs.Prelude.{[], Ok, Err}
use Rattle.graphql_lexical.specs.declared.kind.Kind.{Kind}
use Rattle.graphql_lexical.specs.Kinds.{Spelling, Names, Strings, BlockStrings, Floats, Ints, Fixed, NoText, spelling}
use Rattle.juniper_values.specs.Text.{Text}
use Rattle.juniper_values.specs.Scalar.{Content, integer, text, boolean, Reading}
use Rattle.juniper_values.specs.Default.{default_content, default_reading}
use Rattle.juniper_values.specs.View.{text_of}
use Rattle.juniper_nodes.specs.Literal.{string_reading, of_large_int, of_float, of_block}
use Rattle.firthnapkin_results.specs.declared.form.ScalarForm.{ScalarForm}
use Rattle.firthnapkin_results.specs.declared.form.ScalarForm.TheVariants as form
use Rattle.firthnapkin_results.specs.declared.scalar.SourceScalar.{SourceScalar}
use Rattle.firthnapkin_results.specs.declared.scalar.SourceScalar.TheVariants as scalar

-- the default type's contents, and otherwise those of literals, with no text written
abbrev pub scalar_content : SourceScalar → Content
scalar_content (scalar.Default s) = default_content s
scalar_content scalar.LargeInt = of_large_int []
scalar_content scalar.Float = of_float []
scalar_content (scalar.BlockString t) = of_block [] (text_of t)

-- that of a scalar of this form, which means this text if it is a String or a block string
abbrev pub content_of : Text → ScalarForm → Content
content_of t (form.Int n) = integer n
content_of t form.LargeInt = of_large_int []
content_of t form.Float = of_float []
content_of t form.String = text t
content_of t form.BlockString = of_block [] t
content_of t (form.Boolean b) = boolean b

-- an Int, by the default type's reading
abbrev pub int_reading : Reading → Reading
int_reading (Ok content) = Ok content
int_reading (Err e) = Ok (of_large_int [])

-- Of a Float its kind is kept. Of an Int, a String and a block string the default type reads what it means; an Int
-- that it refuses is one beyond 32 bits, a String that it refuses is refused. No other token is read.
abbrev pub scalar_by : Spelling → Kind → Text → Reading
scalar_by Names k t = default_reading k t
scalar_by Strings k t = default_reading k t
scalar_by BlockStrings k t = string_reading (of_block []) (default_reading k t)
scalar_by Floats k t = Ok (of_float [])
scalar_by Ints k t = int_reading (default_reading k t)
scalar_by (Fixed fixed) k t = default_reading k t
scalar_by NoText k t = default_reading k t

-- The reading of a token by its kind and its text.
abbrev pub scalar_reading : Kind → Text → Reading
scalar_reading k t = scalar_by (spelling k) k t
