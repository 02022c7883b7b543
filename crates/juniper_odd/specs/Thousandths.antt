-- What `Thousandths` states of itself.
use Rattle.std.specs.Prelude.{ℤ, List, [], ◌∷◌, Option, Some, None, Ok, Err, codes}
use Rattle.graphql_lexical.specs.declared.kind.Kind.{Kind}
use Rattle.graphql_lexical.specs.Kinds.{Spelling, Names, Strings, BlockStrings, Floats, Ints, Fixed, NoText, spelling}
use Rattle.juniper_tokens.specs.Errors.{ExpectedScalar}
use Rattle.juniper_values.specs.Text.{Text}
use Rattle.juniper_values.specs.Scalar.{Content, custom, Reading}
use Rattle.juniper_values.specs.Default.{default_content, default_reading}
use Rattle.juniper_values.specs.BesideDefault.{shown_beside}
use Rattle.juniper_odd.specs.Decimals.{thousandths_in, milli_text}
use Rattle.juniper_odd.specs.declared.thousandths.Thousandths.{Thousandths}
use Rattle.juniper_odd.specs.declared.thousandths.Thousandths.TheVariants as scalar

-- the content of this many thousandths
abbrev pub milli : ℤ → Content
milli n = custom (n ∷ [])

abbrev pub thousandths_content : Thousandths → Content
thousandths_content (scalar.Default s) = default_content s
thousandths_content (scalar.Milli n) = milli n

-- a Float: a number of thousandths, or none
abbrev pub milli_reading : Option ℤ → Reading
milli_reading (Some n) = Ok (milli n)
milli_reading None = Err (ExpectedScalar (codes "Not thousandths"))

abbrev pub float_reading : Text → Reading
float_reading t = milli_reading (thousandths_in t)

-- The reading of a token of this kind and text, which is spelled so: a Float as a number of thousandths, and any other
-- as the default type reads it.
abbrev pub thousandths_by : Spelling → Kind → Text → Reading
thousandths_by Names kind t = default_reading kind t
thousandths_by Strings kind t = default_reading kind t
thousandths_by BlockStrings kind t = default_reading kind t
thousandths_by Floats kind t = float_reading t
thousandths_by Ints kind t = default_reading kind t
thousandths_by (Fixed fixed) kind t = default_reading kind t
thousandths_by NoText kind t = default_reading kind t

-- The reading of a token by its kind and its text.
abbrev pub thousandths_reading : Kind → Text → Reading
thousandths_reading kind t = thousandths_by (spelling kind) kind t

-- A number of thousandths, with its places. No other list of integers is the content of a scalar.
abbrev pub custom_text : List ℤ → Text
custom_text [] = []
custom_text (n ∷ ns) = milli_text n

-- as the default type shows itself, and a number with its places
abbrev pub thousandths_shown : Content → Text
thousandths_shown = shown_beside custom_text
