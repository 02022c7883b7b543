-- How a scalar is shown.
use Rattle.std.specs.Prelude.{◌++◌, codes, Option, Some, None}
use Rattle.graphql_lexical.specs.Display.{quoted}
use Rattle.juniper_values.specs.Text.{Text}
use Rattle.juniper_values.specs.Scalar.{Content}

-- a text between quotes, without escaping, and anything else as it shows itself
abbrev pub scalar_text : Option Text → Text → Text
scalar_text None own = own
scalar_text (Some t) own = quoted t

-- the same of a scalar, by what its type states: the content, a content's text, and how a content shows itself
abbrev pub scalar_display : {S : Type 0} → (S → Content) → (Content → Option Text) → (Content → Text) → S → Text
scalar_display content text_in shown s = scalar_text (text_in (content s)) (shown (content s))

unfoldable pub wanted_text : Text → Text
wanted_text name = codes "Expected `" ++ (name ++ codes "`, found: ")

-- a scalar that is not of the type of this name
abbrev pub wrong_type_text : Text → Text → Text
wrong_type_text name found = wanted_text name ++ found
