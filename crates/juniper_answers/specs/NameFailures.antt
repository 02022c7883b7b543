-- How a refused name is reported.
use Rattle.std.specs.Prelude.{◌≡◌, ℕ, false, List, ◌++◌, codes, string_bytes}
use Rattle.std.specs.Str.{chars}
use Rattle.juniper_answers.specs.Names.{is_name}
use Rattle.juniper_answers.specs.declared.name.NameFailure.{NameFailure}
use Rattle.juniper_answers.specs.declared.name.NameFailure.TheVariants.{Invalid, Memory}

abbrev pub refusal_text : List ℕ → List ℕ
refusal_text input = codes "`Name` must match /^[_a-zA-Z][_a-zA-Z0-9]*$/ but \"" ++ input ++ codes "\" does not"

-- The text of these bytes is no name, and the error says so. Where memory ran out, nothing is said.
abbrev pub IsRefusalOf : List ℕ → NameFailure → Type 0
IsRefusalOf input (Invalid e) = (is_name (chars input) ≡ false) × (string_bytes e.0 ≡ refusal_text input)
IsRefusalOf input Memory = Unit {0}
