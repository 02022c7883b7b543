-- The text of a name.
use Rattle.std.specs.Prelude.{ℕ, List, string_bytes}
use Rattle.juniper_answers.specs.declared.name.Name.{Name}

-- its bytes
abbrev pub text_of_name : Name → List ℕ
text_of_name name = string_bytes name.text
