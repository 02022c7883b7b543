-- What is reported of a text.
use Rattle.std.specs.Prelude.{◌≡◌, ℕ, List, ◌++◌, codes, Option, Some, None, String, string_bytes, encode_utf8_all}
use Rattle.std.specs.declared.alloc.Global.{Global}
use Rattle.juniper_tokens.specs.Errors.{Fault, error_text}
use Rattle.juniper_tokens.specs.Positions.{position_text}
use Rattle.juniper_tree.specs.Scalars.{default_scalars}
use Rattle.guide.specs.Documents.{IsDocumentText}
use Rattle.juniper_parser.specs.Promise.{IsRefusal}

-- where a fault stands, by line and column, and its error
abbrev pub fault_text : Fault → List ℕ
fault_text fault = position_text fault.span.start ++ (codes ": " ++ encode_utf8_all (error_text fault.error))

-- nothing of a document, and of any other text its fault
abbrev pub IsTold : List ℕ → Option (String Global) → Type 0
IsTold source None = IsDocumentText source
IsTold source (Some text) = (fault : Fault) × IsRefusal default_scalars source fault
    × (string_bytes text ≡ fault_text fault)
