-- What a run reports of the bytes that it read.
use Rattle.std.specs.Prelude.{◌≡◌, ℕ, List, [], ◌∷◌, ◌++◌, codes, IsUtf8, chars, encode_utf8_all}
use Rattle.graphql_lexical.specs.Place.{Span}
use Rattle.juniper_tokens.specs.Positions.{position_text}
use Rattle.graphql_grammar.specs.Tree.{Definition}
use Rattle.juniper_tokens.specs.Errors.{Fault, error_text}
use Rattle.juniper_values.specs.Scalar.{Content}
use Rattle.juniper_tree.specs.Scalars.{default_scalars}
use Rattle.juniper_parser.specs.Promise.{HasTree, IsRefusal}
use Rattle.juniper_documents.specs.Within.{HasTooDeep, IsWithin}
use Rattle.streams.specs.Reports.{HasOneReport}
use Rattle.gqlcheck_report.specs.Lines.{document_lines}
use Rattle.gqlcheck_report.specs.declared.report.RunEnd.{RunEnd}
use Rattle.gqlcheck_report.specs.declared.report.RunEnd.TheVariants.{Tree, Refused, NotUtf8, TooDeep, Device, Memory}

-- a run that ends so has written a whole report
abbrev pub IsReportEnd : RunEnd → Type 0
IsReportEnd Tree = Unit {0}
IsReportEnd Refused = Unit {0}
IsReportEnd NotUtf8 = Unit {0}
IsReportEnd TooDeep = Unit {0}
IsReportEnd Device = ⊥
IsReportEnd Memory = ⊥

-- an error, and the line and column where it stands
abbrev pub fault_line : Fault → List ℕ
fault_line fault = encode_utf8_all (error_text fault.error)
    ++ (codes ". At " ++ (position_text fault.span.start ++ 10 ∷ []))

-- that a token is nested too deep, and the line and column where it stands
abbrev pub deep_line : Span → List ℕ
deep_line span = codes "Too deeply nested. At " ++ (position_text span.start ++ 10 ∷ [])

-- the limit on the nesting of brackets
abbrev pub limit : ℕ
limit = 200

-- a run over these bytes ends so, and writes this text
abbrev pub Report : List ℕ → RunEnd → List ℕ → Type 0
Report bytes Tree text = IsUtf8 bytes
    × ((tree : List (Definition Content)) × HasTree default_scalars (chars bytes) tree
    × (text ≡ encode_utf8_all (document_lines tree))) × IsWithin default_scalars limit (chars bytes)
Report bytes Refused text = IsUtf8 bytes
    × ((fault : Fault) × IsRefusal default_scalars (chars bytes) fault × (text ≡ fault_line fault))
    × IsWithin default_scalars limit (chars bytes)
Report bytes TooDeep text = IsUtf8 bytes
    × ((span : Span) × HasTooDeep default_scalars limit (chars bytes) span × (text ≡ deep_line span))
Report bytes NotUtf8 text = ¬ IsUtf8 bytes × (text ≡ codes "Not UTF-8\n")
Report bytes Device text = ⊥
Report bytes Memory text = ⊥

-- bytes have exactly one report
abbrev pub OneReport : Type 0
OneReport = HasOneReport Report
