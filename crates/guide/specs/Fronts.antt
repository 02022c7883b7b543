-- What stands before a text's fault.
use Rattle.std.specs.Prelude.{◌≡◌, ℕ, List, Option, Some, None}
use Rattle.juniper_tokens.specs.declared.span.Span.{Span}
use Rattle.juniper_tokens.specs.Spans.{view_span}
use Rattle.juniper_tokens.specs.Errors.{Fault}
use Rattle.juniper_tree.specs.Scalars.{default_scalars}
use Rattle.guide.specs.Documents.{IsDocumentText}
use Rattle.juniper_parser.specs.Promise.{IsRefusal}

-- Nothing of a document, and of any other text the span of its fault. If the text can be tokenized, what stands before
-- the fault, and a space, can be completed to a document's text.
abbrev pub IsKept : List ℕ → Option Span → Type 0
IsKept source None = IsDocumentText source
IsKept source (Some span) = (fault : Fault) × (fault.span ≡ view_span span) × IsRefusal default_scalars source fault
