-- Spans of items.
use Rattle.std.specs.Prelude.{◌-◌, List, length, slice_get, Option, Some, None}
use Rattle.graphql_lexical.specs.Place as places
use Rattle.graphql_lexical.specs.Place.{origin}
use Rattle.juniper_tokens.specs.declared.span.Span.{Span}
use Rattle.juniper_tokens.specs.declared.span.Spanning.{Spanning}

-- a span of the code, as the definitions see it
abbrev pub view_span : Span → places.Span
view_span s = record { start = s.start; end = s.end }

-- zero width at the beginning
abbrev pub origin_span : Span
origin_span = record { start = origin; end = origin }

-- from the first one's start to the second one's end
abbrev pub span_between : {T : Type 0} → Option (Spanning T) → Option (Spanning T) → Option Span
span_between (Some x) (Some y) = Some (record { start = x.span.start; end = y.span.end })
span_between _ _ = None

-- from the first item's start to the last one's end; None of no items
abbrev pub covering_span : {T : Type 0} → List (Spanning T) → Option Span
covering_span xs = span_between (slice_get xs 0) (slice_get xs (length xs - 1))
