-- A device: what one character changes while a block string is measured and its value is written.
use Rattle.std.specs.Prelude.{◌≡◌, ℕ, suc, ◌+◌, ◌==◌, ◌≤◌, ◌<◌, ◌&&◌, ◌||◌, Bool, true, false, List, [], ◌∷◌, map}
use Rattle.std.specs.Prelude.{take, drop, get_or, Option, Some, None, min, nat_eq, if◌then◌else◌}
use Rattle.std.specs.List.{starts_with, position_or_len}
use Rattle.juniper_values.specs.Text.{Text}
use Rattle.graphql_lexical.specs.Characters.{is_line_end}
use Rattle.graphql_lexical.specs.Tokens.{mark}
use Rattle.juniper_values.specs.BlockStrings.{line_feed, with_quotes, lines, is_indent, is_blank, joined}
use Rattle.juniper_values.specs.declared.block_string.Place.{Place}
use Rattle.juniper_values.specs.declared.block_string.Place.TheVariants.{First, Indent, AfterIndent}

-- the lines of the text between the quotes
abbrev pub lines_of : Text → List Text
lines_of t = lines (with_quotes t)

-- the first line is blank
abbrev pub begins_blank : List Text → Bool
begins_blank [] = true
begins_blank (line ∷ ls) = is_blank line

-- a backslash before a triple quote, and a CR before LF
abbrev pub is_left_out : ℕ → Text → Bool
is_left_out c t = (c == 92 && starts_with nat_eq t mark) || (c == 13 && starts_with nat_eq t line_feed)

-- how many tabs and spaces were counted
abbrev pub white_before : Place → ℕ
white_before First = 0
white_before (Indent n) = n
white_before AfterIndent = 0

-- the place after a character
abbrev pub place_after : Place → ℕ → Place
place_after First c = if is_line_end c then Indent 0 else First
place_after (Indent n) c = if is_line_end c then Indent 0 else if is_indent c then Indent (n + 1) else AfterIndent
place_after AfterIndent c = if is_line_end c then Indent 0 else AfterIndent

abbrev pub lesser : Option ℕ → ℕ → ℕ
lesser None n = n
lesser (Some m) n = min m n

-- the least indent after a character
abbrev pub least_after : Option ℕ → Place → ℕ → Option ℕ
least_after o First c = o
least_after o (Indent n) c = if is_line_end c || is_indent c then o else Some (lesser o n)
least_after o AfterIndent c = o

-- the lines that are left, without n characters of the first and k of each other
abbrev pub left : ℕ → ℕ → List Text → List Text
left n k [] = []
left n k (line ∷ ls) = drop n line ∷ map (drop k) ls

-- what is written of them, up to so many line feeds
abbrev pub left_text : ℕ → ℕ → ℕ → List Text → Text
left_text k n feeds ls = joined (take (suc feeds) (left n k ls))

-- the place is within the tabs and spaces at the beginning of a line but the first
abbrev pub is_in_indent : Place → Bool
is_in_indent First = false
is_in_indent (Indent n) = true
is_in_indent AfterIndent = false

-- ---- runs

-- What ends a line, or may be left out, ends a run of characters that stand for themselves.
abbrev pub ends_run : ℕ → Bool
ends_run c = c == 92 || is_line_end c

-- how many characters, or bytes, come before the first that ends a run
abbrev pub run_length : List ℕ → ℕ
run_length = position_or_len ends_run

-- this many bytes from a place on, of no more than sixteen, come before the first that ends a run
abbrev pub RunsOver : List ℕ → ℕ → ℕ → Type 0
RunsOver bytes at n =
    (n ≤ 16) × ((k : ℕ) → at ≤ k → k < at + n → ends_run (get_or bytes k 0) ≡ false)
    × (n < 16 → ends_run (get_or bytes (at + n) 0) ≡ true)
