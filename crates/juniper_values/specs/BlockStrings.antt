-- The text that a block string stands for (GraphQL specification, October 2021, section 2.9.4).
use Rattle.std.specs.Prelude.{ℕ, ◌+◌, ◌==◌, ◌&&◌, ◌||◌, Bool, List, [], ◌∷◌, drop, map, min, nat_eq, if◌then◌else◌}
use Rattle.std.specs.List.{list_all, starts_with, onto_first, join_with_byte}
use Rattle.graphql_lexical.specs.Characters.{is_line_end}
use Rattle.graphql_lexical.specs.Tokens.{mark}
use Rattle.juniper_values.specs.Text.{Text}

-- ---- the lines

abbrev pub line_feed : Text
line_feed = 10 ∷ []

-- `\"""` is a triple quote: a backslash before a triple quote is left out
abbrev pub with_quotes : Text → Text
with_quotes [] = []
with_quotes (c ∷ t) = if c == 92 && starts_with nat_eq t mark then with_quotes t else c ∷ with_quotes t

-- A line ends at LF, at CR LF (where the LF ends it), and at a CR that no LF follows.
abbrev pub lines : Text → List Text
lines [] = [] ∷ []
lines (c ∷ t) =
    if c == 13 && starts_with nat_eq t line_feed then lines t
    else if is_line_end c then [] ∷ lines t
    else onto_first c (lines t)

-- ---- the indent

-- a tab or a space
abbrev pub is_indent : ℕ → Bool
is_indent c = c == 9 || c == 32

-- a line of tabs and spaces alone, or empty
abbrev pub is_blank : Text → Bool
is_blank = list_all is_indent

-- how many tabs and spaces a line begins with
abbrev pub indent : Text → ℕ
indent [] = 0
indent (c ∷ line) = if is_indent c then indent line + 1 else 0

-- the indents of the lines that have another character
abbrev pub indents : List Text → List ℕ
indents [] = []
indents (line ∷ ls) = if is_blank line then indents ls else indent line ∷ indents ls

-- the least of the numbers, and 0 where there is none
abbrev pub least : List ℕ → ℕ
least [] = 0
least (n ∷ []) = n
least (n ∷ m ∷ ns) = min n (least (m ∷ ns))

-- what is removed at the beginning of these lines
abbrev pub common_indent : List Text → ℕ
common_indent ls = least (indents ls)

-- every line but the first without the common indent of these
abbrev pub unindented : List Text → List Text
unindented [] = []
unindented (first ∷ others) = first ∷ map (drop (common_indent others)) others

-- ---- blank lines

-- without the blank lines at the beginning
abbrev pub drop_blank_front : List Text → List Text
drop_blank_front [] = []
drop_blank_front (line ∷ ls) = if is_blank line then drop_blank_front ls else line ∷ ls

-- without the blank lines at the end
abbrev pub drop_blank_end : List Text → List Text
drop_blank_end [] = []
drop_blank_end (line ∷ ls) = if list_all is_blank (line ∷ ls) then [] else line ∷ drop_blank_end ls

-- ---- the value

-- joined by LF
abbrev pub joined : List Text → Text
joined = join_with_byte 10

-- the value of the block string that has this text between its triple quotes
abbrev pub block_value : Text → Text
block_value t = joined (drop_blank_end (drop_blank_front (unindented (lines (with_quotes t)))))
