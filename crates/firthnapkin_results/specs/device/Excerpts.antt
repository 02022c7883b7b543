-- The parts of a text around a position, as the code has them.
use Rattle.std.specs.Prelude.{◌≡◌, false, ℕ, List, ◌∷◌, ◌++◌, chars, Option, Some, None, option_map}
use Rattle.std.specs.List.{AllByRecursion}
use Rattle.std.specs.Borrow.{Bor}
use Rattle.graphql_lexical.specs.Characters.{Text, is_line_feed}
use Rattle.firthnapkin_results.specs.Excerpts.{Around, without_return}
use Rattle.firthnapkin_results.specs.declared.excerpt.Excerpt.{Excerpt}
use Rattle.firthnapkin_results.specs.declared.excerpt.Line.{Line}

abbrev pub line_of : Line → Text
line_of line = chars line.front.now ++ chars line.back.now

abbrev pub text_in : Option (Bor (List ℕ)) → Option Text
text_in o = option_map (λ t. chars t.now) o

abbrev pub view_excerpt : Excerpt → Around
view_excerpt e = record {
  number = e.number;
  column = e.column;
  above = text_in e.above;
  line = line_of e.line;
  below = text_in e.below;
}

-- without a line feed
abbrev pub OnLine : Text → Type 0
OnLine = AllByRecursion (λ c. (is_line_feed c) ≡ false)

-- The text ends with the line. A line feed is before that, and the other text before the line feed, if there is one.
abbrev pub EndsWithLine : Text → Option Text → Text → Type 0
EndsWithLine text None line = (text ≡ line) × OnLine line
EndsWithLine text (Some earlier) line = (text ≡ earlier ++ 10 ∷ line) × OnLine line

-- The text begins with the line. A line feed is after that, and the other text after the line feed, if there is one.
abbrev pub BeginsWithLine : Text → Text → Option Text → Type 0
BeginsWithLine text line None = (text ≡ line) × OnLine line
BeginsWithLine text line (Some later) = (text ≡ line ++ 10 ∷ later) × OnLine line

-- the last line of a text that a line feed follows
abbrev pub IsLineAbove : Option Text → Option Text → Type 0
IsLineAbove None above = above ≡ None
IsLineAbove (Some earlier) above =
    (front : Option Text) × (line : Text) × EndsWithLine earlier front line × (above ≡ Some (without_return line))

-- a line, if a line feed follows it, or at the end of a text
abbrev pub line_before : Text → Option Text → Text
line_before line None = line
line_before line (Some later) = without_return line

-- the first line of a text after a line feed
abbrev pub IsLineBelow : Option Text → Option Text → Type 0
IsLineBelow None below = below ≡ None
IsLineBelow (Some later) below =
    (line : Text) × (rest : Option Text) × BeginsWithLine later line rest × (below ≡ Some (line_before line rest))
