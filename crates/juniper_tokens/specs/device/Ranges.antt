-- A device: tokens as ranges of their source.
use Rattle.std.specs.Prelude.{◌≡◌, ◌↔◌, ℕ, ◌+◌, ◌-◌, ◌≤◌, true, false, List, [], ◌∷◌, take, drop, get_or, length, map, Option, Some, None, Result, Ok, Err}
use Rattle.std.specs.List.{All}
use Rattle.graphql_lexical.specs.Place.{Place, place}
use Rattle.graphql_lexical.specs.declared.kind.Kind.TheVariants as kinds
use Rattle.graphql_lexical.specs.Kinds.{same_kind}
use Rattle.graphql_lexical.specs.device.Scan as scans
use Rattle.graphql_lexical.specs.device.Whole.{text_of}
use Rattle.graphql_lexical.specs.Cutting.{Lexeme}
use Rattle.juniper_tokens.specs.declared.span.Spanning.{Spanning}
use Rattle.juniper_tokens.specs.declared.token.Token.{Token}
use Rattle.juniper_tokens.specs.declared.token_range.TokenRange.{TokenRange}
use Rattle.juniper_tokens.specs.declared.lexer.scan.Found.{Found}
use Rattle.juniper_tokens.specs.declared.lexer.text.Offset.{Offset}
use Rattle.juniper_tokens.specs.declared.error.LexerError.{LexerError}
use Rattle.juniper_tokens.specs.declared.error.LexFailure.{LexFailure}
use Rattle.juniper_tokens.specs.declared.error.LexFailure.TheVariants as failure
use Rattle.juniper_tokens.specs.Tokens.{kind_text, view_token}
use Rattle.juniper_tokens.specs.Errors.{view_lexer_error}
use Rattle.juniper_tokens.specs.device.Offsets.{IsOffset, EndsQuoted}
use Rattle.juniper_tokens.specs.Positions.{columns_on}
use Rattle.juniper_tokens.specs.device.Scans.{MissesEscape}
use Rattle.juniper_tokens.specs.LineTables.{lines_of, IsOnLine}
use Rattle.juniper_tokens.specs.declared.line.NearLines.{NearLines}
use Rattle.juniper_tokens.specs.device.LineSteps.{IsLine}
use Rattle.juniper_tokens.specs.Lexing.{LexerState, PassesToken, GivesFault, WantsMemory}
use Rattle.juniper_tokens.specs.device.LexingByScan.{past_ignored}
use Rattle.juniper_tokens.specs.Cursor.{EndsOnce, first_of}

-- the characters of a range
abbrev pub range_slice : List ℕ → TokenRange → List ℕ
range_slice source r = take (r.end.characters - r.start.characters) (drop r.start.characters source)

-- the token that a range of a source is
abbrev pub range_lexeme : List ℕ → TokenRange → Lexeme
range_lexeme source r = record {
  kind = r.kind;
  text = kind_text r.kind (text_of r.kind (range_slice source r));
  span = record { start = place source r.start.characters; end = place source r.end.characters };
}

abbrev pub range_lexemes : List ℕ → List TokenRange → List Lexeme
range_lexemes source = map (range_lexeme source)

-- Both ends are offsets within the source, the start not after the end; a String has its quotes, and a block string its
-- triple quotes; any other token than a block string ends on its line.
pub record IsRange (source : List ℕ) (r : TokenRange) : Type 0 where
  pub start : IsOffset r.start source
  pub end : IsOffset r.end source
  pub forward : r.start.characters ≤ r.end.characters
  pub within : r.end.characters ≤ length source
  pub quoted : r.kind ≡ kinds.String → EndsQuoted 1 (drop r.start.characters source) (r.end.bytes - r.start.bytes) (r.end.characters - r.start.characters)
  pub marked : r.kind ≡ kinds.BlockString → EndsQuoted 3 (drop r.start.characters source) (r.end.bytes - r.start.bytes) (r.end.characters - r.start.characters)
  pub lined : (r.kind ≡ kinds.BlockString → ⊥) → columns_on (r.end.characters - r.start.characters) (place source r.start.characters) ≡ place source r.end.characters

-- A token of this range stands where the lexer did, which is then after it, and has ended where the token is the end.
pub record GivesRange (s : LexerState) (r : TokenRange) (t : LexerState) : Type 0 where
  pub stands : PassesToken s (range_lexeme s.source r) t.index
  pub from : s.index ≤ r.start.characters
  pub to : t.index ≡ r.end.characters
  pub is_range : IsRange s.source r
  pub ends : (t.ended ≡ true) ↔ (r.kind ≡ kinds.EndOfFile)

abbrev pub GivesRangeItem : LexerState → Result TokenRange LexFailure → LexerState → Type 0
GivesRangeItem s (Ok range) t = GivesRange s range t
GivesRangeItem s (Err (failure.Fault fault)) t = GivesFault s fault t
GivesRangeItem s (Err failure.Memory) t = WantsMemory s t

-- From state s a step gives this item and leaves state t. Only a lexer that has ended gives None, and it stays as it is.
abbrev pub range_steps : LexerState → Option (Result TokenRange LexFailure) → LexerState → Type 0
range_steps s None t = (s.ended ≡ true) × (t ≡ s)
range_steps s (Some item) t = (s.ended ≡ false) × (t.source ≡ s.source) × GivesRangeItem s item t

-- From state s a step gives this range, or none at a lexical error, and leaves state t.
abbrev pub range_or_none : LexerState → Option TokenRange → LexerState → Type 0
range_or_none s (Some range) t = range_steps s (Some (Ok range)) t
range_or_none s None t = (failure : LexFailure) × range_steps s (Some (Err failure)) t

-- ---- by the computed scan

-- the range of a token that was found after this many bytes of a source, at this place
abbrev pub range_of : Found → ℕ → Place → TokenRange
range_of found at start = record {
  kind = found.kind;
  start = record { bytes = at; characters = start.index };
  end = record { bytes = at + found.end.bytes; characters = start.index + found.end.characters };
}

-- The lexer, which stood where a token begins, went over this range, and a token of its kind stands there. It has
-- ended where the token is the end.
pub record TakesRange (s : LexerState) (r : TokenRange) (t : LexerState) : Type 0 where
  pub scanned : scans.scan (drop s.index s.source) ≡ scans.found (r.end.characters - s.index) r.kind (drop s.index s.source)
  pub from : r.start.characters ≡ s.index
  pub to : t.index ≡ r.end.characters
  pub is_range : IsRange s.source r
  pub ends : t.ended ≡ same_kind r.kind kinds.EndOfFile

-- A lexical error of zero width stands where the lexer does, which has then ended.
pub record FailsThere (s : LexerState) (fault : Spanning LexerError) (t : LexerState) : Type 0 where
  pub size : ℕ
  pub scanned : scans.scan (drop s.index s.source) ≡ scans.missed size (view_lexer_error fault.item)
  pub start : fault.span.start ≡ place s.source (s.index + size)
  pub end : fault.span.end ≡ fault.span.start
  pub ends : t.ended ≡ true

-- what a lexer gives that stands where a token begins
abbrev pub TakesItem : LexerState → Result TokenRange LexFailure → LexerState → Type 0
TakesItem s (Ok range) t = TakesRange s range t
TakesItem s (Err (failure.Fault fault)) t = FailsThere s fault t
TakesItem s (Err failure.Memory) t = MissesEscape (scans.scan (drop s.index s.source)) × (t.ended ≡ true)

-- The lexer, which stood where a token may begin, went over this one or no further.
abbrev pub TakesPlain : LexerState → Option TokenRange → LexerState → Type 0
TakesPlain s None t = t ≡ s
TakesPlain s (Some range) t = TakesRange s range t

-- The lexer went over some ignored tokens, or over all of them and the token after them.
abbrev pub TakesFrequent : LexerState → Option TokenRange → LexerState → Type 0
TakesFrequent s None t = past_ignored t ≡ past_ignored s
TakesFrequent s (Some range) t = TakesRange (past_ignored s) range t

-- ---- cursors

-- each range begins at this character or after it, and the next one where it ends or after that
abbrev pub InOrder : ℕ → List TokenRange → Type 0
InOrder k [] = Unit {0}
InOrder k (r ∷ rs) = (k ≤ r.start.characters) × InOrder r.end.characters rs

-- the end of a source as a range, at this offset
abbrev pub end_at : Offset → TokenRange
end_at offset = record { kind = kinds.EndOfFile; start = offset; end = offset }

-- This many of these ranges of a source have been taken. Of those that are left the last one, and no other, is the end.
-- The source's lines begin at these characters.
pub record AreLeft (source : List ℕ) (ranges : List TokenRange) (starts : List ℕ) (taken : ℕ) : Type 0 where
  pub are_ranges : All (IsRange source) ranges
  pub in_order : InOrder 0 ranges
  pub ended : EndsOnce (range_lexemes source (drop taken ranges))
  pub lines_are : starts ≡ (lines_of source).starts

-- So many are left. The next one begins on the first of these two lines, and the other begins before the end of the one that
-- was taken last.
pub record StandsOn (source : List ℕ) (ranges : List TokenRange) (starts : List ℕ) (taken : ℕ) (lines : NearLines) : Type 0 where
  pub left : AreLeft source ranges starts taken
  pub line_is : IsLine starts lines.line
  pub on_line : (r : TokenRange) → IsOnLine starts (get_or ranges taken r).start.characters lines.line.number lines.line.start
  pub earlier_is : IsLine starts lines.earlier
  pub reaches : (r : TokenRange) → lines.earlier.start ≤ (get_or ranges (taken - 1) r).end.characters

-- So many are left, of which the next one is held as a token.
pub record IsCursor (source : List ℕ) (ranges : List TokenRange) (starts : List ℕ) (taken : ℕ) (current : Spanning Token) : Type 0 where
  pub left : AreLeft source ranges starts taken
  pub first : view_token current ≡ first_of (range_lexemes source (drop taken ranges))
