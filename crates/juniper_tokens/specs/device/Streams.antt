-- A device: a stream of tokens, which is read one after another.
use Rattle.std.specs.Prelude.{◌≡◌, ℕ, ◌+◌, ◌-◌, ◌<◌, ◌≤◌, ◌^◌, Bool, true, false, not, if◌then◌else◌, List, drop}
use Rattle.graphql_lexical.specs.Place.{Place, place}
use Rattle.graphql_lexical.specs.declared.kind.Kind.{Kind}
use Rattle.graphql_lexical.specs.device.Scan.{scan, is_end}
use Rattle.graphql_lexical.specs.device.Streams.{Tokens, with_first, only, short_at, opened_with, closed_with}
use Rattle.graphql_lexical.specs.device.Streams.{goes_deep, after_token, next_at, stream}
use Rattle.juniper_tokens.specs.declared.stream.Placed.{Placed}
use Rattle.juniper_tokens.specs.declared.token_range.TokenRange.{TokenRange}
use Rattle.juniper_tokens.specs.device.BytePlaces.{offset_at}
use Rattle.juniper_tokens.specs.device.ByteRuns.{byte_at}
use Rattle.juniper_tokens.specs.device.Ranges.{range_lexeme, IsRange}

-- the tokens of a source
abbrev pub streamed : List ℕ → ℕ → ℕ → Tokens
streamed source depth most = stream depth most source 0 0 0

-- where a stream is, what it may still read, and what it has counted
pub record StreamState : Type 0 where
  pub source : List ℕ
  pub index : ℕ
  pub most : ℕ
  pub depth : ℕ
  pub left : ℕ
  pub opened : ℕ
  pub closed : ℕ
  pub deep : Bool
  pub short : Bool

abbrev pub begun : List ℕ → ℕ → ℕ → StreamState
begun source depth most = record {
  source = source;
  index = 0;
  most = most;
  depth = depth;
  left = most;
  opened = 0;
  closed = 0;
  deep = false;
  short = false;
}

-- the tokens that are still to be read
abbrev pub rest_of : StreamState → Tokens
rest_of s = if s.deep then short_at s.source s.index else stream s.depth s.left s.source s.index s.opened s.closed

-- No more brackets were counted than tokens, and none comes after a token that is nested too deep. Before that one no
-- more were
-- open than may be.
pub record IsCounted (most depth left opened closed : ℕ) (deep : Bool) : Type 0 where
  pub fits : most < 2 ^ 64
  pub some : (opened + closed) + left ≤ most
  pub last : deep ≡ true → left ≡ 0
  pub shallow : deep ≡ false → opened ≤ depth + closed

-- the tokens that are still to be read once one of this kind was, up to this place
abbrev pub past_token : StreamState → ℕ → Kind → Tokens
past_token s next kind = after_token s.source next
    (stream s.depth (s.left - 1) s.source next (opened_with kind s.opened) (closed_with kind s.closed))
    (goes_deep s.depth kind s.opened s.closed)

-- This token comes next, and then what a stream after it has left.
abbrev pub with_next : List ℕ → TokenRange → StreamState → Tokens
with_next source r t = if is_end r.kind then only (range_lexeme source r) (not t.short)
    else with_first (range_lexeme source r) (rest_of t)

-- the range of the token that a stream has read last, at whose end it is
abbrev pub range_to : StreamState → Placed → TokenRange
range_to s p = record {
  kind = p.kind;
  start = offset_at p.start;
  end = record { bytes = byte_at s.index s.source; characters = s.index };
}

-- a token as a range of its source, and the position at which it begins
pub record Standing : Type 0 where
  pub range : TokenRange
  pub start : Place

abbrev pub standing : StreamState → Placed → Standing
standing s p = record { range = range_to s p; start = p.start.place }

-- the same stream at another character
abbrev pub moved : StreamState → ℕ → StreamState
moved s index = record {
  source = s.source;
  index = index;
  most = s.most;
  depth = s.depth;
  left = s.left;
  opened = s.opened;
  closed = s.closed;
  deep = s.deep;
  short = s.short;
}

-- This token came next, so the tokens that were to be read were these, and the stream after it is in state t.
pub record Gives (s : StreamState) (rest : Tokens) (p : Standing) (t : StreamState) : Type 0 where
  pub source_is : t.source ≡ s.source
  pub most_is : t.most ≡ s.most
  pub depth_is : t.depth ≡ s.depth
  pub is_range : IsRange s.source p.range
  pub start_is : p.start ≡ place s.source p.range.start.characters
  pub to : t.index ≡ p.range.end.characters
  pub rest_is : rest ≡ with_next s.source p.range t
  pub going : is_end p.range.kind ≡ false → t.short ≡ false
  pub fewer : is_end p.range.kind ≡ false → t.left < s.left

abbrev pub GivesNext : StreamState → Standing → StreamState → Type 0
GivesNext s p t = Gives s (rest_of s) p t

-- the tokens from where the stream is, where one more begins or the source ends
abbrev pub rest_here : StreamState → Tokens
rest_here s = next_at s.source s.index (past_token s) (scan (drop s.index s.source))

-- One more may come, and the stream goes on.
pub record IsOpen (s : StreamState) : Type 0 where
  pub some : 0 < s.left
  pub shallow : s.deep ≡ false
  pub whole : s.short ≡ false

-- A token of this kind was counted, which was read.
pub record Counts (s : StreamState) (kind : Kind) (t : StreamState) : Type 0 where
  pub source_is : t.source ≡ s.source
  pub index_is : t.index ≡ s.index
  pub most_is : t.most ≡ s.most
  pub depth_is : t.depth ≡ s.depth
  pub short_is : t.short ≡ s.short
  pub fewer : t.left < s.left
  pub rest_is : rest_of t ≡ past_token s s.index kind
