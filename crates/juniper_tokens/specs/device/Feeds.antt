-- A device: where a cursor has its tokens from, and where it stands.
use Rattle.std.specs.Prelude.{◌≡◌, ℕ, ◌+◌, ◌<◌, ◌≤◌, ◌^◌, Bool, true, false, List, drop}
use Rattle.graphql_lexical.specs.Place.{Place, place}
use Rattle.graphql_lexical.specs.device.Scan.{is_end}
use Rattle.juniper_tokens.specs.declared.records.TokenRecords.{TokenRecords}
use Rattle.juniper_tokens.specs.declared.stream.Placed.{Placed}
use Rattle.juniper_tokens.specs.declared.token_range.TokenRange.{TokenRange}
use Rattle.juniper_tokens.specs.Cursor.{EndsOnce, first_of}
use Rattle.juniper_tokens.specs.Taking.{Taking, left, last_end}
use Rattle.juniper_tokens.specs.device.Ranges.{range_lexeme, range_lexemes, IsRange, StandsOn}
use Rattle.graphql_lexical.specs.device.Streams.{Tokens}
use Rattle.juniper_tokens.specs.device.BytePlaces.{BytePlace}
use Rattle.juniper_tokens.specs.device.Streams.{StreamState, Standing, standing, streamed, with_next}

-- tokens of which so many were taken
abbrev pub taking_of : Tokens → ℕ → Taking
taking_of t taken = record { tokens = t.tokens; taken = taken; whole = t.whole }

-- what a cursor over the characters of a source is seen as
abbrev pub seen : List ℕ → Bool → TokenRecords → StreamState → ℕ → Taking
seen source true records s taken = taking_of (streamed source s.depth s.most) taken
seen source false records s taken =
    record { tokens = range_lexemes source records.ranges.now; taken = taken; whole = true }

-- all but the first tokens
abbrev pub tokens_from : ℕ → Tokens → Tokens
tokens_from taken t = record { tokens = drop taken t.tokens; whole = t.whole }

-- So many tokens of a source were taken, and this stream is after the next one.
pub record GoesOnStream (source : List ℕ) (s : StreamState) (taken : ℕ) (next : TokenRange) : Type 0 where
  pub source_is : s.source ≡ source
  pub to : s.index ≡ next.end.characters
  pub rest_is : tokens_from taken (streamed source s.depth s.most) ≡ with_next source next s
  pub going : is_end next.kind ≡ false → s.short ≡ false
  pub counted : is_end next.kind ≡ false → (taken + 1) + s.left ≤ s.most
  pub fits : s.most < 2 ^ 64

-- The next token is this range, which begins at this position, and the last one ended at the other.
pub record StandsBefore (source : List ℕ) (t : Taking) (next : Standing) (last : Place) : Type 0 where
  pub is_range : IsRange source next.range
  pub first_is : first_of (left t) ≡ range_lexeme source next.range
  pub ended : EndsOnce (left t)
  pub start_is : next.start ≡ place source next.range.start.characters
  pub last_is : 0 < t.taken → last ≡ last_end t

pub record StandsOnStream (source : List ℕ) (s : StreamState) (taken : ℕ) (next : Standing) (last : Place) : Type 0
  where
    pub stands : StandsBefore source (taking_of (streamed source s.depth s.most) taken) next last
    pub goes_on : GoesOnStream source s taken next.range

-- where a cursor over the characters of a source stands, which reads a stream or has records
abbrev pub StandsAt : List ℕ → Bool → TokenRecords → StreamState → ℕ → Placed → BytePlace → Type 0
StandsAt source true records s taken next last = StandsOnStream source s taken (standing s next) last.place
StandsAt source false records s taken next last = StandsOn source records.ranges.now records.starts.now taken
    records.lines
