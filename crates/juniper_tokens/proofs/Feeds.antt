-- A cursor over records or over a stream, and what it has left.
use Rattle.std.proofs.Common.{if◌then◌else◌, ◌≡◌, ℕ, ◌+◌, ◌-◌, ◌<◌, ◌^◌, Bool, true, false, not, List, drop}
use Rattle.std.proofs.Common.{get_or, refl, sym, ap, ap₂, subst, ◌∙◌, arith}
use Rattle.std.proofs.lemmas.List.{drop-drop}
use Rattle.graphql_lexical.specs.Place.{Place, place}
use Rattle.graphql_lexical.specs.Cutting.{Lexeme}
use Rattle.graphql_lexical.specs.declared.kind.Kind.TheVariants.{EndOfFile}
use Rattle.graphql_lexical.specs.Kinds.{same_kind}
use Rattle.graphql_lexical.specs.device.Scan.{is_end}
use Rattle.graphql_lexical.specs.device.Streams.{Tokens, only, with_first}
use Rattle.juniper_tokens.specs.declared.token_range.TokenRange.{TokenRange}
use Rattle.juniper_tokens.specs.declared.stream.Placed.{Placed}
use Rattle.juniper_tokens.specs.Cursor.{EndsOnce, first_of, kind_at}
use Rattle.juniper_tokens.specs.Taking.{Taking, left, last_end}
use Rattle.juniper_tokens.specs.device.Ranges.{range_lexeme, range_lexemes, IsRange, StandsOn}
use Rattle.juniper_tokens.specs.device.BytePlaces.{BytePlace}
use Rattle.juniper_tokens.specs.device.Streams.{StreamState, Standing, GivesNext, begun, range_to, rest_of, standing}
use Rattle.juniper_tokens.specs.device.Streams.{streamed, with_next}
use Rattle.juniper_tokens.specs.declared.records.TokenRecords.{TokenRecords}
use Rattle.juniper_tokens.specs.device.Feeds.{GoesOnStream, StandsAt, StandsBefore, StandsOnStream, seen, taking_of}
use Rattle.juniper_tokens.specs.device.Feeds.{tokens_from}
use Rattle.graphql_lexical.proofs.Public.{stream_ends}
use Rattle.juniper_tokens.proofs.Steps.{still_ended}
use Rattle.juniper_tokens.proofs.Taking.{seen_ended, seen_first, first_is_range}

-- ---- where a cursor stands that is seen as now

module _ (source : List ℕ) (b : Bool) (records : TokenRecords) (s : StreamState) (taken : ℕ) (next : Placed)
    (last : BytePlace)
    (h : StandsAt source b records s taken next last) (now : Taking) (e : seen source b records s taken ≡ now) where
  pub of_stream : b ≡ true → StandsOnStream source s taken (standing s next) last.place × (taking_of (streamed source
      s.depth s.most)
      taken ≡ now)
  of_stream t = (
    subst (λ (x : Bool). StandsAt source x records s taken next last) t h,
    ap (λ (x : Bool). seen source x records s taken) (sym t) ∙ e,
  )

  pub of_records : b ≡ false
      → StandsOn source records.ranges.now records.starts.now taken records.lines
      × (◌≡◌ {A = Taking} (record { tokens = range_lexemes source records.ranges.now; taken = taken; whole = true })
      now)
  of_records t = (
    subst (λ (x : Bool). StandsAt source x records s taken next last) t h,
    ap (λ (x : Bool). seen source x records s taken) (sym t) ∙ e,
  )

  pub ended_seen : EndsOnce (left now)
  ended_seen = by_feed b refl
    where
      by_feed : (x : Bool) → b ≡ x → EndsOnce (left now)
      by_feed true t = let it = of_stream t in subst (λ (y : Taking). EndsOnce (left y)) it.1 it.0.stands.ended
      by_feed false t =
          let it = of_records t in
          seen_ended source records.ranges.now records.starts.now taken it.0.left now it.1

  -- the next token is this range
  module _ (r : TokenRange) (streams : b ≡ true → r ≡ range_to s next)
      (lists : b ≡ false → (d : TokenRange) → r ≡ get_or records.ranges.now taken d) where
    pub range_seen : IsRange source r
    range_seen = by_feed b refl
      where
        by_feed : (x : Bool) → b ≡ x → IsRange source r
        by_feed true t = subst (IsRange source) (sym (streams t)) (of_stream t).0.stands.is_range
        by_feed false t =
            let it = of_records t in
            subst (IsRange source) (sym (lists t r))
            (first_is_range source records.ranges.now records.starts.now taken it.0.left now it.1 r)

    pub first_seen : range_lexeme source r ≡ first_of (left now)
    first_seen = by_feed b refl
      where
        by_feed : (x : Bool) → b ≡ x → range_lexeme source r ≡ first_of (left now)
        by_feed true t =
            let it = of_stream t in
            ap (range_lexeme source) (streams t)
            ∙ sym it.0.stands.first_is ∙ ap (λ (y : Taking). first_of (left y)) it.1
        by_feed false t =
            let it = of_records t in
            ap (range_lexeme source) (lists t r)
            ∙ seen_first source records.ranges.now records.starts.now taken it.0.left now it.1 r

  -- where its tokens are a stream's
  module _ (t : b ≡ true) where
    pub stream_first : range_lexeme source (range_to s next) ≡ first_of (left now)
    stream_first = let it = of_stream t in sym it.0.stands.first_is ∙ ap (λ (y : Taking). first_of (left y)) it.1

    pub stream_start : next.start.place ≡ (first_of (left now)).span.start
    stream_start = (of_stream t).0.stands.start_is ∙ ap (λ (x : Lexeme). x.span.start) stream_first

    pub stream_end : place s.source s.index ≡ (first_of (left now)).span.end
    stream_end =
        let g = (of_stream t).0.goes_on in
        ap₂ place g.source_is g.to ∙ ap (λ (x : Lexeme). x.span.end) stream_first

    pub stream_last : 0 < now.taken → last.place ≡ last_end now
    stream_last some =
        let it = of_stream t in
        it.0.stands.last_is (subst (λ (y : Taking). 0 < y.taken) (sym it.1) some) ∙ ap last_end it.1

    pub stream_more : same_kind (kind_at (left now)) EndOfFile ≡ false → is_end next.kind ≡ false
    stream_more more = ap (λ (x : Lexeme). is_end x.kind) stream_first ∙ more

-- a cursor stands so again
pub to_stream : (source : List ℕ) (b : Bool) (records : TokenRecords) (s : StreamState) (taken : ℕ) (next : Placed)
    (last : BytePlace)
    → b ≡ true → StandsBefore source (taking_of (streamed source s.depth s.most) taken) (standing s next) last.place
    → GoesOnStream source s taken (range_to s next) → StandsAt source b records s taken next last
to_stream source b records s taken next last t h g =
    subst (λ (x : Bool). StandsAt source x records s taken next last) (sym t) (record { stands = h; goes_on = g })

pub to_records : (source : List ℕ) (b : Bool) (records : TokenRecords) (s : StreamState) (taken : ℕ) (next : Placed)
    (last : BytePlace)
    → b ≡ false → StandsOn source records.ranges.now records.starts.now taken records.lines
    → StandsAt source b records s taken next last
to_records source b records s taken next last t h =
    subst (λ (x : Bool). StandsAt source x records s taken next last) (sym t) h

-- what is left of records once one more is taken
pub listed_left : (source : List ℕ) (b : Bool) (old new : TokenRecords) (s : StreamState) (taken : ℕ) → b ≡ false
    → new.ranges ≡ old.ranges → (now : Taking) → seen source b old s taken ≡ now
    → left (seen source b new s (taken + 1)) ≡ drop 1 (left now)
listed_left source true old new s taken e same now h = absurd (cc e)
listed_left source false old new s taken e same now h =
    ap (λ (rs : List TokenRange). drop (taken + 1) (range_lexemes source rs)) (ap (λ r. r.now) same)
    ∙ sym (drop-drop 1 taken (range_lexemes source old.ranges.now))
    ∙ ap (λ (t : Taking). drop 1 (left t)) h

-- ---- a stream goes on

first_of_next : (source : List ℕ) (r : TokenRange) (s : StreamState) → first_of (with_next source r s).tokens ≡
    range_lexeme source r
first_of_next source r s = by_end (is_end r.kind)
  where
    by_end : (b : Bool) → first_of (if b then only (range_lexeme source r) (not s.short) else with_first (range_lexeme
        source r) (rest_of s)).tokens ≡ range_lexeme source r
    by_end true = refl
    by_end false = refl

module _ (source : List ℕ) (s t : StreamState) (taken : ℕ) (next : TokenRange) (p : Standing)
    (h : GoesOnStream source s taken next) (more : is_end next.kind ≡ false) (g : GivesNext s p t) where
  abbrev all : Tokens
  all = streamed source s.depth s.most

  same : s.source ≡ source
  same = h.source_is

  -- those after the next one
  rest_seen : tokens_from (taken + 1) all ≡ rest_of s
  rest_seen =
      ap (λ (ts : List Lexeme). record { tokens = ts; whole = all.whole }) (sym (drop-drop 1 taken all.tokens))
      ∙ ap (tokens_from 1) h.rest_is
      ∙ ap (λ (b : Bool). tokens_from 1 (if b then only (range_lexeme source next) (not s.short)
      else with_first (range_lexeme source next) (rest_of s))) more

  pub goes_on_more : GoesOnStream source t (taken + 1) p.range
  goes_on_more = record {
    source_is = g.source_is ∙ same;
    to = g.to;
    rest_is =
        ap₂ (λ d m. tokens_from (taken + 1) (streamed source d m)) g.depth_is g.most_is
        ∙ rest_seen ∙ g.rest_is ∙ ap (λ (src : List ℕ). with_next src p.range t) same;
    going = g.going;
    counted = λ f. omega (arith, h.counted more, g.fewer f, g.most_is);
    fits = subst (λ (n : ℕ). n < 2 ^ 64) (sym g.most_is) h.fits;
  }

  -- what is seen, with one more taken
  pub seen_more : taking_of (streamed source t.depth t.most) (taken + 1)
      ≡ taking_of (streamed source s.depth s.most) (taken + 1)
  seen_more = ap₂ (λ d m. taking_of (streamed source d m) (taken + 1)) g.depth_is g.most_is

  module _ (last : Place) (start last_old : Place)
      (old : StandsBefore source (taking_of all taken) (record { range = next; start = start }) last_old)
      (ended : last ≡ place s.source s.index) where
    pub stands_more : StandsBefore source (taking_of (streamed source t.depth t.most) (taken + 1)) p last
    stands_more = record {
      is_range = subst (λ (src : List ℕ). IsRange src p.range) same g.is_range;
      first_is =
          ap (λ (ts : Tokens). first_of ts.tokens) goes_on_more.rest_is ∙ first_of_next source p.range t;
      ended =
          subst (λ (x : Taking). EndsOnce (left x)) (sym seen_more)
          (subst EndsOnce (drop-drop 1 taken all.tokens)
          (still_ended (drop taken all.tokens) old.ended (ap (λ (x : Lexeme). same_kind x.kind EndOfFile) old.first_is
          ∙ more)));
      start_is = g.start_is ∙ ap (λ (src : List ℕ). place src p.range.start.characters) same;
      last_is = λ some. ended ∙ ap₂ place same h.to ∙ before_is;
    }
      where
        back : (taken + 1) - 1 ≡ taken
        back = omega arith

        before_is : place source next.end.characters ≡ last_end (taking_of (streamed source t.depth t.most) (taken +
            1))
        before_is =
            sym (ap (λ (x : Lexeme). x.span.end) old.first_is)
            ∙ ap (λ (n : ℕ). (first_of (drop n all.tokens)).span.end) (sym back)
            ∙ sym (ap last_end seen_more)

-- ---- a stream is begun

module _ (source : List ℕ) (depth most : ℕ) (fits : most < 2 ^ 64) (p : Standing) (t : StreamState)
    (g : GivesNext (begun source depth most) p t) where
  same_tokens : ◌≡◌ {A = Tokens} (streamed source t.depth t.most) (streamed source depth most)
  same_tokens = ap₂ (streamed source) g.depth_is g.most_is

  pub seen_begun : ◌≡◌ {A = Taking} (taking_of (streamed source t.depth t.most) 0) (taking_of (streamed source depth
      most) 0)
  seen_begun = ap (λ (ts : Tokens). taking_of ts 0) same_tokens

  pub stream_begun : (last : Place) → StandsOnStream source t 0 p last
  stream_begun last = record {
    stands = record {
      is_range = g.is_range;
      first_is = ap (λ (ts : Tokens). first_of ts.tokens) (same_tokens ∙ g.rest_is) ∙ first_of_next source p.range t;
      ended = subst (λ (ts : Tokens). EndsOnce ts.tokens) (sym same_tokens) (stream_ends depth most source 0 0 0);
      start_is = g.start_is;
      last_is = λ some. absurd (omega (arith, some));
    };
    goes_on = record {
      source_is = g.source_is;
      to = g.to;
      rest_is = same_tokens ∙ g.rest_is;
      going = g.going;
      counted = λ more. omega (arith, g.fewer more, g.most_is);
      fits = subst (λ (n : ℕ). n < 2 ^ 64) (sym g.most_is) fits;
    };
  }

-- ---- a stream has ended

module _ (source : List ℕ) (s : StreamState) (taken : ℕ) (next : Standing) (last : Place)
    (h : StandsOnStream source s taken next last) (now : Taking) (e : taking_of (streamed source s.depth s.most)
    taken ≡ now) where
  pub whole_at_end : is_end next.range.kind ≡ true → now.whole ≡ not s.short
  whole_at_end at_end =
      sym (ap (λ (t : Taking). t.whole) e)
      ∙ ap (λ (ts : Tokens). ts.whole) h.goes_on.rest_is
      ∙ ap (λ (b : Bool). (if b then only (range_lexeme source next.range) (not s.short)
      else with_first (range_lexeme source next.range) (rest_of s)).whole) at_end

  pub end_seen : same_kind (kind_at (left now)) EndOfFile ≡ true → is_end next.range.kind ≡ true
  end_seen end =
      sym (ap (λ (x : Lexeme). is_end x.kind) h.stands.first_is)
      ∙ ap (λ (t : Taking). same_kind (kind_at (left t)) EndOfFile) e ∙ end
