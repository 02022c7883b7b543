-- What a stream of tokens gives next.
use Rattle.std.proofs.Common.{◌≡◌, ℕ, suc, ◌+◌, ◌-◌, ◌<◌, Bool, true, false, not, List, [], take, drop, refl, sym, ap}
use Rattle.std.proofs.Common.{ap₂, subst, ◌∙◌, arith}
use Rattle.std.specs.Prelude.{Result, Ok, Err, if◌then◌else◌}
use Rattle.graphql_lexical.specs.Place.{Place, place}
use Rattle.graphql_lexical.specs.declared.kind.Kind.{Kind}
use Rattle.graphql_lexical.specs.Cutting.{Lexeme}
use Rattle.graphql_lexical.specs.device.Whole.{text_of}
use Rattle.graphql_lexical.specs.device.Scan.{Found, Missed, scan, lexeme_at, is_end}
use Rattle.graphql_lexical.proofs.Public.{finds_what_reads}
use Rattle.juniper_tokens.specs.Tokens.{kind_text}
use Rattle.juniper_tokens.specs.declared.token_range.TokenRange.{TokenRange}
use Rattle.juniper_tokens.specs.declared.error.LexFailure.{LexFailure}
use Rattle.juniper_tokens.specs.declared.error.LexFailure.TheVariants as failures
use Rattle.juniper_tokens.specs.Errors.{view_lexer_error}
use Rattle.juniper_tokens.specs.Lexing.{LexerState}
use Rattle.juniper_tokens.specs.device.Scans.{MissesEscape}
use Rattle.juniper_tokens.specs.device.Ranges.{range_lexeme, range_slice, IsRange, TakesRange, TakesItem}
use Rattle.graphql_lexical.specs.device.Streams.{Tokens, with_first, only, short_at, only_end, last_at, found_or}
use Rattle.graphql_lexical.specs.device.Streams.{next_at, opened_with, closed_with, goes_deep, after_token, stream}
use Rattle.juniper_tokens.specs.device.LexingByScan.{past_ignored}
use Rattle.juniper_tokens.specs.device.Streams.{StreamState, Gives, GivesNext, Counts, rest_of, rest_here, past_token}
use Rattle.juniper_tokens.specs.device.Streams.{Standing, moved, standing, with_next}
use Rattle.juniper_tokens.specs.declared.stream.Placed.{Placed}
use Rattle.juniper_tokens.specs.device.BytePlaces.{BytePlace, byte_place}
use Rattle.juniper_tokens.specs.device.ByteRuns.{byte_at}
use Rattle.juniper_tokens.proofs.Ranges.{read_text}

-- ---- a token that was taken where a lexer stands

module _ (u : LexerState) (r : TokenRange) (v : LexerState) (h : TakesRange u r v) where
  abbrev size : ℕ
  size = r.end.characters - u.index

  abbrev rest : List ℕ
  rest = drop u.index u.source

  abbrev it : Found
  it = record { size = size; kind = r.kind; text = text_of r.kind (take size rest) }

  its_end : u.index + size ≡ r.end.characters
  its_end = omega (arith, h.from, h.is_range.forward)

  its_text : text_of r.kind (take size rest) ≡ kind_text r.kind (text_of r.kind (range_slice u.source r))
  its_text =
      read_text rest size r.kind _ ((finds_what_reads rest it).0 h.scanned)
      ∙ ap (λ i. kind_text r.kind (text_of r.kind (take (r.end.characters - i) (drop i u.source)))) (sym h.from)

  its_lexeme : lexeme_at u.source u.index it ≡ range_lexeme u.source r
  its_lexeme = ap₂ (λ (t : List ℕ) (p : Lexeme). record { kind = r.kind; text = t; span = p.span }) its_text
      (ap₂ (λ i j. record {
        kind = r.kind;
        text = [];
        span = record {
          start = place u.source i;
          end = place u.source j;
        };
      })
      (sym h.from) its_end)

  pub found_end : (go : ℕ → Kind → Tokens) → is_end r.kind ≡ true
      → next_at u.source u.index go (scan rest) ≡ only (range_lexeme u.source r) true
  found_end go e =
      ap (next_at u.source u.index go) h.scanned
      ∙ (ap (found_or u.source u.index go it) e ∙ ap (λ (x : Lexeme). only x true) its_lexeme)

  pub found_more : (go : ℕ → Kind → Tokens) → is_end r.kind ≡ false
      → next_at u.source u.index go (scan rest) ≡ with_first (range_lexeme u.source r) (go r.end.characters r.kind)
  found_more go e =
      ap (next_at u.source u.index go) h.scanned
      ∙ (ap (found_or u.source u.index go it) e
      ∙ ap₂ (λ (x : Lexeme) (n : ℕ). with_first x (go n r.kind)) its_lexeme its_end)

  pub last_end : is_end r.kind ≡ true → last_at u.source u.index (scan rest) ≡ only (range_lexeme u.source r) true
  last_end e =
      ap (last_at u.source u.index) h.scanned
      ∙ (ap (only_end u.source u.index it) e ∙ ap (λ (x : Lexeme). only x true) its_lexeme)

  pub last_more : is_end r.kind ≡ false → last_at u.source u.index (scan rest) ≡ short_at u.source u.index
  last_more e = ap (last_at u.source u.index) h.scanned ∙ ap (only_end u.source u.index it) e

  -- the token that was taken, as what is kept of it
  pub stands_as : (p : Placed) (t : StreamState) → p.kind ≡ r.kind → p.start ≡ byte_place u.source u.index
      → p.start.place.index ≡ u.index → t.source ≡ u.source → t.index ≡ v.index
      → standing t p ≡ record { range = r; start = place u.source u.index }
  stands_as p t kind start index same there =
      let made : Kind → ℕ → ℕ → ℕ → ℕ → Place → Standing = λ k sb sc eb ec q. record {
        range = record {
          kind = k;
          start = record { bytes = sb; characters = sc };
          end = record { bytes = eb; characters = ec };
        };
        start = q;
      } in
      let from : p.start.place.index ≡ r.start.characters = index ∙ sym h.from in
      let to : t.index ≡ r.end.characters = there ∙ h.to in
      let first : p.start.byte ≡ r.start.bytes =
      ap (λ (q : BytePlace). q.byte) start ∙ ap (λ i. byte_at i u.source) (sym h.from) ∙ sym h.is_range.start in
      let last : byte_at t.index t.source ≡ r.end.bytes =
      ap₂ (λ i s. byte_at i s) to same ∙ sym h.is_range.end in
      ap (λ k. made k p.start.byte p.start.place.index (byte_at t.index t.source) t.index p.start.place) kind
      ∙ (ap₂ (λ b i. made r.kind b i (byte_at t.index t.source) t.index p.start.place) first from
      ∙ (ap₂ (λ b i. made r.kind r.start.bytes r.start.characters b i p.start.place) last to
      ∙ ap (made r.kind r.start.bytes r.start.characters r.end.bytes r.end.characters)
      (ap (λ (q : BytePlace). q.place) start)))

-- ---- a lexical error there

module _ (u : LexerState) (failure : LexFailure) (v : LexerState) (h : TakesItem u (Err failure) v) where
  missed_there : (m : Missed) × (scan (drop u.index u.source) ≡ Err m)
  missed_there = by_failure failure h
    where
      by_scan : (r : Result Found Missed) → scan (drop u.index u.source) ≡ r → MissesEscape r
          → (m : Missed) × (scan (drop u.index u.source) ≡ Err m)
      by_scan (Ok f) e w = absurd w
      by_scan (Err m) e w = (m, e)

      by_failure : (f : LexFailure) → TakesItem u (Err f) v → (m : Missed) × (scan (drop u.index u.source) ≡ Err m)
      by_failure (failures.Fault fault) g =
          (record { at = g.size; error = view_lexer_error fault.item }, g.scanned)
      by_failure failures.Memory g = by_scan (scan (drop u.index u.source)) refl g.0

  pub none_found : (go : ℕ → Kind → Tokens)
      → next_at u.source u.index go (scan (drop u.index u.source)) ≡ short_at u.source u.index
  none_found go = ap (next_at u.source u.index go) missed_there.1

  pub no_end_found : last_at u.source u.index (scan (drop u.index u.source)) ≡ short_at u.source u.index
  no_end_found = ap (last_at u.source u.index) missed_there.1

-- ---- what a stream gives

-- after a token that is too deep none may come
pub not_deep : (deep : Bool) (left : ℕ) → (deep ≡ true → left ≡ 0) → 0 < left → deep ≡ false
not_deep true left last some = absurd (omega (arith, last refl, some))
not_deep false left last some = refl

-- a stream whose lexer is in this state
abbrev pub at_lexer : LexerState → ℕ → ℕ → ℕ → ℕ → ℕ → Bool → Bool → StreamState
at_lexer l most depth left opened closed deep short = record {
  source = l.source;
  index = l.index;
  most = most;
  depth = depth;
  left = left;
  opened = opened;
  closed = closed;
  deep = deep;
  short = short;
}

module _ (most depth left opened closed : ℕ) (deep short : Bool) where
  abbrev at : LexerState → StreamState
  at l = at_lexer l most depth left opened closed deep short

  -- where one more may come
  module _ (some : 0 < left) (shallow : deep ≡ false) where
    pub rest_there : (l u : LexerState) → u ≡ past_ignored l → rest_of (at l) ≡ rest_here (at u)
    rest_there l u e =
        let one : left ≡ suc (left - 1) = omega (arith, some) in
        ap (λ (b : Bool). if b then short_at l.source l.index else stream depth left l.source l.index opened closed)
        shallow
        ∙ ap (λ (n : ℕ). stream depth n l.source l.index opened closed) one
        ∙ sym (ap (λ (v : LexerState). rest_here (at v)) e)

    pub gives_there : (l u : LexerState) → u ≡ past_ignored l → (p : Standing) (t : StreamState)
        → Gives (at u) (rest_here (at u)) p t → GivesNext (at l) p t
    gives_there l u e p t g =
        let same : u.source ≡ l.source = ap (λ (v : LexerState). v.source) e in record {
          source_is = g.source_is ∙ same;
          most_is = g.most_is;
          depth_is = g.depth_is;
          is_range = subst (λ (s : List ℕ). IsRange s p.range) same g.is_range;
          start_is = g.start_is ∙ ap (λ (s : List ℕ). place s p.range.start.characters) same;
          to = g.to;
          rest_is = rest_there l u e ∙ g.rest_is ∙ ap (λ (s : List ℕ). with_next s p.range t) same;
          going = g.going;
          fewer = g.fewer;
        }

  -- a token that was taken here
  module _ (whole : short ≡ false) (u v : LexerState) (r : TokenRange) (h : TakesRange u r v) (same : v.source ≡
      u.source)
      (start : Place) (begins : start ≡ place u.source u.index) where
    begins_there : start ≡ place u.source r.start.characters
    begins_there = begins ∙ ap (place u.source) (sym h.from)

    pub end_taken : is_end r.kind ≡ true → Gives (at u) (rest_here (at u)) (record { range = r; start = start }) (at v)
    end_taken e = record {
      source_is = same;
      most_is = refl;
      depth_is = refl;
      is_range = h.is_range;
      start_is = begins_there;
      to = h.to;
      rest_is =
          found_end u r v h (past_token (at u)) e
          ∙ ap (λ (b : Bool). only (range_lexeme u.source r) (not b)) (sym whole)
          ∙ sym (ap (λ (b : Bool). if b then only (range_lexeme u.source r) (not short)
          else with_first (range_lexeme u.source r) (rest_of (at v))) e);
      going = λ f. let z : true ≡ false = sym e ∙ f in absurd (cc z);
      fewer = λ f. let z : true ≡ false = sym e ∙ f in absurd (cc z);
    }

    pub token_taken : is_end r.kind ≡ false → (t : StreamState) → Counts (at v) r.kind t
        → Gives (at u) (rest_here (at u)) (record { range = r; start = start }) t
    token_taken e t n = record {
      source_is = n.source_is ∙ same;
      most_is = n.most_is;
      depth_is = n.depth_is;
      is_range = h.is_range;
      start_is = begins_there;
      to = n.index_is ∙ h.to;
      rest_is =
          found_more u r v h (past_token (at u)) e
          ∙ ap₂ (λ (s : List ℕ) (i : ℕ). with_first (range_lexeme u.source r)
          (after_token s i (stream depth (left - 1) s i (opened_with r.kind opened) (closed_with r.kind closed))
          (goes_deep depth r.kind opened closed))) (sym same) (sym h.to)
          ∙ ap (with_first (range_lexeme u.source r)) (sym n.rest_is)
          ∙ sym (ap (λ (b : Bool). if b then only (range_lexeme u.source r) (not t.short)
          else with_first (range_lexeme u.source r) (rest_of t)) e);
      going = λ f. n.short_is ∙ whole;
      fewer = λ f. n.fewer;
    }

  -- where no token was found
  pub nothing_taken : (u : LexerState) (failure : LexFailure) (v : LexerState) → TakesItem u (Err failure) v
      → (p : Standing) (t : StreamState) → Gives (at u) (short_at u.source u.index) p t
      → Gives (at u) (rest_here (at u)) p t
  nothing_taken u failure v h p t g = record {
    source_is = g.source_is;
    most_is = g.most_is;
    depth_is = g.depth_is;
    is_range = g.is_range;
    start_is = g.start_is;
    to = g.to;
    rest_is = none_found u failure v h (past_token (at u)) ∙ g.rest_is;
    going = g.going;
    fewer = g.fewer;
  }

  -- where no more may come
  module _ (none : left ≡ 0) (shallow : deep ≡ false) (l u : LexerState) (e : u ≡ past_ignored l) where
    rest_last : rest_of (at l) ≡ last_at u.source u.index (scan (drop u.index u.source))
    rest_last =
        ap (λ (b : Bool). if b then short_at l.source l.index else stream depth left l.source l.index opened closed)
        shallow
        ∙ ap (λ (n : ℕ). stream depth n l.source l.index opened closed) none
        ∙ sym (ap (λ (v : LexerState). last_at v.source v.index (scan (drop v.index v.source))) e)

    same_there : u.source ≡ l.source
    same_there = ap (λ (v : LexerState). v.source) e

    pub end_last : short ≡ false → (v : LexerState) (r : TokenRange) → TakesRange u r v → v.source ≡ u.source
        → (start : Place) → start ≡ place u.source u.index → is_end r.kind ≡ true
        → GivesNext (at l) (record { range = r; start = start }) (at v)
    end_last whole v r h same start begins f = record {
      source_is = same ∙ same_there;
      most_is = refl;
      depth_is = refl;
      is_range = subst (λ (s : List ℕ). IsRange s r) same_there h.is_range;
      start_is = begins ∙ ap (place u.source) (sym h.from) ∙ ap (λ (s : List ℕ). place s r.start.characters)
          same_there;
      to = h.to;
      rest_is =
          rest_last ∙ last_end u r v h f
          ∙ ap₂ (λ (s : List ℕ) (b : Bool). only (range_lexeme s r) (not b)) same_there (sym whole)
          ∙ sym (ap (λ (b : Bool). if b then only (range_lexeme l.source r) (not short)
          else with_first (range_lexeme l.source r) (rest_of (at v))) f);
      going = λ g. let z : true ≡ false = sym f ∙ g in absurd (cc z);
      fewer = λ g. let z : true ≡ false = sym f ∙ g in absurd (cc z);
    }

    -- what comes here is left out
    short_last : last_at u.source u.index (scan (drop u.index u.source)) ≡ short_at u.source u.index
        → (p : Standing) (t : StreamState) → Gives (at u) (short_at u.source u.index) p t → GivesNext (at l) p t
    short_last h p t g = record {
      source_is = g.source_is ∙ same_there;
      most_is = g.most_is;
      depth_is = g.depth_is;
      is_range = subst (λ (s : List ℕ). IsRange s p.range) same_there g.is_range;
      start_is = g.start_is ∙ ap (λ (s : List ℕ). place s p.range.start.characters) same_there;
      to = g.to;
      rest_is = rest_last ∙ h ∙ g.rest_is ∙ ap (λ (s : List ℕ). with_next s p.range t) same_there;
      going = g.going;
      fewer = g.fewer;
    }

    pub token_left_out : (v : LexerState) (r : TokenRange) → TakesRange u r v → is_end r.kind ≡ false
        → (p : Standing) (t : StreamState) → Gives (at u) (short_at u.source u.index) p t → GivesNext (at l) p t
    token_left_out v r h f p t g =
        short_last (last_more u r v h f) p t g

    pub error_left_out : (failure : LexFailure) (v : LexerState) → TakesItem u (Err failure) v
        → (p : Standing) (t : StreamState) → Gives (at u) (short_at u.source u.index) p t → GivesNext (at l) p t
    error_left_out failure v h p t g = short_last (no_end_found u failure v h) p t g

-- ---- a stream whose lexer went on

module _ (s : StreamState) (some : 0 < s.left) (shallow : s.deep ≡ false) (l : LexerState)
    (source : l.source ≡ s.source) (index : l.index ≡ s.index) where
  abbrev with_lexer : LexerState → StreamState
  with_lexer u = at_lexer u s.most s.depth s.left s.opened s.closed s.deep s.short

  before : with_lexer l ≡ s
  before = ap₂ (λ src i. at_lexer (record { source = src; index = i; ended = false }) s.most s.depth s.left s.opened
      s.closed s.deep s.short) source index

  after : (u : LexerState) → u.source ≡ l.source → with_lexer u ≡ moved s u.index
  after u same = ap (λ src. at_lexer (record { source = src; index = u.index; ended = false }) s.most s.depth s.left
      s.opened s.closed s.deep s.short) (same ∙ source)

  -- past all ignored tokens
  pub gives_past : (u : LexerState) → u ≡ past_ignored l → (p : Standing) (t : StreamState)
      → Gives (moved s u.index) (rest_here (moved s u.index)) p t → GivesNext s p t
  gives_past u e p t g =
      subst (λ (x : StreamState). GivesNext x p t) before
      (gives_there s.most s.depth s.left s.opened s.closed s.deep s.short some shallow l u e p t
      (subst (λ (x : StreamState). Gives x (rest_here x) p t)
      (sym (after u (ap (λ (w : LexerState). w.source) e))) g))

  -- past some of them
  pub gives_between : (v : LexerState) → v.source ≡ l.source → past_ignored v ≡ past_ignored l
      → (p : Standing) (t : StreamState) → GivesNext (moved s v.index) p t → GivesNext s p t
  gives_between v same passes p t g = record {
    source_is = g.source_is;
    most_is = g.most_is;
    depth_is = g.depth_is;
    is_range = g.is_range;
    start_is = g.start_is;
    to = g.to;
    rest_is = rest_is ∙ g.rest_is;
    going = g.going;
    fewer = g.fewer;
  }
    where
      rest_is : rest_of s ≡ rest_of (moved s v.index)
      rest_is =
          ap rest_of (sym before)
          ∙ (rest_there s.most s.depth s.left s.opened s.closed s.deep s.short some shallow l (past_ignored l) refl
          ∙ (sym (rest_there s.most s.depth s.left s.opened s.closed s.deep s.short some shallow v (past_ignored l)
          (sym passes))
          ∙ ap rest_of (after v same)))
