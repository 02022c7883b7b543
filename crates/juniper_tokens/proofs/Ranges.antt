-- Tokens as ranges of their source.
use Rattle.std.proofs.Common.{◌≡◌, ℕ, ◌+◌, ◌-◌, ◌<◌, ◌≤◌, ◌^◌, Bool, true, false, List, [], ◌∷◌, ◌++◌, length, take, drop, refl, sym, ap, ap₂, subst, ◌∙◌, arith, length-drop}
use Rattle.std.specs.Prelude.{Result, Ok, Err, Some, None, ◌↔◌}
use Rattle.std.specs.Option.{unwrap_or}
use Rattle.std.specs.Result.{result_ok}
use Rattle.std.specs.List.{fold}
use Rattle.std.proofs.lemmas.Str.{length-le-encodes, encodes-chars}
use Rattle.std.specs.Str.{chars, IsUtf8}
use Rattle.graphql_lexical.specs.Place.{Place, place, past_character}
use Rattle.graphql_lexical.specs.declared.kind.Kind.{Kind}
use Rattle.graphql_lexical.specs.declared.kind.Kind.TheVariants as kinds
use Rattle.graphql_lexical.specs.Kinds.{same_kind, Spelling, Names, Strings, BlockStrings, Floats, Ints, Fixed, NoText, spelling, fixed_text}
use Rattle.graphql_lexical.specs.device.Whole.{Admits, IsToken, between, text_of}
use Rattle.graphql_lexical.specs.Tokens as grammar
use Rattle.graphql_lexical.specs.device.Indexed.{ReadsAt}
use Rattle.graphql_lexical.specs.Cutting.{Lexeme}
use Rattle.graphql_lexical.specs.device.Scan.{found, ignored_size}
use Rattle.graphql_lexical.proofs.Public.{stands_to_text, finds_what_reads, ignored_is_longest, place_index, spells_token, read_end, read_token}
use Rattle.juniper_tokens.specs.declared.span.Spanning.{Spanning}
use Rattle.juniper_tokens.specs.declared.token.Token.{Token}
use Rattle.juniper_tokens.specs.declared.token_range.TokenRange.{TokenRange}
use Rattle.juniper_tokens.specs.declared.lexer.scan.Found.{Found}
use Rattle.juniper_tokens.specs.declared.error.LexFailure.{LexFailure}
use Rattle.juniper_tokens.specs.declared.error.LexFailure.TheVariants as failures
use Rattle.juniper_tokens.specs.Tokens.{kind_text, view_token}
use Rattle.juniper_tokens.specs.device.ByteRuns.{byte_at}
use Rattle.juniper_tokens.specs.device.Offsets.{EndsQuoted, quotes}
use Rattle.juniper_tokens.specs.Positions.{columns_on}
use Rattle.juniper_tokens.specs.device.Scans.{Finds}
use Rattle.juniper_tokens.specs.Lexing.{PassesToken, LexerState, GivesItem, GivesToken}
use Rattle.juniper_tokens.specs.device.LexingByScan.{past_ignored, IsPlaced}
use Rattle.juniper_tokens.specs.device.Ranges.{range_of, range_slice, range_lexeme, IsRange, TakesRange, TakesItem, TakesFrequent, GivesRange, GivesRangeItem, range_steps, range_or_none}
use Rattle.juniper_tokens.proofs.Offsets.{byte_at_least, byte_at_within, byte_at_on, bytes_between, fits_from}
use Rattle.juniper_tokens.proofs.LexingByScan.{same_end, fault_by_scan, memory_by_scan}
use Rattle.juniper_tokens.proofs.Places.{place_on, line_end}

-- ---- from border to border

-- so many bytes on from the start is the end
range_bytes : (source : List ℕ) (r : TokenRange) → IsRange source r
    → r.start.bytes + byte_at (r.end.characters - r.start.characters) (drop r.start.characters source) ≡ r.end.bytes
range_bytes source r h = bytes_between source r.start.characters r.end.characters r.start.bytes r.end.bytes h.start
    h.end
    h.forward

pub range_order : (source : List ℕ) (r : TokenRange) → IsRange source r → r.start.bytes ≤ r.end.bytes
range_order source r h = omega (arith, range_bytes source r h)

-- no more characters than bytes
pub range_fewer : (source : List ℕ) (r : TokenRange) → IsRange source r
    → r.end.characters - r.start.characters ≤ r.end.bytes - r.start.bytes
range_fewer source r h =
    let n = r.end.characters - r.start.characters in
    let rest = drop r.start.characters source in
    omega (
      arith,
      range_bytes source r h,
      byte_at_least n rest (omega (arith, h.forward, h.within, length-drop r.start.characters source)),
    )

pub range_width : (source rest : List ℕ) (r : TokenRange) → IsRange source r → rest ≡ drop r.start.characters source
    → r.end.bytes - r.start.bytes ≡ byte_at (r.end.characters - r.start.characters) rest
range_width source rest r h e =
    let width : r.end.bytes - r.start.bytes ≡ byte_at (r.end.characters - r.start.characters) (drop r.start.characters
    source) =
    omega (arith, range_bytes source r h) in
    width ∙ ap (byte_at (r.end.characters - r.start.characters)) (sym e)

-- what is left from its start on is no longer than the source
pub range_fits : (source rest : List ℕ) (r : TokenRange) → IsRange (chars source) r → r.start.bytes + length rest ≡
    length source
    → length source < 2 ^ 64
    → r.start.characters + length rest < 2 ^ 64
range_fits source rest r h e l = fits_from source rest r.start.characters r.start.bytes h.start
    (omega (arith, h.forward, h.within)) e l

-- the place of its start
pub start_index : (source : List ℕ) (r : TokenRange) (p : Place) → IsRange source r → p ≡ place source
    r.start.characters
    → p.index ≡ r.start.characters
start_index source r p h e = ap (λ (x : Place). x.index) e
    ∙ place_index source r.start.characters (omega (arith, h.forward, h.within))

-- the place after it
pub range_end : (source rest : List ℕ) (r : TokenRange) (p : Place) → IsRange source r → p ≡ place source
    r.start.characters
    → rest ≡ drop r.start.characters source
    → fold past_character p (take (r.end.characters - r.start.characters) rest) ≡ place source r.end.characters
range_end source rest r p h at e =
    let sum : r.start.characters + (r.end.characters - r.start.characters) ≡ r.end.characters = omega (
      arith,
      h.forward,
    ) in
    ap₂ (λ s t. fold past_character s (take (r.end.characters - r.start.characters) t)) at e
    ∙ (place_on source r.start.characters (r.end.characters - r.start.characters) ∙ ap (place source) sum)

-- a token that is no block string ends on its line
pub ends_on_line : (source : List ℕ) (r : TokenRange) (p : Place) → IsRange source r → p ≡ place source
    r.start.characters
    → same_kind r.kind kinds.BlockString ≡ false
    → columns_on (r.end.characters - r.start.characters) p ≡ place source r.end.characters
ends_on_line source r p h at e =
    ap (columns_on (r.end.characters - r.start.characters)) at ∙ h.lined (λ b. absurd (cc (
      e,
      ap (λ (k : Kind).
          same_kind k kinds.BlockString) b,
    )))

-- where a lexer stands after it
pub placed_after : (source : List ℕ) (at : ℕ) (p q : Place) (r : TokenRange) → IsPlaced source at p
    → IsRange (chars source) r
    → q ≡ place (chars source) r.end.characters → (q.index ≡ r.end.characters) × IsPlaced source r.end.bytes q
placed_after source at p q r h i e =
    let index : q.index ≡ r.end.characters = ap (λ (x : Place). x.index) e
    ∙ place_index (chars source) r.end.characters i.within in (
      index,
      record {
        byte_is = i.end ∙ ap (λ k. byte_at k (chars source)) (sym index);
        place_is = e ∙ ap (place (chars source)) (sym index);
        within = omega (arith, index, i.within);
        fits = h.fits;
      },
    )

-- ---- the range of a token that has been read

read_within : (rest : List ℕ) (n : ℕ) (kind : Kind) (text : List ℕ) → ReadsAt rest n kind text → n ≤ length rest
read_within rest n kind text r = r.longest.within

read_spelled : (rest : List ℕ) (n : ℕ) (kind k : Kind) (text : List ℕ) → ReadsAt rest n kind text → kind ≡ k
    → (k ≡ kinds.EndOfFile → ⊥)
    → IsToken (take n rest) k
read_spelled [] n kind k text r e no_end = absurd (no_end (sym e ∙ (read_end n kind text r).1))
read_spelled (c ∷ cs) n kind k text r e no_end =
    subst (IsToken (take n (c ∷ cs))) e (spells_token _ _ _ (read_token c cs n kind text r).1).0

-- a token that stands where a lexer does
pub found_range : (source : List ℕ) (at : ℕ) (p : Place) (f : Found) → IsPlaced source at p
    → Finds (drop p.index (chars source)) f
    → IsRange (chars source) (range_of f at p)
found_range source at p f h s =
    let j = p.index in
    let n = f.end.characters in
    let text = chars source in
    let rest = drop j text in
    let reads : ReadsAt rest n f.kind (text_of f.kind (take n rest)) = (finds_what_reads rest _).0 s.0 in
    let within : n ≤ length rest = read_within rest n f.kind _ reads in
    let size : (j + n) - j ≡ n = omega arith in
    let bytes : (at + f.end.bytes) - at ≡ f.end.bytes = omega arith in
    let quoted_by : (width : ℕ) (units : List ℕ) → take n rest ≡ quotes width ++ (units ++ quotes width) → 0 < width
    → EndsQuoted width rest ((at + f.end.bytes) - at) ((j + n) - j) =
    λ width units whole some. subst (λ b. EndsQuoted width rest b ((j + n) - j)) (sym bytes)
    (subst (EndsQuoted width rest f.end.bytes) (sym size) (record {
      units = units;
      whole = whole;
      some = some;
      within = within;
      offset = s.1;
    })) in
    record {
      start = h.byte_is;
      end = ap₂ (λ a b. a + b) h.byte_is s.1 ∙ byte_at_on j n text;
      forward = omega arith;
      within = omega (arith, within, h.within, length-drop j text);
      quoted = λ k. let units = read_spelled rest n f.kind kinds.String _ reads k (λ e. absurd (cc e)) in
          quoted_by 1 units.0 units.1 (omega arith);
      marked = λ k. let units = read_spelled rest n f.kind kinds.BlockString _ reads k (λ e. absurd (cc e)) in
          quoted_by 3 units.0 units.1 (omega arith);
      lined = λ k.
          ap (columns_on ((j + n) - j)) (sym h.place_is) ∙ ap (λ m. columns_on m p) size ∙ (line_end p rest _ s.0 k
          ∙ (ap (λ x. fold past_character x (take n rest)) h.place_is ∙ place_on text j n));
    }

-- no more characters than bytes
pub found_fewer : (rest : List ℕ) (f : Found) → Finds rest f → f.end.characters ≤ f.end.bytes
found_fewer rest f s =
    let within = read_within rest f.end.characters f.kind _ ((finds_what_reads rest _).0 s.0) in
    omega (arith, s.1, byte_at_least f.end.characters rest within)

-- a token that ends on its line
pub found_on_line : (source : List ℕ) (at : ℕ) (p : Place) (f : Found) → IsPlaced source at p
    → Finds (drop p.index (chars source)) f → same_kind f.kind kinds.BlockString ≡ false
    → columns_on f.end.characters p ≡ place (chars source) (p.index + f.end.characters)
found_on_line source at p f h s e =
    let size : f.end.characters ≡ (p.index + f.end.characters) - p.index = omega arith in
    ap (λ m. columns_on m p) size
    ∙ ends_on_line (chars source) (range_of f at p) p (found_range source at p f h s) h.place_is e

-- its end is within the source
pub found_fits : (source : List ℕ) (at : ℕ) (p : Place) (f : Found) → IsUtf8 source → IsPlaced source at p
    → Finds (drop p.index (chars source)) f
    → (at + f.end.bytes < 2 ^ 64) × (p.index + f.end.characters < 2 ^ 64)
found_fits source at p f u h s =
    let range = found_range source at p f h s in
    let few : length (chars source) ≤ length source = omega (
      arith,
      length-le-encodes (chars source),
      ap length (encodes-chars source u),
    ) in (
      omega (arith, byte_at_within (p.index + f.end.characters) (at + f.end.bytes) source u range.end, h.fits),
      omega (arith, few, range.within, h.fits),
    )

-- what a lexer takes that stands at such a token
pub found_taken : (source : List ℕ) (at : ℕ) (p q : Place) (f : Found) (ended was : Bool) → IsPlaced source at p
    → Finds (drop p.index (chars source)) f → q ≡ place (chars source) (p.index + f.end.characters)
    → ended ≡ same_kind f.kind kinds.EndOfFile
    → TakesRange (record { source = chars source; index = p.index; ended = was }) (range_of f at p)
    (record { source = chars source; index = q.index; ended = ended })
found_taken source at p q f ended was h s e n =
    let rest = drop p.index (chars source) in
    let range = found_range source at p f h s in
    let size : f.end.characters ≡ (p.index + f.end.characters) - p.index = omega arith in
    record {
      scanned = s.0 ∙ ap (λ k. found k f.kind rest) size;
      from = refl;
      to = (placed_after source at p q (range_of f at p) h range e).0;
      is_range = range;
      ends = n;
    }

-- ---- the text of a token

-- the kind leaves the text open, or fixes it
spelled_text : (s : Spelling) (whole : List ℕ) → Admits s whole
    → between (grammar.quotes s) whole ≡ unwrap_or (fixed_text s) (between (grammar.quotes s) whole)
spelled_text Names whole h = refl
spelled_text Strings whole h = refl
spelled_text BlockStrings whole h = refl
spelled_text Floats whole h = refl
spelled_text Ints whole h = refl
spelled_text (Fixed text) whole h = h
spelled_text NoText whole h = absurd h

pub read_text : (rest : List ℕ) (n : ℕ) (kind : Kind) (text : List ℕ) → ReadsAt rest n kind text
    → text ≡ kind_text kind (text_of kind (take n rest))
read_text [] n kind text r =
    let e = read_end n kind text r in
    e.2 ∙ sym (ap₂ (λ k (m : ℕ). kind_text k (text_of k (take m []))) e.1 e.0)
read_text (c ∷ cs) n kind text r =
    let s = spells_token (take n (c ∷ cs)) kind text (read_token c cs n kind text r).1 in
    s.1 ∙ spelled_text (spelling kind) (take n (c ∷ cs)) s.0

-- ---- in the words of the definitions

pub range_given : (s : LexerState) (r : TokenRange) (t : LexerState) → TakesRange (past_ignored s) r t
    → GivesRange s r t
range_given s r t h =
    let j = (past_ignored s).index in
    let rest = drop j s.source in
    let n = r.end.characters - j in
    let kind = r.kind in
    let reads : ReadsAt rest n kind (text_of kind (take n rest)) = (finds_what_reads rest _).0 h.scanned in
    let slice : take n rest ≡ range_slice s.source r = ap (λ i. take (r.end.characters - i) (drop i s.source))
    (sym h.from) in
    let text : text_of kind (take n rest) ≡ kind_text kind (text_of kind (range_slice s.source r)) =
    read_text rest n kind _ reads ∙ ap (λ x. kind_text kind (text_of kind x)) slice in
    let forward : j ≤ r.end.characters = omega (arith, h.from, h.is_range.forward) in
    record {
      stands = stands_to_text s.source s.index (range_lexeme s.source r) t.index (record {
        ignored = ignored_size (drop s.index s.source);
        size = n;
        ignored_is = ignored_is_longest (drop s.index s.source);
        reads = subst (ReadsAt rest n kind) text reads;
        start = ap (place s.source) h.from;
        end = ap (place s.source) (sym h.to);
        next_is = omega (arith, h.to, forward);
      });
      from = omega (arith, h.from);
      to = h.to;
      is_range = h.is_range;
      ends = (λ x. (same_end kind).0 (sym h.ends ∙ x), λ x. h.ends ∙ (same_end kind).1 x);
    }

pub item_given : (s : LexerState) (item : Result TokenRange LexFailure) (t : LexerState)
    → TakesItem (past_ignored s) item t
    → GivesRangeItem s item t
item_given s (Ok range) t h = range_given s range t h
item_given s (Err (failures.Fault fault)) t h = fault_by_scan s fault t h
item_given s (Err failures.Memory) t h = memory_by_scan s t h.0 h.1

pub token_given : (s : LexerState) (r : TokenRange) (token : Spanning Token) (t : LexerState)
    → TakesRange (past_ignored s) r t
    → view_token token ≡ range_lexeme s.source r → GivesToken s token t
token_given s r token t h e =
    let g = range_given s r t h in
    record {
      stands = subst (λ (x : Lexeme). PassesToken s x t.index) (sym e) g.stands;
      ends = subst (λ k. (t.ended ≡ true) ↔ (k ≡ kinds.EndOfFile)) (sym (ap (λ (x : Lexeme). x.kind) e)) g.ends;
    }

pub failure_given : (s : LexerState) (failure : LexFailure) (t : LexerState) → TakesItem (past_ignored s) (Err
    failure) t
    → GivesItem s (Err failure) t
failure_given s (failures.Fault fault) t h = fault_by_scan s fault t h
failure_given s failures.Memory t h = memory_by_scan s t h.0 h.1

-- ---- the steps of a lexer that goes past frequent tokens, and else takes what comes next

module _ (s t : LexerState) (going : s.ended ≡ false) (same : t.source ≡ s.source) where
  pub plain_steps : (r : TokenRange) → TakesFrequent s (Some r) t → range_steps s (Some (Ok r)) t
  plain_steps r h = (going, same, range_given s r t h)

  pub other_steps : (u : LexerState) (item : Result TokenRange LexFailure) → TakesFrequent s None u
      → TakesItem (past_ignored u) item t → range_steps s (Some item) t
  other_steps u item e h = (going, same, item_given s item t (subst (λ x. TakesItem x item t) e h))

  pub other_or_none : (u : LexerState) (item : Result TokenRange LexFailure) → TakesFrequent s None u
      → TakesItem (past_ignored u) item t → range_or_none s (result_ok item) t
  other_or_none u (Ok range) e h = other_steps u (Ok range) e h
  other_or_none u (Err failure) e h = (failure, other_steps u (Err failure) e h)
