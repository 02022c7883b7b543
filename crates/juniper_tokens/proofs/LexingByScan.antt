-- From the computed scan to the definitions, and from place to place of a source.
use Rattle.std.proofs.Common.{◌≡◌, ℕ, ◌+◌, ◌≤◌, ◌<◌, ◌^◌, true, List, length, take, drop, refl, sym, ap, ap₂, subst, ◌∙◌, arith, rules, length-drop}
use Rattle.std.specs.Prelude.{Result, Ok, Err, ◌↔◌}
use Rattle.std.specs.List.{fold}
use Rattle.std.specs.Str.{chars, IsUtf8}
use Rattle.std.proofs.lemmas.List.{length-take-le}
use Rattle.std.proofs.lemmas.Str.{length-le-encodes}
use denote.Enum.Bare.{same_true}
use Rattle.graphql_lexical.specs.contracts.kind.Kind.{the_type}
use Rattle.graphql_lexical.specs.declared.kind.Kind.{Kind}
use Rattle.graphql_lexical.specs.declared.kind.Kind.TheVariants.{EndOfFile}
use Rattle.graphql_lexical.specs.Kinds.{same_kind, LexicalError, UnknownEscapeSequence}
use Rattle.graphql_lexical.specs.Kinds as errors
use Rattle.graphql_lexical.specs.Place.{Place, place, past_character}
use Rattle.graphql_lexical.specs.device.Scan.{Found, Missed, scan, ignored_size}
use Rattle.graphql_lexical.proofs.Public.{there_to_text, misses_what_fails, ignored_is_longest, place_index}
use Rattle.juniper_tokens.specs.declared.span.Spanning.{Spanning}
use Rattle.juniper_tokens.specs.declared.error.LexerError.{LexerError}
use Rattle.juniper_tokens.specs.Errors.{view_lexer_error}
use Rattle.juniper_tokens.specs.device.BytePlaces.{BytePlace, byte_place}
use Rattle.juniper_tokens.specs.device.ByteRuns.{byte_at}
use Rattle.juniper_tokens.specs.device.Scans.{IsEscape}
use Rattle.juniper_tokens.specs.device.Scans as scans
use Rattle.juniper_tokens.specs.Lexing.{LexerState, MeetsError, GivesFault, WantsMemory}
use Rattle.juniper_tokens.specs.device.LexingByScan.{IsPlaced, past_ignored}
use Rattle.juniper_tokens.specs.device.Ranges.{FailsThere}
use Rattle.juniper_tokens.proofs.Offsets.{byte_at_on}
use Rattle.juniper_tokens.proofs.Places.{place_on}

-- from one place to the next
pub placed_on : (source : List ℕ) (at g n : ℕ) (p q : Place) → IsPlaced source at p
    → g ≤ length (drop p.index (chars source)) → n ≡ byte_at g (drop p.index (chars source))
    → q ≡ place (chars source) (p.index + g) → (q.index ≡ p.index + g) × IsPlaced source (at + n) q
placed_on source at g n p q h l e s =
    let within : p.index + g ≤ length (chars source) = omega (arith, l, h.within, length-drop p.index (chars source)) in
    let index : q.index ≡ p.index + g = ap (λ (x : Place). x.index) s
    ∙ place_index (chars source) (p.index + g) within in (
      index,
      record {
        byte_is = ap₂ (λ a b. a + b) h.byte_is e
            ∙ (byte_at_on p.index g (chars source) ∙ ap (λ k. byte_at k (chars source)) (sym index));
        place_is = s ∙ ap (place (chars source)) (sym index);
        within = subst (λ k. k ≤ length (chars source)) (sym index) within;
        fits = h.fits;
      },
    )

-- a place of a source
pub placed_at : (source : List ℕ) (k : ℕ) → k ≤ length (chars source) → length source < 2 ^ 64
    → IsPlaced source (byte_at k (chars source)) (place (chars source) k)
placed_at source k within fits =
    let index : (place (chars source) k).index ≡ k = place_index (chars source) k within in
    record {
      byte_is = ap (λ i. byte_at i (chars source)) (sym index);
      place_is = ap (place (chars source)) (sym index);
      within = omega (arith, index, within);
      fits = fits;
    }

-- and each one with its byte is so
pub byte_place_is : (source : List ℕ) (p : BytePlace) → IsPlaced source p.byte p.place
    → p ≡ byte_place (chars source) p.place.index
byte_place_is source p h = ap₂ (λ (b : ℕ) (q : Place). record { byte = b; place = q }) h.byte_is h.place_is

pub chars_fit : (at n : ℕ) (p : Place) (source rest : List ℕ) → IsPlaced source at p → at + length rest ≡ length source
    → IsUtf8 rest → chars rest ≡ drop p.index (chars source) → p.index + length rest < 2 ^ 64
chars_fit at n p source rest h e u c =
    omega (
      arith,
      e,
      h.fits,
      h.byte_is,
      length-le-encodes (take p.index (chars source)),
      length-take-le p.index (chars source) h.within,
    )

pub fault_placed : (source rest : List ℕ) (at k : ℕ) (p : Place) → IsPlaced source at p
    → chars rest ≡ drop p.index (chars source)
    → fold past_character p (take k (chars rest)) ≡ place (chars source) (p.index + k)
fault_placed source rest at k p h c = ap₂ (λ s t. fold past_character s (take k t)) h.place_is c
    ∙ place_on (chars source) p.index k

-- ---- in the words of the definitions

pub same_end : (kind : Kind) → (same_kind kind EndOfFile ≡ true) ↔ (kind ≡ EndOfFile)
same_end kind = (λ e. same_true the_type (search rules) kind EndOfFile e, λ e. ap (λ k. same_kind k EndOfFile) e)

pub breaks_by_scan : (s : LexerState) (m : Missed) → scan (drop (past_ignored s).index s.source) ≡ Err m
    → MeetsError s m.error (place s.source ((past_ignored s).index + m.at))
breaks_by_scan s m e =
    there_to_text s.source s.index (ignored_size (drop s.index s.source)) m.at m.error
    (ignored_is_longest (drop s.index s.source))
    ((misses_what_fails (drop (past_ignored s).index s.source) m).0 e)

pub fault_by_scan : (s : LexerState) (fault : Spanning LexerError) (t : LexerState)
    → FailsThere (past_ignored s) fault t
    → GivesFault s fault t
fault_by_scan s fault t h = record {
  breaks =
      subst (MeetsError s (view_lexer_error fault.item)) (sym h.start)
      (breaks_by_scan s (record { at = h.size; error = view_lexer_error fault.item }) h.scanned);
  zero_width = h.end;
  ends = h.ends;
}

pub memory_by_scan : (s t : LexerState) → scans.MissesEscape (scan (drop (past_ignored s).index s.source))
    → t.ended ≡ true
    → WantsMemory s t
memory_by_scan s t h e = by_scan (scan (drop (past_ignored s).index s.source)) refl h
  where
    by_error : (m : Missed) (error : LexicalError) → m.error ≡ error → IsEscape error
        → scan (drop (past_ignored s).index s.source) ≡ Err m → WantsMemory s t
    by_error m (UnknownEscapeSequence text) i w x =
        record {
          text = text;
          at = place s.source ((past_ignored s).index + m.at);
          breaks =
              subst (λ (q : LexicalError). MeetsError s q (place s.source ((past_ignored s).index + m.at)))
              i (breaks_by_scan s m x);
          ends = e;
        }
    by_error m (errors.UnknownCharacter c) i w x = absurd w
    by_error m (errors.UnexpectedCharacter c) i w x = absurd w
    by_error m errors.UnterminatedString i w x = absurd w
    by_error m (errors.UnknownCharacterInString c) i w x = absurd w
    by_error m errors.UnexpectedEndOfFile i w x = absurd w
    by_error m errors.InvalidNumber i w x = absurd w

    by_scan : (r : Result Found Missed) → scan (drop (past_ignored s).index s.source) ≡ r → scans.MissesEscape r
        → WantsMemory s t
    by_scan (Ok f) x w = absurd w
    by_scan (Err m) x w = by_error m m.error refl w x
