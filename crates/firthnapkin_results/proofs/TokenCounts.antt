-- The numbers of a token fit.
use Rattle.std.proofs.Common.{◌≡◌, ◌<◌, ◌^◌, ℕ, List, [], ◌++◌, length, ap, sym, subst, arith}
use Rattle.std.specs.Str.{chars, IsUtf8}
use Rattle.std.proofs.lemmas.List.{length-append}
use Rattle.graphql_lexical.specs.Place.{Span}
use Rattle.graphql_lexical.specs.Characters.{Text}
use Rattle.graphql_lexical.specs.Cutting.{Lexeme, Stands}
use Rattle.graphql_lexical.proofs.Public.{done_whole, leads_whole}
use Rattle.juniper_tokens.specs.Counting.{HasMore}
use Rattle.firthnapkin_results.specs.Fits.{PositionFits, SpanFits}
use Rattle.firthnapkin_results.proofs.Fitting.{few_characters, position_after_fits}

-- the numbers of a token
pub token_fits : (before left : Text) (x : Lexeme) (done after : Text) → Stands before left x done after → (span : Span)
    → span ≡ x.span → length (before ++ left) < 2 ^ 32 → SpanFits span
token_fits before left x done after s span at l =
    let whole = ap length (done_whole before left x done after s) in
    let end : length done < 2 ^ 32 = omega (arith, l, whole, length-append done after) in
    let start : length (before ++ s.ignored) < 2 ^ 32 = omega (
      arith,
      end,
      ap length s.done_is,
      length-append before s.ignored,
      length-append before (s.ignored ++ s.whole),
      length-append s.ignored s.whole,
    ) in
    subst SpanFits (sym at) (
      subst PositionFits (sym s.start) (position_after_fits (before ++ s.ignored) start),
      subst PositionFits (sym s.end) (position_after_fits done end),
    )

-- those of the first token too many
pub many_fits : (text : List ℕ) → IsUtf8 text → length text < 2 ^ 32 → (most : ℕ) (span : Span)
    → HasMore [] (chars text) most span → SpanFits span
many_fits text u l most span m =
    token_fits m.done m.rest m.token m.past m.after m.stands span m.at
    (subst (λ (t : Text). length t < 2 ^ 32) (leads_whole [] (chars text) m.done m.rest m.front m.leads)
    (few_characters text u l))
