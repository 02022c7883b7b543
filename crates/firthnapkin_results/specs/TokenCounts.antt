-- What is returned of a limit on a source's tokens.
use Rattle.std.specs.Prelude.{◌≡◌, ◌<◌, ◌^◌, ◌⊎◌, ℕ, List, [], length, IsUtf8, chars, Result, Ok, Err}
use Rattle.graphql_lexical.specs.Place.{Span}
use Rattle.juniper_tokens.specs.Counting.{HasFew, HasMore}
use Rattle.firthnapkin_results.specs.Errors.{too_many_tokens_error}
use Rattle.firthnapkin_results.specs.Sources.{IsUnread}
use Rattle.firthnapkin_results.specs.declared.source.Unread.{Unread}
use Rattle.firthnapkin_results.specs.declared.source.Unread.TheVariants as unread
use Rattle.firthnapkin_results.specs.declared.count.Counted.{Counted}
use Rattle.firthnapkin_results.specs.declared.count.Counted.TheVariants as counted

-- the statuses of `firthnapkin_count`
abbrev pub IsCountStatus : ℕ → Type 0
IsCountStatus n = (n ≡ 0) ⊎ ((n ≡ 2) ⊎ ((n ≡ 3) ⊎ ((n ≡ 5) ⊎ (n ≡ 7))))

-- whether a source has more tokens than this, or why nothing is said of it; if memory ran out, it has more
abbrev pub ReturnsCounted : List ℕ → ℕ → Result Counted Unread → Type 0
ReturnsCounted source most (Ok counted.Few) = (length source < 2 ^ 32) × IsUtf8 source × HasFew [] (chars source) most
ReturnsCounted source most (Ok (counted.Many error)) = (length source < 2 ^ 32) × IsUtf8 source
    × ((span : Span) × HasMore [] (chars source) most span × (error ≡ too_many_tokens_error (chars source) span))
ReturnsCounted source most (Err unread.OutOfMemory) = (length source < 2 ^ 32) × IsUtf8 source
    × ((span : Span) × HasMore [] (chars source) most span)
ReturnsCounted source most (Err unread.NotUtf8) = IsUnread source unread.NotUtf8
ReturnsCounted source most (Err unread.TooLong) = IsUnread source unread.TooLong
