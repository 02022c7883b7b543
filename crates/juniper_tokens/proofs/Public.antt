-- What proofs of other crates may import of this crate's proofs, and all of it.
pub use Rattle.juniper_tokens.proofs.Offsets.{ascii_first, byte_at_boundary, chars_drop, chars_take, chars_within}
pub use Rattle.juniper_tokens.proofs.ByteRuns.{inner_high, inner_low, low_or_high, wide}
pub use Rattle.juniper_tokens.proofs.Counting.{few_not_more, few_or_more}
pub use Rattle.juniper_tokens.proofs.Gathering.{Gathered, gathered_open, gathered_token}
pub use Rattle.juniper_tokens.proofs.Lanes.{counted}
pub use Rattle.juniper_tokens.proofs.Rests.{follows, on_memory}
pub use Rattle.juniper_tokens.proofs.Taking.{goes_further, more_taken, rest_of, some_taken, stays}
pub use Rattle.juniper_tokens.proofs.Texts.{pointwise-chars}
