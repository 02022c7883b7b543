-- What proofs of other crates may import of this crate's proofs, and all of it.
pub use Rattle.firthnapkin_results.proofs.CanonicalTexts.{canonical_within}
pub use Rattle.firthnapkin_results.proofs.HeldTokens.{error_after, few_before, few_in_limit, few_tokens}
pub use Rattle.firthnapkin_results.proofs.TokenTexts.{tells_text}
