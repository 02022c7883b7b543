-- What proofs of other crates may import of this crate's proofs, and all of it.
pub use Rattle.streams.proofs.Texts.{utf8_or_not}
