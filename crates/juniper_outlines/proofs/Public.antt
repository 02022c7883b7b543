-- What proofs of other crates may import of this crate's proofs, and all of it.
pub use Rattle.juniper_outlines.proofs.Places.{position_below, take_next}
pub use Rattle.juniper_outlines.proofs.OwnComplexities.{own_have, one_own_more}
