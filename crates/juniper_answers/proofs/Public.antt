-- What proofs of other crates may import of this crate's proofs, and all of it.
pub use Rattle.juniper_answers.proofs.Copies.{most_within}
pub use Rattle.juniper_answers.proofs.Sizes.{below_object}
pub use Rattle.juniper_answers.proofs.Views.{view-Object}
