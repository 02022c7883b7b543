-- What proofs of other crates may import of this crate's proofs, and all of it.
pub use Rattle.juniper_nodes.proofs.Literals.{custom_no, no_custom, same_texts, shown_back}
pub use Rattle.juniper_nodes.proofs.NodeTexts.{texts_are_short}
pub use Rattle.juniper_nodes.proofs.ShortContents.{MakesShort, ReadsShort, default_is_short, of_block_means, string_kept, without_text}
pub use Rattle.juniper_nodes.proofs.TypeTexts.{type-text}
