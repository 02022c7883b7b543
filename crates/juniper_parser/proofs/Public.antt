-- What proofs of other crates may import of this crate's proofs, and all of it.
pub use Rattle.juniper_parser.proofs.Building.{each_more, seen_trees}
pub use Rattle.juniper_parser.proofs.Literals.{answers_type, answers_value}
pub use Rattle.juniper_parser.proofs.Loops.{before_none, before_others, some_end, some_go_on, some_item_fails}
pub use Rattle.juniper_parser.proofs.Readings.{definition_taken, definitions_repeat, document_seen}
pub use Rattle.juniper_parser.proofs.Stepping.{seen_took}
