-- What proofs of other crates may import of this crate's proofs, and all of it.
pub use Rattle.juniper_tree.proofs.SelectionViews.{selections_are, view_of_field, view_of_inline}
pub use Rattle.juniper_tree.proofs.ValueViews.{in_place, view_of_list, view_of_object}
