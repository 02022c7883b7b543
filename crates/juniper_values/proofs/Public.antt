-- What proofs of other crates may import of this crate's proofs, and all of it.
pub use Rattle.juniper_values.proofs.Copies.{text_replaced, view-replaced}
pub use Rattle.juniper_values.proofs.Displays.{TextsLeft, Writes, all_written, between, key_and_value}
pub use Rattle.juniper_values.proofs.Displays.{next_written, none_written}
pub use Rattle.juniper_values.proofs.Integers.{read, refused}
pub use Rattle.juniper_values.proofs.ReadBack.{plain_unescaped, type_is_cut, value_is_cut}
pub use Rattle.juniper_values.proofs.Reading.{drop_read, nothing_left, prepend, taken, turn}
pub use Rattle.juniper_values.proofs.Trees.{put_field, put_item, view-List, view-Object, view_fields-prepend, view_items-prepend}
pub use Rattle.juniper_values.proofs.WrittenIntegers.{integer_read_back}
