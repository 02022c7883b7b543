-- What proofs of other crates may import of this crate's proofs, and all of it.
pub use Rattle.juniper_complexity.proofs.OutlineBuilders.{kept_each, kept_optional, kept_directives, directives_counted}
pub use Rattle.juniper_complexity.proofs.OutlineBuilders.{gathers_optional_set, gathers_set, gathers_field}
pub use Rattle.juniper_complexity.proofs.OutlineBuilders.{gathers_inline, gathers_spread, gathers_definition}
pub use Rattle.juniper_complexity.proofs.OutlineBuilders.{gathers_directives, gathers_operation}
pub use Rattle.juniper_complexity.proofs.Variables.{gathers_optional_variables}
pub use Rattle.juniper_complexity.proofs.OutlinedOperations.{own_mean}
