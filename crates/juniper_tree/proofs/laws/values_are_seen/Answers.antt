use Rattle.juniper_tree.proofs.ValueViews.{view_of_null, view_of_scalar, view_of_enum, view_of_variable, view_of_list, view_of_object}
use Rattle.juniper_tree.proofs.laws.values_are_seen.Goals as goal

pub returns : goal.returns
returns g c = record {
  null = view_of_null g.S.ParseScalarValue.content;
  scalar = view_of_scalar g.S.ParseScalarValue.content;
  enum_value = view_of_enum g.S.ParseScalarValue.content;
  variable = view_of_variable g.S.ParseScalarValue.content;
  list = view_of_list g.S.ParseScalarValue.content;
  object = view_of_object g.S.ParseScalarValue.content;
}
