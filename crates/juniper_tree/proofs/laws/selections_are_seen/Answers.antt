use Rattle.std.proofs.Common.{refl}
use Rattle.juniper_tree.proofs.SelectionViews.{view_of_field, view_of_inline}
use Rattle.juniper_tree.proofs.laws.selections_are_seen.Goals as goal

pub returns : goal.returns
returns g c = record {
  field = view_of_field g.S.ParseScalarValue.content;
  fragment_spread = λ f. refl;
  inline_fragment = view_of_inline g.S.ParseScalarValue.content;
}
