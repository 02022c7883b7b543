use Rattle.std.proofs.Common.{refl}
use Rattle.juniper_values.specs.Default.{default_content}
use Rattle.juniper_tree.specs.View.{view_document}
use Rattle.guide.proofs.limiter.parse_affordable.Goals as goal

pub returns-clause-accepted : goal.returns-clause-accepted
returns-clause-accepted c = record {
  read = record { tree_is = c.in-Ok.ensures.accepted; few = c.in-Ok.ensures.few; shallow = c.in-Ok.ensures.within };
  complexities = c.in-Ok-operation_complexities.complexities.items;
  have = rw (c.deref.ensures.value) at (c.in-Ok-operation_complexities.ensures.complexities);
  below = rw (c.deref-2.ensures.value) at (c.in_default.ensures.none refl);
}

pub returns-in-Some-clause-refused : goal.returns-in-Some-clause-refused
returns-in-Some-clause-refused c = (
  view_document default_content c.in-Ok.document,
  record { tree_is = c.in-Ok.ensures.accepted; few = c.in-Ok.ensures.few; shallow = c.in-Ok.ensures.within },
  c.in-Ok-operation_complexities.complexities.items,
  rw (c.deref.ensures.value) at (c.in-Ok-operation_complexities.ensures.complexities),
  rw (c.deref-2.ensures.value) at (c.in-Some.ensures.some),
)
