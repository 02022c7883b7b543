use Rattle.std.proofs.Common.{refl, rules}
use Rattle.juniper_answers.specs.declared.value.Value.{the_lemmas}
use Rattle.juniper_answers.proofs.Views.{view-Object}
use Rattle.juniper_answers.proofs.value.Value.as_mut_object_value.Goals as goal

pub returns-in-Object : goal.returns-in-Object
returns-in-Object g c = (
  (refl, λ w. rw c.in-Object.is (search (rules, the_lemmas)), refl),
  rw (c.in-Object.is, view-Object (λ s. s) c.in-Object.object) (search (rules, the_lemmas)),
)
