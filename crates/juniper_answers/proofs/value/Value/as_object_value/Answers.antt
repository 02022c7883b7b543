use Rattle.std.proofs.Common.{refl}
use Rattle.juniper_answers.proofs.Views.{view-Object}
use Rattle.juniper_answers.proofs.value.Value.as_object_value.Goals as goal

pub returns-in-Object : goal.returns-in-Object
returns-in-Object g c = rw (c.in-Object.is, view-Object (λ s. s) c.in-Object.object) refl
