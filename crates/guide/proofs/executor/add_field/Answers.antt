use Rattle.std.proofs.Common.{◌∙◌, ap}
use Rattle.std.specs.Str.{chars}
use Rattle.guide.proofs.executor.add_field.Goals as goal

pub returns-in-Ok : goal.returns-in-Ok
returns-in-Ok c = (
  (c.in_ok-key.key, c.match-branch-2.value),
  ap chars c.in_ok-key.ensures.ok ∙ c.response_key.ensures,
  c.in-Ok.ensures.put,
)
