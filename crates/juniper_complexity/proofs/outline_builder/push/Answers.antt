use Rattle.juniper_complexity.proofs.outline_builder.push.Goals as goal

pub returns : goal.returns
returns g c = c.in_ok-push.ensures.items
