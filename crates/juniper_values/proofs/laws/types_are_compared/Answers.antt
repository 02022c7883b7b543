use Rattle.juniper_values.proofs.Wraps.{same_type-Decides}
use Rattle.juniper_values.proofs.laws.types_are_compared.Goals as goal

pub returns : goal.returns
returns g c = same_type-Decides g.N.NameText.name_text
