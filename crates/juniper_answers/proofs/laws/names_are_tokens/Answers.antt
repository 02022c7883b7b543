use Rattle.juniper_answers.proofs.Naming.{name_is_token}
use Rattle.juniper_answers.proofs.laws.names_are_tokens.Goals as goal

pub returns : goal.returns
returns c = name_is_token
