use Rattle.std.proofs.Common.{arith}
use Rattle.std.proofs.lemmas.Grind.{elements}
use Rattle.juniper_requests.proofs.fragments.fragment_at.Goals as goal

pub returns-then-at-document : goal.returns-then-at-document
returns-then-at-document g c = grind (arith, elements)

pub returns-in-Fragment : goal.returns-in-Fragment
returns-in-Fragment g c = grind (arith, elements)

pub returns-in-Operation : goal.returns-in-Operation
returns-in-Operation g c = grind (arith, elements)
