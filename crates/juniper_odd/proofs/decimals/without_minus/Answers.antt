use Rattle.std.proofs.Common.{arith}
use Rattle.std.specs.Prelude.{None}
use Rattle.std.proofs.lemmas.Str.Pattern.{strip_prefix_char}
use Rattle.juniper_odd.proofs.Parts.{no_minus}
use Rattle.juniper_odd.proofs.decimals.without_minus.Goals as goal

pub returns-in-None : goal.returns-in-None
returns-in-None c = no_minus c.args.text.now (strip_prefix_char 45 c.args.text.now None c.in-None.ensures.cases
    (omega arith))
