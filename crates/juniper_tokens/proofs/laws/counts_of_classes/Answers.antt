use Rattle.std.proofs.Common.{refl}
use Rattle.juniper_tokens.proofs.laws.counts_of_classes.Goals as goal

pub returns : goal.returns
returns c = record {
  white = refl;
  line_feed = refl;
  hash = refl;
  quote = refl;
  dot = refl;
  minus = refl;
  name_start = refl;
  digit = refl;
  punctuator = refl;
  control = refl;
  other = refl;
  inner = refl;
  lead = refl;
}
