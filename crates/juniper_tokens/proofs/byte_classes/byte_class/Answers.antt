use Rattle.std.proofs.Common.{arith}
use Rattle.juniper_tokens.specs.declared.byte_classes.ByteClass.TheVariants.{White}
use Rattle.juniper_tokens.specs.ByteClasses.{class_of}
use Rattle.juniper_tokens.proofs.ByteClasses.{in_table}
use Rattle.juniper_tokens.proofs.byte_classes.byte_class.Goals as goal

pub returns : goal.returns
returns c = in_table class_of c.args.byte White (omega arith)
