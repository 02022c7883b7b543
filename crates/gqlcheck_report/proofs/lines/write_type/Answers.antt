use Rattle.std.proofs.Common.{ap, rules}
use Rattle.std.specs.Str.{encode_utf8_all}
use Rattle.gqlcheck_report.proofs.LineBytes.{after_space}
use Rattle.juniper_nodes.proofs.Public.{type-text}
use Rattle.gqlcheck_report.proofs.lines.write_type.Goals as goal

pub returns : goal.returns
returns c = rw (after_space _ _ (ap encode_utf8_all (type-text c.args.literal.now))) (search rules)
