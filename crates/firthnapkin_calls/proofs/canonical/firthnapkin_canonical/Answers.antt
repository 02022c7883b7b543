use Rattle.std.proofs.Common.{ap, arith, length}
use Rattle.firthnapkin_results.proofs.Public.{canonical_within}
use Rattle.firthnapkin_calls.proofs.canonical.firthnapkin_canonical.Goals as goal

pub returns-in-Ok-Text-clause-bounds : goal.returns-in-Ok-Text-clause-bounds
returns-in-Ok-Text-clause-bounds c =
    let found = (rw c.in-Ok-Text.field-0-is at c.in-Ok-Text.ensures).1 in
    omega (
      arith,
      canonical_within c.args.source.now found.0 found.1,
      ap length found.2,
      ap length c.as_bytes.ensures.value,
      c.fill.ensures.count,
    )
