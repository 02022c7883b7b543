use Rattle.std.proofs.Common.{ap, arith}
use Rattle.juniper_tokens.specs.declared.lexer.text.Offset.{Offset}
use Rattle.juniper_tokens.proofs.Ranges.{found_fits}
use Rattle.juniper_tokens.proofs.token_range.TokenRange.from_found.Goals as goal

pub overflow_add-result : goal.overflow_add-result
overflow_add-result c = omega (
  arith,
  ap (λ (o : Offset). o.bytes) c.offset-from.ensures,
  (found_fits c.args.source.now c.args.start.byte c.args.start.place c.args.found c.utf8.source
      c.requires.placed c.requires.found).0,
)

pub overflow_add-result-2 : goal.overflow_add-result-2
overflow_add-result-2 c = omega (
  arith,
  ap (λ (o : Offset). o.characters) c.offset-from.ensures,
  (found_fits c.args.source.now c.args.start.byte c.args.start.place
      c.args.found c.utf8.source c.requires.placed c.requires.found).1,
)
