use Rattle.std.proofs.Common.{ap, sym, refl, ◌∙◌, List, [], None, Ok}
use Rattle.juniper_tokens.specs.Cursor.{Read, ◌>>=◌}
use Rattle.juniper_tokens.specs.Taking.{left}
use Rattle.graphql_grammar.specs.Tokens.{Located}
use Rattle.graphql_grammar.specs.Tree.{Directive}
use Rattle.juniper_values.specs.Scalar.{Content}
use Rattle.graphql_grammar.specs.device.Productions.{directives_of, directives}
use Rattle.juniper_parser.proofs.Loops.{before_end, before_none}
use Rattle.juniper_parser.proofs.Readings.{directives_repeat}
use Rattle.juniper_parser.proofs.parser.directives.parse_directives.Goals as goal

pub returns-else-next_is-clause-gives : goal.returns-else-next_is-clause-gives
unfolding directives
returns-else-next_is-clause-gives g c = record {
  part = None;
  reads = ap (λ (r : Read (List (Located (Directive Content)))). r >>= λ ds. Ok (directives_of ds.0, ds.1))
      (before_end (directives_repeat _) [] (left c.args.tokens.now) c.next_is.ensures.ended (before_none _)
      (sym c.next_is.ensures.is ∙ c.if-next_is.false));
  is_built = refl;
}
