use Rattle.std.proofs.Common.{sym, ap, Ok, arith}
use Rattle.graphql_lexical.specs.Place.{Span}
use Rattle.graphql_grammar.specs.device.Productions.{variables, variables_parts}
use Rattle.juniper_tokens.specs.Spans.{view_span}
use Rattle.juniper_tokens.specs.Taking.{left}
use Rattle.juniper_tokens.proofs.Public.{goes_further}
use Rattle.juniper_tree.specs.Scalars.{stated}
use Rattle.juniper_parser.specs.device.Steps.{cursor}
use Rattle.juniper_parser.proofs.Marks.{marked}
use Rattle.juniper_parser.proofs.parser.variables.parse_variables.Goals as goal

pub returns-clause-gives : goal.returns-clause-gives
unfolding variables
returns-clause-gives g c =
    let on = goes_further _ _ _ c.in_ok-expect.ensures.on c.in_ok-items.ensures.on in
    let tokens = c.parse_variable_list.new.tokens in
    let items = c.in_ok-items.ensures.gives in record {
      part = record { item = items.part; span = view_span c.span_from.result };
      reads = marked _ _ on (omega (arith, c.in_ok-expect.ensures.shorter, c.in_ok-items.ensures.shorter))
          c.span_from.ensures.within
          (cursor (stated g.S.ParseScalarValue.reading g.S.ScalarValue.of_bool) variables_parts (left c.args.tokens.now))
          _ _ c.mark-start.ensures
          (rw (c.in_ok-expect.ensures.gives, items.reads)
          (ap (λ (p : Span). Ok (record { item = items.part; span = p }, left tokens)) (sym c.span_from.ensures.span)));
      is_built = c.variables.ensures _ _ _ c.in_ok-part.ensures items.is_built;
    }
