use Rattle.std.proofs.Common.{sym, ap, Ok, arith}
use Rattle.graphql_lexical.specs.Place.{Span}
use Rattle.graphql_grammar.specs.device.Productions.{directive, directive_parts}
use Rattle.juniper_tokens.specs.Spans.{view_span}
use Rattle.juniper_tokens.specs.Taking.{left}
use Rattle.juniper_tokens.proofs.Public.{goes_further}
use Rattle.juniper_tree.specs.Scalars.{stated}
use Rattle.juniper_tree.specs.View.{view_located}
use Rattle.juniper_parser.specs.device.Steps.{cursor}
use Rattle.juniper_parser.proofs.Marks.{marked}
use Rattle.juniper_parser.proofs.parser.directives.parse_directive.Goals as goal

pub returns-clause-gives : goal.returns-clause-gives
unfolding directive
returns-clause-gives g c =
    let on = goes_further _ _ _ c.in_ok-expect.ensures.on
    (goes_further _ _ _ c.in_ok-name.ensures.on c.in_ok-arguments.ensures.on) in
    let arguments = c.in_ok-arguments.ensures.gives in
    let name = view_located g.B.Name.SourceText.characters c.in_ok-name.name in record {
      part = record { item = record { name = name; arguments = arguments.part }; span = view_span c.span_from.result };
      reads = marked _ _ on
          (omega (
            arith,
            c.in_ok-expect.ensures.shorter,
            c.in_ok-name.ensures.shorter,
            c.in_ok-arguments.ensures.not_longer,
          ))
          c.span_from.ensures.within
          (cursor (stated g.S.ParseScalarValue.reading g.S.ScalarValue.of_bool) directive_parts (left c.args.tokens.now))
          _ _ c.mark-start.ensures
          (rw (c.in_ok-expect.ensures.gives, c.in_ok-name.ensures.gives, arguments.reads)
          (ap (λ (p : Span). Ok (
            record { item = record { name = name; arguments = arguments.part }; span = p },
            left c.parse_optional_arguments.new.tokens,
          ))
          (sym c.span_from.ensures.span)));
      is_built = c.directive.ensures _ _ _ c.in_ok-part.ensures arguments.is_built;
    }
