use Rattle.std.proofs.Common.{refl, sym, ap, Ok, None}
use Rattle.graphql_lexical.specs.Place.{Span}
use Rattle.graphql_grammar.specs.Tree as tree
use Rattle.graphql_grammar.specs.declared.operation.OperationType.TheVariants.{Query}
use Rattle.graphql_grammar.specs.device.Productions.{shorthand}
use Rattle.juniper_tokens.specs.Spans.{view_span}
use Rattle.juniper_tokens.specs.Taking.{left}
use Rattle.juniper_parser.proofs.parser.definition.parse_shorthand.Goals as goal

pub returns-clause-gives : goal.returns-clause-gives
unfolding shorthand
returns-clause-gives g c = let set = c.in_ok-selection_set.ensures.gives in record {
  part = tree.Operation Query None None None set.part (view_span c.span_from-span.result);
  reads = rw set.reads (ap (λ (p : Span). Ok (tree.Operation Query None None None set.part p, left c.parse_selection_set.new.tokens))
      (sym c.span_from-span.ensures.span));
  is_built = c.operation.ensures _ _ _ _ None None _ c.in_ok-part.ensures refl refl set.is_built;
}
