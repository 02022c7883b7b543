use Rattle.std.proofs.Common.{refl}
use Rattle.graphql_lexical.specs.declared.kind.Kind.TheVariants.{Colon}
use Rattle.juniper_parser.proofs.Cursors.{took}
use Rattle.juniper_parser.proofs.parser.selection.parse_names.Goals as goal

pub returns-in_ok-name-clause-gives : goal.returns-in_ok-name-clause-gives
returns-in_ok-name-clause-gives g c =
    let colon = took Colon _ _ refl c.take_if.ensures.ended (rw c.if-take_if.true at c.take_if.ensures.takes) in
    rw (c.in_ok-first.ensures.gives, colon.0, colon.1, c.in_ok-name.ensures.gives) refl
