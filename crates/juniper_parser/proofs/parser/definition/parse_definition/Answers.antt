use Rattle.std.proofs.Common.{sym, ◌∙◌, arith}
use Rattle.graphql_grammar.specs.device.Productions.{definition, definition_parts}
use Rattle.juniper_tokens.specs.Cursor.{first_of}
use Rattle.juniper_tokens.specs.Taking.{left}
use Rattle.juniper_tokens.proofs.Public.{goes_further}
use Rattle.juniper_tree.specs.Scalars.{stated}
use Rattle.juniper_parser.specs.device.Steps.{cursor}
use Rattle.juniper_parser.proofs.Marks.{marked_builds, on_ok}
use Rattle.juniper_parser.proofs.Names.{says_fragment}
use Rattle.juniper_parser.proofs.Readings.{operation_begins, operation_is_no_end, fragment_begins, shorthand_begins}
use Rattle.juniper_parser.proofs.parser.definition.parse_definition.Goals as goal

pub advance-requires : goal.advance-requires
advance-requires g c =
    operation_is_no_end (left c.args.tokens.now) c.in-Some.operation_type
    (sym c.next_operation.ensures ∙ c.in-Some.is)

pub returns-in-Some-clause-gives : goal.returns-in-Some-clause-gives
unfolding definition
returns-in-Some-clause-gives g c =
    let S = stated g.S.ParseScalarValue.reading g.S.ScalarValue.of_bool in
    let read = c.parse_operation in
    marked_builds (g.B.Builder.builds_definition _ _) c.args.tokens.now read.new.tokens _ c.mark-start.ensures
    (cursor S definition_parts (left c.args.tokens.now)) read.result
    (on_ok read.result (λ h. goes_further _ _ _ c.advance.ensures.on h) read.ensures.on)
    (on_ok read.result (λ h. omega (arith, h, c.advance.ensures.shorter)) read.ensures.shorter) read.ensures.within
    (rw (operation_begins S (left c.args.tokens.now) c.in-Some.operation_type (left c.advance.new.self)
    (sym c.next_operation.ensures ∙ c.in-Some.is) c.advance.ensures.takes) read.ensures.gives)

pub returns-then-next_is_word-clause-gives : goal.returns-then-next_is_word-clause-gives
unfolding definition
returns-then-next_is_word-clause-gives g c =
    let S = stated g.S.ParseScalarValue.reading g.S.ScalarValue.of_bool in
    let read = c.parse_fragment in
    let took = c.advance-then-next_is_word in
    let says = says_fragment (first_of (left c.args.tokens.now)) _ _ c.next_is_word.ensures.is
    c.if-next_is_word.true in
    marked_builds (g.B.Builder.builds_definition _ _) c.args.tokens.now read.new.tokens _ c.mark-start.ensures
    (cursor S definition_parts (left c.args.tokens.now)) read.result
    (on_ok read.result (λ h. goes_further _ _ _ took.ensures.on h) read.ensures.on)
    (on_ok read.result (λ h. omega (arith, h, took.ensures.shorter)) read.ensures.shorter) read.ensures.within
    (rw (fragment_begins S (left c.args.tokens.now) (sym c.next_operation.ensures ∙ c.in-None.is)
    (left took.new.self) says took.ensures.takes) read.ensures.gives)

pub returns-else-next_is_word-clause-gives : goal.returns-else-next_is_word-clause-gives
unfolding definition
returns-else-next_is_word-clause-gives g c =
    let S = stated g.S.ParseScalarValue.reading g.S.ScalarValue.of_bool in
    let read = c.parse_shorthand in
    let says = says_fragment (first_of (left c.args.tokens.now)) _ _ c.next_is_word.ensures.is
    c.if-next_is_word.false in
    marked_builds (g.B.Builder.builds_definition _ _) c.args.tokens.now read.new.tokens _ c.mark-start.ensures
    (cursor S definition_parts (left c.args.tokens.now)) read.result read.ensures.on
    read.ensures.shorter read.ensures.within
    (rw (shorthand_begins S (left c.args.tokens.now) (sym c.next_operation.ensures ∙ c.in-None.is) says)
    read.ensures.gives)
