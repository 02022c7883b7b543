use Rattle.std.proofs.Common.{rules, refl, sym, ap, ◌∙◌, Ok, [], ◌∷◌, ◌++◌, arith}
use Rattle.std.proofs.lemmas.Result.{err_from_is_err_and}
use Rattle.std.specs.Prelude.{option_map}
use Rattle.graphql_lexical.specs.Place.{Span}
use Rattle.graphql_grammar.specs.Tree as tree
use Rattle.graphql_grammar.specs.device.Productions.{selection_set, field, field_parts, spread, spread_parts, optional_of}
use Rattle.juniper_tokens.specs.Cursor.{first_of}
use Rattle.juniper_tokens.specs.Spans.{view_span}
use Rattle.juniper_tokens.specs.Taking.{left}
use Rattle.juniper_tokens.proofs.Public.{goes_further, some_taken, stays}
use Rattle.juniper_tree.specs.View.{view_located}
use Rattle.juniper_tree.specs.Scalars.{stated}
use Rattle.juniper_parser.specs.device.Steps.{cursor}
use Rattle.juniper_parser.proofs.Building.{each_more, optional_set_builds, set_builds}
use Rattle.juniper_parser.proofs.Loops.{before_none, some_go_on, some_end, some_item_fails}
use Rattle.juniper_parser.proofs.Marks.{marked, marked_builds, on_ok}
use Rattle.juniper_parser.proofs.Fragments.{inline_is, other_is_a_name, other_is_not_on}
use Rattle.juniper_parser.proofs.Readings.{selections_repeat}
use Rattle.juniper_parser.proofs.parser.selection.+selection.Goals as goal

pub parse_selection_list-loop-items-init : goal.parse_selection_list-loop-items-init
parse_selection_list-loop-items-init g t c = record {
  parts = [];
  so_far = before_none _;
  built = rw c.none-items.ensures refl;
  not_longer = search rules;
  on = stays _;
}

pub parse_selection_list-returns-in_err-item-clause-gives : goal.parse_selection_list-returns-in_err-item-clause-gives
parse_selection_list-returns-in_err-item-clause-gives g t c =
    let p = err_from_is_err_and c.from_residual.result c.from_residual.ensures.1 in
    rw (p.1, p.2) (some_item_fails (selections_repeat _) _ _ c.loop-items.invariant.so_far
    c.in_err-item.field-0.0 _ c.in_err-item.ensures.gives)

pub parse_selection_list-returns-then-take_if-clause-gives : goal.parse_selection_list-returns-then-take_if-clause-gives
parse_selection_list-returns-then-take_if-clause-gives g t c = let made = c.in_ok-item.ensures.gives in record {
  part = c.loop-items.invariant.parts ++ made.part ∷ [];
  reads = some_end (selections_repeat _) _ _ c.loop-items.invariant.so_far made.reads
      c.take_if.ensures.ended (rw c.if-take_if.true at c.take_if.ensures.takes);
  is_built = rw c.in_ok-gather.ensures
      (each_more g.B.Builder.builds_selection _ _ _ _ _ _ _ c.loop-items.invariant.built made.is_built);
}

pub parse_selection_list-loop-items-preserved : goal.parse_selection_list-loop-items-preserved
parse_selection_list-loop-items-preserved g t c = let made = c.in_ok-item.ensures.gives in record {
  parts = c.loop-items.invariant.parts ++ made.part ∷ [];
  so_far = some_go_on (selections_repeat _) _ _ c.loop-items.invariant.so_far made.reads
      c.take_if.ensures.ended (rw c.if-take_if.false at c.take_if.ensures.takes);
  built = rw c.in_ok-gather.ensures
      (each_more g.B.Builder.builds_selection _ _ _ _ _ _ _ c.loop-items.invariant.built made.is_built);
  not_longer = search rules;
  on = goes_further _ _ _ c.loop-items.invariant.on
      (goes_further _ _ _ c.in_ok-item.ensures.on c.take_if.ensures.on);
}

pub parse_selection_set-returns-clause-gives : goal.parse_selection_set-returns-clause-gives
unfolding selection_set
parse_selection_set-returns-clause-gives g t c =
    rw c.in_ok-expect.ensures.gives
    (set_builds g.B.Builder.builds_selection g.B.Selections.Gather.gathered _ _ _ _ _ c.parse_selection_list.ensures.gives)

pub parse_selection_set-returns-clause-on : goal.parse_selection_set-returns-clause-on
parse_selection_set-returns-clause-on g t c =
    on_ok c.parse_selection_list.result (goes_further _ _ _ c.in_ok-expect.ensures.on)
    c.parse_selection_list.ensures.on

pub parse_field-returns-clause-gives : goal.parse_field-returns-clause-gives
unfolding field
parse_field-returns-clause-gives g t c =
    let on = goes_further _ _ _ c.in_ok-alias.ensures.on
    (goes_further _ _ _ c.in_ok-arguments.ensures.on
    (goes_further _ _ _ c.in_ok-directives.ensures.on c.in_ok-selection_set.ensures.on)) in
    let characters = g.B.Name.SourceText.characters in
    let arguments = c.in_ok-arguments.ensures.gives in
    let directives = c.in_ok-directives.ensures.gives in
    let set = c.in_ok-selection_set.ensures.gives in record {
      part = tree.Field (option_map (view_located characters) c.in_ok-alias.alias)
          (view_located characters c.in_ok-alias.name) arguments.part directives.part (optional_of set.part)
          (view_span c.span_from-span.result);
      reads = marked _ _ on
          (omega (
            arith,
            c.in_ok-alias.ensures.shorter,
            c.in_ok-arguments.ensures.not_longer,
            c.in_ok-directives.ensures.not_longer,
            c.in_ok-selection_set.ensures.not_longer,
          ))
          c.span_from-span.ensures.within
          (cursor (stated g.S.ParseScalarValue.reading g.S.ScalarValue.of_bool) field_parts (left c.args.tokens.now))
          _ _ c.mark-start.ensures
          (rw (c.in_ok-alias.ensures.gives, arguments.reads, directives.reads, set.reads)
          (ap (λ (p : Span). Ok (
            tree.Field (option_map (view_located characters) c.in_ok-alias.alias)
                (view_located characters c.in_ok-alias.name) arguments.part directives.part (optional_of set.part) p,
            left c.parse_optional_selection_set.new.tokens,
          )) (sym c.span_from-span.ensures.span)));
      is_built = c.field.ensures _ _ _ _ _ _ _ c.in_ok-part.ensures arguments.is_built directives.is_built
          (optional_set_builds g.B.Builder.builds_selection g.B.Selections.Gather.gathered _ _ _ _ set.is_built);
    }

pub parse_field-span_from-span-requires : goal.parse_field-span_from-span-requires
parse_field-span_from-span-requires g t c =
    some_taken _ _ (goes_further _ _ _ c.in_ok-alias.ensures.on
    (goes_further _ _ _ c.in_ok-arguments.ensures.on
    (goes_further _ _ _ c.in_ok-directives.ensures.on c.in_ok-selection_set.ensures.on)))
    (omega (
      arith,
      c.in_ok-alias.ensures.shorter,
      c.in_ok-arguments.ensures.not_longer,
      c.in_ok-directives.ensures.not_longer,
      c.in_ok-selection_set.ensures.not_longer,
    ))

pub parse_field-returns-clause-on : goal.parse_field-returns-clause-on
parse_field-returns-clause-on g t c =
    goes_further _ _ _ c.in_ok-alias.ensures.on
    (goes_further _ _ _ c.in_ok-arguments.ensures.on
    (goes_further _ _ _ c.in_ok-directives.ensures.on c.in_ok-selection_set.ensures.on))

pub parse_spread-returns-then-next_is_fragment_name-clause-gives : goal.parse_spread-returns-then-next_is_fragment_name-clause-gives
unfolding spread
parse_spread-returns-then-next_is_fragment_name-clause-gives g t c =
    let S = stated g.S.ParseScalarValue.reading g.S.ScalarValue.of_bool in
    let dots = c.in_ok-expect.ensures in
    let read = c.parse_named_spread in
    let next = first_of (left c.expect.new.tokens) in
    let name = sym c.next_is_fragment_name.ensures.is ∙ c.if-next_is_fragment_name.true in
    marked_builds (g.B.Builder.builds_selection _ _) c.args.tokens.now read.new.tokens _ c.mark-start.ensures
    (cursor S spread_parts (left c.args.tokens.now)) read.result
    (on_ok read.result (λ h. goes_further _ _ _ dots.on h) read.ensures.on)
    (on_ok read.result (λ h. omega (arith, h, dots.shorter)) read.ensures.shorter)
    read.ensures.within
    (rw (dots.gives, other_is_not_on next name, name) (rw (other_is_a_name next name) at read.ensures.gives))

pub parse_spread-returns-else-next_is_fragment_name-clause-gives : goal.parse_spread-returns-else-next_is_fragment_name-clause-gives
unfolding spread
parse_spread-returns-else-next_is_fragment_name-clause-gives g t c =
    let S = stated g.S.ParseScalarValue.reading g.S.ScalarValue.of_bool in
    let dots = c.in_ok-expect.ensures in
    let read = c.parse_inline_fragment in
    let next = first_of (left c.expect.new.tokens) in
    let none = sym c.next_is_fragment_name.ensures.is ∙ c.if-next_is_fragment_name.false in
    marked_builds (g.B.Builder.builds_selection _ _) c.args.tokens.now read.new.tokens _ c.mark-start.ensures
    (cursor S spread_parts (left c.args.tokens.now)) read.result
    (on_ok read.result (λ h. goes_further _ _ _ dots.on h) read.ensures.on)
    (on_ok read.result (λ h. omega (arith, h, dots.shorter)) read.ensures.shorter) read.ensures.within
    (rw (dots.gives, inline_is S _ none) read.ensures.gives)
