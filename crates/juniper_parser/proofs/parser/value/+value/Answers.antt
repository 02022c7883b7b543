use Rattle.std.proofs.Common.{rules, ap, sym, refl, Ok, [], ◌∷◌, ◌++◌}
use Rattle.std.proofs.lemmas.Result.{err_from_is_err_and}
use Rattle.graphql_lexical.specs.Place.{Span}
use Rattle.graphql_grammar.specs.Tree.{ListOf, Object, items_of, fields_of}
use Rattle.graphql_grammar.specs.device.Productions.{list, object}
use Rattle.juniper_tokens.specs.Spans.{view_span}
use Rattle.juniper_tokens.specs.Taking.{left}
use Rattle.juniper_tokens.specs.Cursor.{first_of}
use Rattle.juniper_tokens.proofs.Public.{goes_further, stays}
use Rattle.juniper_parser.proofs.Building.{front_none, each_more}
use Rattle.juniper_parser.proofs.Marks.{closes}
use Rattle.juniper_parser.proofs.Loops.{goes_on, ends, item_fails}
use Rattle.juniper_parser.proofs.Readings.{values_repeat, fields_repeat}
use Rattle.juniper_parser.proofs.parser.value.+value.Goals as goal

pub parse_items-loop-items-init : goal.parse_items-loop-items-init
parse_items-loop-items-init g t c = record {
  parts = [];
  so_far = front_none _;
  built = rw c.none-items.ensures refl;
  not_longer = search rules;
  on = stays _;
}

pub parse_items-returns-then-take_if-clause-gives : goal.parse_items-returns-then-take_if-clause-gives
parse_items-returns-then-take_if-clause-gives g t c = record {
  parts = c.loop-items.invariant.parts;
  closing = _;
  last = sym (c.take_if.ensures.ends c.if-take_if.true);
  reads = ends (values_repeat _ _) _ _ c.take_if.ensures.ended c.loop-items.invariant.so_far
      (rw c.if-take_if.true at c.take_if.ensures.takes);
  is_built = c.loop-items.invariant.built;
}

pub parse_items-returns-in_err-item-clause-gives : goal.parse_items-returns-in_err-item-clause-gives
parse_items-returns-in_err-item-clause-gives g t c =
    let p = err_from_is_err_and c.from_residual.result c.from_residual.ensures.1 in
    rw (p.1, p.2) (item_fails (values_repeat _ _) _ _ c.take_if.ensures.ended
    c.loop-items.invariant.so_far c.in_err-item.field-0.0 _
    (rw c.if-take_if.false at c.take_if.ensures.takes) c.in_err-item.ensures.gives)

pub parse_items-loop-items-preserved : goal.parse_items-loop-items-preserved
parse_items-loop-items-preserved g t c = let made = c.in_ok-item.ensures.gives in record {
  parts = c.loop-items.invariant.parts ++ made.part ∷ [];
  so_far = goes_on (values_repeat _ _) _ _ c.take_if.ensures.ended c.loop-items.invariant.so_far
      (rw c.if-take_if.false at c.take_if.ensures.takes) made.reads;
  built = rw c.in_ok-gather.ensures
      (each_more g.B.Builder.builds_value _ _ _ _ _ _ _ c.loop-items.invariant.built made.is_built);
  not_longer = search rules;
  on = goes_further _ _ _ c.loop-items.invariant.on
      (goes_further _ _ _ c.take_if.ensures.on c.in_ok-item.ensures.on);
}

pub parse_fields-loop-items-init : goal.parse_fields-loop-items-init
parse_fields-loop-items-init g t c = record {
  parts = [];
  so_far = front_none _;
  built = rw c.none-items.ensures refl;
  not_longer = search rules;
  on = stays _;
}

pub parse_fields-returns-then-take_if-clause-gives : goal.parse_fields-returns-then-take_if-clause-gives
parse_fields-returns-then-take_if-clause-gives g t c = record {
  parts = c.loop-items.invariant.parts;
  closing = _;
  last = sym (c.take_if.ensures.ends c.if-take_if.true);
  reads = ends (fields_repeat _ _) _ _ c.take_if.ensures.ended c.loop-items.invariant.so_far
      (rw c.if-take_if.true at c.take_if.ensures.takes);
  is_built = c.loop-items.invariant.built;
}

pub parse_fields-returns-in_err-item-clause-gives : goal.parse_fields-returns-in_err-item-clause-gives
parse_fields-returns-in_err-item-clause-gives g t c =
    let p = err_from_is_err_and c.from_residual.result c.from_residual.ensures.1 in
    rw (p.1, p.2) (item_fails (fields_repeat _ _) _ _ c.take_if.ensures.ended
    c.loop-items.invariant.so_far c.in_err-item.field-0.0 _
    (rw c.if-take_if.false at c.take_if.ensures.takes) c.in_err-item.ensures.gives)

pub parse_fields-loop-items-preserved : goal.parse_fields-loop-items-preserved
parse_fields-loop-items-preserved g t c = let made = c.in_ok-item.ensures.gives in record {
  parts = c.loop-items.invariant.parts ++ made.part ∷ [];
  so_far = goes_on (fields_repeat _ _) _ _ c.take_if.ensures.ended c.loop-items.invariant.so_far
      (rw c.if-take_if.false at c.take_if.ensures.takes) made.reads;
  built = rw c.in_ok-gather.ensures
      (each_more g.B.Builder.builds_field _ _ _ _ _ _ _ c.loop-items.invariant.built made.is_built);
  not_longer = search rules;
  on = goes_further _ _ _ c.loop-items.invariant.on
      (goes_further _ _ _ c.take_if.ensures.on c.in_ok-item.ensures.on);
}

pub parse_list-returns-clause-gives : goal.parse_list-returns-clause-gives
unfolding list
parse_list-returns-clause-gives g t c =
    let opening = (first_of (left c.args.tokens.now)).span in
    let closed = c.in_ok-items.ensures.gives in
    let tokens = c.parse_items.new.tokens in record {
      part = record { item = ListOf (items_of closed.parts); span = view_span c.span_from.result };
      reads = rw (c.in_ok-expect.ensures.gives, closed.reads)
          (ap (λ (p : Span). Ok (record { item = ListOf (items_of closed.parts); span = p }, left tokens))
          (closes opening closed.closing tokens _ _ c.mark-start.ensures closed.last c.span_from.ensures.span));
      is_built = c.list.ensures _ _ closed.parts c.in_ok-part.ensures closed.is_built;
    }

pub parse_object-returns-clause-gives : goal.parse_object-returns-clause-gives
unfolding object
parse_object-returns-clause-gives g t c =
    let opening = (first_of (left c.args.tokens.now)).span in
    let closed = c.in_ok-fields.ensures.gives in
    let tokens = c.parse_fields.new.tokens in record {
      part = record { item = Object (fields_of closed.parts); span = view_span c.span_from.result };
      reads = rw (c.in_ok-expect.ensures.gives, closed.reads)
          (ap (λ (p : Span). Ok (record { item = Object (fields_of closed.parts); span = p }, left tokens))
          (closes opening closed.closing tokens _ _ c.mark-start.ensures closed.last c.span_from.ensures.span));
      is_built = c.object.ensures _ _ closed.parts c.in_ok-part.ensures closed.is_built;
    }
