use Rattle.std.proofs.Common.{rules, refl, [], ◌∷◌, ◌++◌}
use Rattle.std.proofs.lemmas.Result.{err_from_is_err_and}
use Rattle.juniper_tokens.proofs.Public.{goes_further, stays}
use Rattle.juniper_parser.proofs.Building.{each_more}
use Rattle.juniper_parser.proofs.Loops.{before_none, some_go_on, some_end, some_item_fails}
use Rattle.juniper_parser.proofs.Readings.{variables_repeat}
use Rattle.juniper_parser.proofs.parser.variables.parse_variable_list.Goals as goal

pub loop-items-init : goal.loop-items-init
loop-items-init g c = record {
  parts = [];
  so_far = before_none _;
  built = rw c.none-items.ensures refl;
  not_longer = search rules;
  on = stays _;
}

pub returns-in_err-item-clause-gives : goal.returns-in_err-item-clause-gives
returns-in_err-item-clause-gives g c =
    let p = err_from_is_err_and c.from_residual.result c.from_residual.ensures.1 in
    rw (p.1, p.2) (some_item_fails (variables_repeat _) _ _ c.loop-items.invariant.so_far
    c.in_err-item.field-0.0 _ c.in_err-item.ensures.gives)

pub returns-then-take_if-clause-gives : goal.returns-then-take_if-clause-gives
returns-then-take_if-clause-gives g c = let made = c.in_ok-item.ensures.gives in record {
  part = c.loop-items.invariant.parts ++ made.part ∷ [];
  reads = some_end (variables_repeat _) _ _ c.loop-items.invariant.so_far made.reads
      c.take_if.ensures.ended (rw c.if-take_if.true at c.take_if.ensures.takes);
  is_built = rw c.in_ok-gather.ensures
      (each_more g.B.Builder.builds_variable _ _ _ _ _ _ _ c.loop-items.invariant.built made.is_built);
}

pub loop-items-preserved : goal.loop-items-preserved
loop-items-preserved g c = let made = c.in_ok-item.ensures.gives in record {
  parts = c.loop-items.invariant.parts ++ made.part ∷ [];
  so_far = some_go_on (variables_repeat _) _ _ c.loop-items.invariant.so_far made.reads
      c.take_if.ensures.ended (rw c.if-take_if.false at c.take_if.ensures.takes);
  built = rw c.in_ok-gather.ensures
      (each_more g.B.Builder.builds_variable _ _ _ _ _ _ _ c.loop-items.invariant.built made.is_built);
  not_longer = search rules;
  on = goes_further _ _ _ c.loop-items.invariant.on
      (goes_further _ _ _ c.in_ok-item.ensures.on c.take_if.ensures.on);
}
