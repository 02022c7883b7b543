use Rattle.std.proofs.Common.{refl}
use Rattle.std.proofs.lemmas.Grind.{put_two}
use Rattle.juniper_values.proofs.Types.{opening_more}
use Rattle.juniper_values.proofs.type_literal.write_openings.Goals as goal

pub loop-modifier-preserved : goal.loop-modifier-preserved
loop-modifier-preserved g c p =
    let i = c.loop-modifier.invariant p in
    put_two _ _ _ _ _ _ _ i (c.in_ok-write_str.ensures.writes i.plain refl)
    (opening_more c.args.modifiers.now c.loop-modifier.modifier-index _ _ c.loop-modifier-test.true
    c.opening.ensures)
