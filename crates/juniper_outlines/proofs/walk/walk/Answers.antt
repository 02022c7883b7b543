use Rattle.std.proofs.Common.{◌≡◌, [], ◌∷◌, reverse, refl, ap, ◌∙◌, inl, arith}
use Rattle.std.proofs.lemmas.List.{reverse-append, nil_from_length}
use Rattle.std.proofs.lemmas.Option.{slice_get_within}
use Rattle.juniper_outlines.specs.Definitions.{outlines_of}
use Rattle.juniper_outlines.proofs.Measure.{less_on, less_into, less_done}
use Rattle.juniper_outlines.proofs.Steps.{at_start, after_unknown, after_cycle, after_done, right_again, walks_above}
use Rattle.juniper_outlines.proofs.Steps.{waits_above}
use Rattle.juniper_outlines.proofs.Steps.{walks_on, walks_into}
use Rattle.juniper_outlines.proofs.walk.walk.Goals as goal

pub loop-target-init : goal.loop-target-init
loop-target-init c =
    let b = c.requires.begun in
    record {
      walks = rw c.new-path.ensures.items
          (at_start (outlines_of c.args.outlines.now) b.old c.args.states.now c.args.root b.of b.outline
          (record { here = b.here; others = b.others }) b.was_right);
      long = c.requires.places.1;
    }

pub advance-requires-clause-places : goal.advance-requires-clause-places
advance-requires-clause-places c =
    let l = c.loop-target in
    let open_at = l.invariant.walks.is_open l.at (inl refl) in
    let within = slice_get_within l.states l.at _ open_at.is in
    (omega arith, l.invariant.long)

pub loop-target-smaller-in-NextSpread : goal.loop-target-smaller-in-NextSpread
loop-target-smaller-in-NextSpread c =
    less_on (outlines_of c.args.outlines.now) c.loop-target.states c.advance.new.states c.loop-target.at
    c.in-NextSpread.ensures

pub loop-target-preserved-in-NextSpread : goal.loop-target-preserved-in-NextSpread
loop-target-preserved-in-NextSpread c =
    let l = c.loop-target in
    record {
      walks = walks_on (outlines_of c.args.outlines.now) l.states c.advance.new.states c.args.root l.at
          (reverse l.path.items) l.invariant.walks c.in-NextSpread.ensures;
      long = omega arith;
    }

pub loop-target-smaller-in-Enter : goal.loop-target-smaller-in-Enter
loop-target-smaller-in-Enter c =
    less_into (outlines_of c.args.outlines.now) c.loop-target.states c.advance.new.states c.loop-target.at
    c.in-Enter.target c.in-Enter.ensures

pub loop-target-preserved-in-Enter : goal.loop-target-preserved-in-Enter
loop-target-preserved-in-Enter c =
    let l = c.loop-target in
    let longer : reverse c.push.new.self.items ≡ l.at ∷ reverse l.path.items =
    ap reverse c.in_ok-push-in-Enter.ensures.items ∙ reverse-append l.path.items (l.at ∷ []) in
    record {
      walks = rw longer (walks_into (outlines_of c.args.outlines.now) l.states c.advance.new.states c.args.root l.at
          (reverse l.path.items) l.invariant.walks
          c.in-Enter.target c.in-Enter.ensures);
      long = omega arith;
    }

pub returns-in-None-clause-complexity : goal.returns-in-None-clause-complexity
returns-in-None-clause-complexity c =
    let g = outlines_of c.args.outlines.now in
    let l = c.loop-target in
    let empty : reverse l.path.items ≡ [] =
    ap reverse (nil_from_length l.path.items (omega (arith, c.in-None.ensures.cases.0))) in
    let again = right_again g l.states c.advance.new.states c.args.root l.at (reverse l.path.items)
    l.invariant.walks c.in-Done.complexity c.in-Done.ensures empty in
    rw again.0 (after_done g l.states c.advance.new.states c.args.root l.at (reverse l.path.items) l.invariant.walks
    c.in-Done.complexity c.in-Done.ensures)

pub returns-in-None-clause-right : goal.returns-in-None-clause-right
returns-in-None-clause-right c =
    let g = outlines_of c.args.outlines.now in
    let l = c.loop-target in
    let empty : reverse l.path.items ≡ [] =
    ap reverse (nil_from_length l.path.items (omega (arith, c.in-None.ensures.cases.0))) in
    let again = right_again g l.states c.advance.new.states c.args.root l.at (reverse l.path.items)
    l.invariant.walks c.in-Done.complexity c.in-Done.ensures empty in
    again.1

pub count_spread-requires-clause-places : goal.count_spread-requires-clause-places
count_spread-requires-clause-places c =
    let l = c.loop-target in
    let shorter : reverse l.path.items ≡ c.in-Some.above ∷ reverse c.pop.new.self.items =
    ap reverse c.in-Some.ensures.items ∙ reverse-append c.pop.new.self.items (c.in-Some.above ∷ []) in
    let walks = walks_above (outlines_of c.args.outlines.now) l.states c.advance.new.states c.args.root l.at
    (reverse l.path.items) l.invariant.walks c.in-Done.complexity c.in-Done.ensures c.in-Some.above
    (reverse c.pop.new.self.items) shorter in
    let open_at = walks.is_open c.in-Some.above (inl refl) in
    let within = slice_get_within c.advance.new.states c.in-Some.above _ open_at.is in
    (omega (arith, within, l.invariant.long), omega (arith, l.invariant.long))

pub count_spread-requires-clause-waits : goal.count_spread-requires-clause-waits
count_spread-requires-clause-waits c =
    let l = c.loop-target in
    let shorter : reverse l.path.items ≡ c.in-Some.above ∷ reverse c.pop.new.self.items =
    ap reverse c.in-Some.ensures.items ∙ reverse-append c.pop.new.self.items (c.in-Some.above ∷ []) in
    waits_above (outlines_of c.args.outlines.now) l.states c.advance.new.states c.args.root l.at
    (reverse l.path.items) l.invariant.walks c.in-Done.complexity c.in-Done.ensures c.in-Some.above
    (reverse c.pop.new.self.items) shorter

pub loop-target-smaller : goal.loop-target-smaller
loop-target-smaller c =
    let g = outlines_of c.args.outlines.now in
    let first = less_done g c.loop-target.states c.advance.new.states c.loop-target.at c.in-Done.complexity
    c.in-Done.ensures in
    let second = less_on g c.advance.new.states c.count_spread.new.states c.in-Some.above c.count_spread.ensures in
    omega (arith, first, second)

pub loop-target-preserved : goal.loop-target-preserved
loop-target-preserved c =
    let g = outlines_of c.args.outlines.now in
    let l = c.loop-target in
    let shorter : reverse l.path.items ≡ c.in-Some.above ∷ reverse c.pop.new.self.items =
    ap reverse c.in-Some.ensures.items ∙ reverse-append c.pop.new.self.items (c.in-Some.above ∷ []) in
    let above = walks_above g l.states c.advance.new.states c.args.root l.at (reverse l.path.items) l.invariant.walks
    c.in-Done.complexity c.in-Done.ensures c.in-Some.above (reverse c.pop.new.self.items) shorter in
    record {
      walks = walks_on g c.advance.new.states c.count_spread.new.states c.args.root c.in-Some.above
          (reverse c.pop.new.self.items) above c.count_spread.ensures;
      long = omega arith;
    }

pub returns-in-Unknown-clause-broken : goal.returns-in-Unknown-clause-broken
returns-in-Unknown-clause-broken c =
    let l = c.loop-target in
    after_unknown (outlines_of c.args.outlines.now) l.states c.advance.new.states c.args.root l.at
    (reverse l.path.items) l.invariant.walks c.in-Unknown.span c.in-Unknown.ensures

pub returns-in-Cycle-clause-broken : goal.returns-in-Cycle-clause-broken
returns-in-Cycle-clause-broken c =
    let l = c.loop-target in
    after_cycle (outlines_of c.args.outlines.now) l.states c.advance.new.states c.args.root l.at (reverse l.path.items)
    l.invariant.walks c.in-Cycle.span c.in-Cycle.ensures
