use Rattle.std.proofs.Common.{get_or, refl, arith}
use Rattle.std.proofs.lemmas.Option.{slice_get-get_or}
use Rattle.juniper_outlines.specs.declared.walk.State.TheVariants as state
use Rattle.juniper_outlines.specs.Definitions.{outline_of, place_of}
use Rattle.juniper_outlines.proofs.Elements.{read_at, outline_at}
use Rattle.juniper_outlines.proofs.Places.{written}
use Rattle.juniper_outlines.proofs.walk.complexity_of.Goals as goal

pub returns-in-Done-clause-complexity : goal.returns-in-Done-clause-complexity
returns-in-Done-clause-complexity c =
    c.requires.right.done c.args.root c.in-Done.complexity
    (read_at c.args.states.now c.args.root (state.Done c.in-Done.complexity) (omega arith) c.in-Done.is)

pub returns-in-Open-clause-complexity : goal.returns-in-Open-clause-complexity
returns-in-Open-clause-complexity c =
    absurd (c.requires.right.none_open c.args.root c.in-Open.field-0 c.in-Open.complexity
    (read_at c.args.states.now c.args.root (state.Open c.in-Open.field-0 c.in-Open.complexity) (omega arith)
    c.in-Open.is))

pub walk-requires-clause-begun : goal.walk-requires-clause-begun
walk-requires-clause-begun c =
    let os = c.args.outlines.now in
    let root = c.args.root in
    let old = c.args.states.now in
    let o = get_or os root c.index-outlines-root.result in
    let w = written old _ root (state.Open 0 o.own) state.Unvisited
    (read_at old root state.Unvisited (omega arith) c.in-Unvisited.is) refl in
    record {
      old = old;
      was_right = c.requires.right;
      of = outline_of (place_of os) o;
      outline = outline_at os root o (slice_get-get_or os root c.index-outlines-root.result (omega arith));
      here = w.here;
      others = w.others;
    }
