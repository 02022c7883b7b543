use Rattle.std.proofs.Common.{◌≡◌, List, length, get_or, refl, ap, sym, subst, ◌∙◌, arith}
use Rattle.std.proofs.lemmas.List.{with_items_is, length-map}
use Rattle.std.proofs.lemmas.Option.{slice_get_read}
use Rattle.std.specs.Global.{Vec}
use Rattle.std.specs.Prelude.{is_none}
use Rattle.juniper_outlines.specs.Definitions.{outlines_of, outline_of, place_of}
use Rattle.juniper_outlines.specs.device.Walk.{AreRight, first_state}
use Rattle.juniper_outlines.specs.declared.operations.OperationComplexity.{OperationComplexity}
use Rattle.juniper_outlines.specs.declared.outline.DefinitionOutline.{DefinitionOutline}
use Rattle.juniper_outlines.specs.declared.walk.State.{State}
use Rattle.juniper_outlines.proofs.Elements.{outline_at, is_none_by}
use Rattle.juniper_outlines.proofs.FirstStates.{first_right}
use Rattle.juniper_outlines.proofs.Counting.{counted_fragment, counted_operation, counted_all, before_fragment}
use Rattle.juniper_outlines.proofs.Counting.{before_operation, fails_on}
use Rattle.juniper_outlines.proofs.operations.walked_complexities.Goals as goal
use Rattle.juniper_outlines.proofs.operations.walked_complexities.Goals.{then-is_none+in_ok-complexity+in_ok-push}
use Rattle.juniper_outlines.proofs.operations.walked_complexities.Goals.{else-is_none}

pub returns-clause-complexities : goal.returns-clause-complexities
returns-clause-complexities c =
    let os = c.args.definitions.now in
    let many = length-map os (outline_of (place_of os)) in
    counted_all (outlines_of os) c.loop-i.i c.loop-i.complexities.items (omega (arith, many)) c.loop-i.invariant.counted

pub loop-i-init : goal.loop-i-init
loop-i-init c =
    let os = c.args.definitions.now in
    let same = c.in_ok-states.ensures in
    record {
      counted = λ rest k. rw c.new-complexities.ensures.items k;
      before = λ j o lt at is. absurd (omega arith);
      right = rw same (first_right os);
      many = ap length same ∙ length-map os first_state;
    }

pub loop-i-preserved : goal.loop-i-preserved
loop-i-preserved c =
    let os = c.args.definitions.now in
    let g = outlines_of os in
    let l = c.loop-i in
    let o = c.index-definitions-i.result in
    let at = slice_get_read os _ l.i o refl (omega arith) c.index-definitions-i.is in
    let here = outline_at os l.i o at in
    let kind = ap (λ (z : DefinitionOutline). is_none z.fragment) c.index-definitions-i.is
    ∙ is_none_by (get_or os l.i o).fragment c.is_none.result c.is_none.ensures in
    elim c.if-is_none.branch [
      | then-is_none+in_ok-complexity+in_ok-push w ↦
          let found = w.in_ok-complexity.ensures.complexity in
          let right = w.in_ok-complexity.ensures.right in
          let whole = with_items_is l.states w.complexity_of.new.states (omega (arith, l.states.ok.0)) in
          let seen = ap length w.deref_mut.ensures.value in
          let many = l.invariant.many in
          let long : length w.complexity_of.new.states ≡ length os = omega arith in
          rw (w.complexities-is, w.states-is, w.in_ok-push.ensures.items) (record {
            counted = counted_operation g l.i (outline_of (place_of os) o) l.complexities.items
                w.in_ok-complexity.complexity here (kind ∙ w.if-is_none.true) found l.invariant.counted;
            before = before_operation g l.i w.in_ok-complexity.complexity found l.invariant.before;
            right = subst (λ (z : List State). AreRight g z) (sym whole) right;
            many = ap length whole ∙ long;
          })
      | else-is_none w ↦
          rw (w.complexities-is, w.states-is) (record {
            counted = counted_fragment g l.i (outline_of (place_of os) o) l.complexities.items here
                (kind ∙ w.if-is_none.false) l.invariant.counted;
            before = before_fragment g l.i (outline_of (place_of os) o) here (kind ∙ w.if-is_none.false)
                l.invariant.before;
            right = l.invariant.right;
            many = l.invariant.many;
          })
    ]

pub returns-in_err-complexity-clause-failure : goal.returns-in_err-complexity-clause-failure
returns-in_err-complexity-clause-failure c =
    let os = c.args.definitions.now in
    let l = c.loop-i in
    let o = c.index-definitions-i.result in
    let at = slice_get_read os _ l.i o refl (omega arith) c.index-definitions-i.is in
    let kind = ap (λ (z : DefinitionOutline). is_none z.fragment) c.index-definitions-i.is
    ∙ is_none_by (get_or os l.i o).fragment c.is_none.result c.is_none.ensures in
    fails_on (Vec OperationComplexity) (outlines_of os) l.i (outline_of (place_of os) o) (outline_at os l.i o at)
    (kind ∙ c.if-is_none.true) l.invariant.before
    c.from_residual-in_err-complexity.result c.in_err-complexity.field-0.0 _
    c.from_residual-in_err-complexity.ensures.1 (λ z k. k) c.in_err-complexity.ensures.broken
