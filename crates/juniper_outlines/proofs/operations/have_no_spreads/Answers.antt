use Rattle.std.proofs.Common.{◌≡◌, ℕ, [], Some, refl, subst, arith, inl, inr}
use Rattle.std.proofs.lemmas.Bool.{cases_eq}
use Rattle.std.proofs.lemmas.List.{nil_from_length}
use Rattle.std.proofs.lemmas.Option.{gets, slice_get_read, slice_get_within}
use Rattle.std.specs.List.{slice_get}
use Rattle.juniper_outlines.specs.declared.outline.DefinitionOutline.{DefinitionOutline}
use Rattle.juniper_outlines.proofs.OwnComplexities.{same_fragment}
use Rattle.juniper_outlines.proofs.operations.have_no_spreads.Goals as goal
use Rattle.juniper_outlines.proofs.operations.have_no_spreads.Goals.{in-Some, in-None+else-not-is_empty}

pub loop-i-preserved : goal.loop-i-preserved
loop-i-preserved c = record {
  so_far = λ j o at lt none.
      let os = c.args.definitions.now in
      let l = c.loop-i in
      elim (cases_eq j l.i) [
        | inl same ↦
            let there : slice_get os l.i ≡ Some o = subst (λ (n : ℕ). slice_get os n ≡ Some o) same at in
            elim c.match-definitions-i.branch [
              | in-Some w ↦ let some = same_fragment os l.i _ o _ w.in-Some.is there in absurd cc
              | in-None+else-not-is_empty w ↦
                  let p = w.index-definitions-i.result in
                  let here = slice_get_read os _ l.i p refl (omega arith) w.index-definitions-i.is in
                  let one : p ≡ o = cc in
                  subst (λ (z : DefinitionOutline). z.spreads.items ≡ []) one
                  (nil_from_length p.spreads.items
                  (grind (
                    arith,
                    w.is_empty.ensures,
                    w.if-not-is_empty.false,
                    p.spreads.ok.0,
                    w.index-definitions-i.is,
                  )))
            ]
        | inr other ↦ l.invariant.so_far j o at (omega arith) none
      ];
}

pub returns-clause-yes : goal.returns-clause-yes
returns-clause-yes c _ j o at none =
    let inside = slice_get_within c.args.definitions.now j o at in
    c.loop-i.invariant.so_far j o at (omega (arith, inside)) none

pub returns-then-not-is_empty-clause-no : goal.returns-then-not-is_empty-clause-no
returns-then-not-is_empty-clause-no c = grind (arith, gets)
