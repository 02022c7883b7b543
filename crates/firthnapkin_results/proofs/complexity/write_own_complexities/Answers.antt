use Rattle.std.proofs.Common.{◌≡◌, ◌+◌, ◌++◌, ◌∷◌, [], ◌∙◌, ℕ, List, length, map, take, set, ap, ap₂, sym, arith}
use Rattle.std.proofs.Common.{length-append, append-nil}
use Rattle.std.proofs.lemmas.List.{map-append, length-map}
use Rattle.juniper_outlines.specs.Definitions.{own_complexities}
use Rattle.juniper_outlines.specs.declared.operations.OperationComplexity.{OperationComplexity}
use Rattle.juniper_outlines.proofs.Public.{one_own_more}
use Rattle.firthnapkin_results.specs.Builders.{with_written}
use Rattle.firthnapkin_results.specs.Complexities.{complexity_of}
use Rattle.firthnapkin_results.specs.declared.complexity.Complexity.{Complexity}
use Rattle.firthnapkin_results.proofs.OperationComplexities.{as_many_marks}
use Rattle.firthnapkin_results.proofs.Writing.{written_append}
use Rattle.firthnapkin_results.proofs.complexity.write_own_complexities.Goals as goal
use Rattle.firthnapkin_results.proofs.complexity.write_own_complexities.Goals.{in-None, in-Some}

pub loop-i-preserved : goal.loop-i-preserved
loop-i-preserved c =
    let os = c.args.definitions.now in
    let l = c.loop-i in
    let old = c.args.buffer.now in
    let so_far = own_complexities 0 (take l.i os) in
    let more = one_own_more os l.i c.index-definitions-i.result c.own_complexity.result (omega arith)
    c.index-definitions-i.is c.own_complexity.ensures in
    elim c.match-own_complexity.branch [
      | in-None w ↦
          let same : own_complexities 0 (take (l.i + 1) os) ≡ so_far = rw w.in-None.is at more ∙ append-nil so_far in
          rw (w.buffer-is, w.count-is) (record {
            written = λ tree marks few. rw same (l.invariant.written tree marks few);
            counted = rw same l.invariant.counted;
            few = omega (arith, l.invariant.few);
          })
      | in-Some w ↦
          let x : OperationComplexity = record { definition = l.i; complexity = w.in-Some.complexity } in
          let longer : own_complexities 0 (take (l.i + 1) os) ≡ so_far ++ x ∷ [] = rw w.in-Some.is at more in
          rw (w.buffer-is, w.count-is) (record {
            written = λ tree marks few.
                let many = as_many_marks 0 os tree marks in
                let complexity = w.complexity_of.ensures tree marks few (omega (arith, many)) in
                let f = complexity_of tree in
                let ys = map f so_far in
                let count : l.count ≡ 0 + length ys = omega (arith, l.invariant.counted, length-map so_far f) in
                w.put.ensures
                ∙ (ap₂ (λ (b : List Complexity) (n : Complexity). set b l.count n) (l.invariant.written tree marks few)
                complexity
                ∙ (ap (λ (k : ℕ). set (with_written old 0 ys) k (f x)) count
                ∙ (sym (written_append old 0 ys (f x ∷ []))
                ∙ ap (with_written old 0) (sym (ap (map f) longer ∙ map-append f so_far (x ∷ []))))));
            counted =
                let many = length-append so_far (x ∷ []) in
                omega (arith, many, l.invariant.counted, ap length longer);
            few = omega (arith, l.invariant.few);
          })
    ]
