use Rattle.std.proofs.Common.{◌≡◌, ◌+◌, ◌++◌, ◌∷◌, [], ◌∙◌, ℕ, List, length, map, take, get_or, set, ap, ap₂, sym}
use Rattle.std.proofs.Common.{arith, add-one}
use Rattle.std.proofs.Math.Seq.{take-suc}
use Rattle.std.proofs.lemmas.List.{map-append, length-map, length-take}
use Rattle.std.proofs.lemmas.Option.{slice_get-get_or}
use Rattle.juniper_outlines.specs.Complexities.{nothing}
use Rattle.juniper_outlines.specs.declared.operations.OperationComplexity.{OperationComplexity}
use Rattle.firthnapkin_results.specs.Builders.{with_written}
use Rattle.firthnapkin_results.specs.Complexities.{complexity_of}
use Rattle.firthnapkin_results.specs.declared.complexity.Complexity.{Complexity}
use Rattle.firthnapkin_results.proofs.OperationComplexities.{in_document}
use Rattle.firthnapkin_results.proofs.Writing.{written_append}
use Rattle.firthnapkin_results.proofs.complexity.write_complexities.Goals as goal

pub loop-i-preserved : goal.loop-i-preserved
loop-i-preserved c tree marks few have =
    let l = c.loop-i in
    let fs = c.args.found.now in
    let old = c.args.buffer.now in
    let none : OperationComplexity = record { definition = 0; complexity = nothing } in
    let x = get_or fs l.i none in
    let f = complexity_of tree in
    let ys = map f (take l.i fs) in
    let longer : take (l.i + 1) fs ≡ take l.i fs ++ x ∷ [] =
    ap (λ k. take k fs) (add-one l.i) ∙ take-suc fs l.i none (omega arith) in
    let at = slice_get-get_or fs l.i none (omega arith) in
    let below = in_document tree 0 tree fs have l.i x at in
    let complexity = c.complexity_of.ensures tree marks few (omega (arith, below)) in
    let count : l.i ≡ 0 + length ys =
    omega (arith, length-map (take l.i fs) f, length-take l.i fs) in
    c.put.ensures
    ∙ (ap₂ (λ (b : List Complexity) (n : Complexity). set b l.i n) (l.invariant tree marks few have) complexity
    ∙ (ap (λ (k : ℕ). set (with_written old 0 ys) k (f x)) count
    ∙ (sym (written_append old 0 ys (f x ∷ []))
    ∙ ap (with_written old 0) (sym (ap (map f) longer ∙ map-append f (take l.i fs) (x ∷ []))))))
