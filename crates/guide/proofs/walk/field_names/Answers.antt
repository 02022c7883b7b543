use Rattle.std.proofs.Common.{sym, ◌∙◌, arith}
use Rattle.std.proofs.lemmas.List.{drop_all, drop_more}
use Rattle.guide.proofs.NamesOfFields.{next_definition, no_definition}
use Rattle.guide.proofs.walk.field_names.Goals as goal

pub loop-definition-preserved : goal.loop-definition-preserved
loop-definition-preserved g c =
    let l = c.loop-definition in
    let xs = c.args.document.now in
    let x = c.definition-item.result in
    let here = rw (← c.definition-item.is) at (drop_more xs l.definition-index x (omega arith)) in
    l.invariant ∙ next_definition g.S.ParseScalarValue.content _ _ x _ _ here c.in_ok-note_definition.ensures

pub returns : goal.returns
returns g c =
    let l = c.loop-definition in
    sym (l.invariant ∙ no_definition g.S.ParseScalarValue.content _ _
    (drop_all l.definition-index c.args.document.now (omega arith)))
