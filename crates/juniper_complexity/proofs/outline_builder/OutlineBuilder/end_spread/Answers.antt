use Rattle.std.proofs.Common.{◌≡◌, ◌+◌, ◌∙◌, List, [], ◌∷◌, ◌++◌, length, get_or, set, ap, arith, length-append}
use Rattle.std.proofs.lemmas.List.{get_or_at, set_at}
use Rattle.juniper_outlines.specs.declared.outline.NamedSpread.{NamedSpread}
use Rattle.juniper_complexity.proofs.outline_builder.OutlineBuilder.end_spread.Goals as goal

pub returns-then-last-len-clause-spreads : goal.returns-then-last-len-clause-spreads
returns-then-last-len-clause-spreads c others spread e =
    let last = c.saturating_sub-last.result in
    let now = c.index_mut.result.now in
    let count : length c.args.self.now.spreads.items ≡ length others + 1 =
    ap length e ∙ length-append others (spread ∷ []) in
    let at : length others ≡ last = omega (arith, count, c.saturating_sub-last.ensures, c.len.ensures) in
    let same : now ≡ spread =
    c.index_mut.ensures.value ∙ (ap (λ (z : List NamedSpread). get_or z last now) e
    ∙ get_or_at others spread [] now last at) in
    ap (λ (z : List NamedSpread). set z last (record now { span = c.args.span.now })) e
    ∙ (set_at others spread [] (record now { span = c.args.span.now }) last at
    ∙ ap (λ (z : NamedSpread). others ++ record z { span = c.args.span.now } ∷ []) same)
