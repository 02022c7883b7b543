use Rattle.std.proofs.Common.{◌≤◌, ◌<◌, ap, ap₂, arith, subst, sym, ◌∙◌}
use Rattle.graphql_lexical.specs.Nesting.{is_opening, is_closing}
use Rattle.graphql_lexical.specs.Place.{Place}
use Rattle.juniper_tokens.proofs.BracketCounts.{one_counted, none_counted, still_deep, before_within, none_deeper, found_deeper}
use Rattle.juniper_tokens.proofs.check.Brackets.read.Goals as goal

pub returns-then-is_some-clause-nested : goal.returns-then-is_some-clause-nested
returns-then-is_some-clause-nested c = λ before t of_range nested.
    let self = c.args.self.now in
    let some = sym c.is_some.ensures ∙ c.if-is_some.true in
    still_deep c.args.depth before t self.deep some self.opened self.closed self.opened self.closed nested

pub returns-then-saturating_sub-depth-clause-nested : goal.returns-then-saturating_sub-depth-clause-nested
returns-then-saturating_sub-depth-clause-nested c = λ before t of_range nested.
    let self = c.args.self.now in
    let none = sym c.is_some.ensures ∙ c.if-is_some.false in
    let opens = ap is_opening of_range.0 ∙ sym c.is_opening.ensures.is ∙ c.if-is_opening.true in
    let closes = ap is_closing of_range.0 ∙ c.is_opening.ensures.alone c.if-is_opening.true in
    let at = ap₂ (λ (x y : Place). record { start = x; end = y }) c.span_from.ensures.start c.span_from.ensures.end in
    found_deeper c.args.depth before t self.deep none self.opened self.closed nested _ _
    (one_counted self.opened _ opens) (none_counted self.closed _ closes)
    (subst (λ n. c.args.depth < n) c.saturating_sub.ensures c.if-saturating_sub-depth.true) c.span_from.result
    (at ∙ sym of_range.1)

pub returns-else-saturating_sub-depth-clause-nested : goal.returns-else-saturating_sub-depth-clause-nested
returns-else-saturating_sub-depth-clause-nested c = λ before t of_range nested.
    let self = c.args.self.now in
    let none = sym c.is_some.ensures ∙ c.if-is_some.false in
    let opens = ap is_opening of_range.0 ∙ sym c.is_opening.ensures.is ∙ c.if-is_opening.true in
    let closes = ap is_closing of_range.0 ∙ c.is_opening.ensures.alone c.if-is_opening.true in
    none_deeper c.args.depth before t self.deep none self.opened self.closed nested _ _
    (one_counted self.opened _ opens) (none_counted self.closed _ closes)
    (subst (λ n. n ≤ c.args.depth) c.saturating_sub.ensures c.if-saturating_sub-depth.false)

pub returns-then-is_closing-clause-nested : goal.returns-then-is_closing-clause-nested
returns-then-is_closing-clause-nested c = λ before t of_range nested.
    let self = c.args.self.now in
    let none = sym c.is_some.ensures ∙ c.if-is_some.false in
    let opens = ap is_opening of_range.0 ∙ sym c.is_opening.ensures.is ∙ c.if-is_opening.false in
    let closes = ap is_closing of_range.0 ∙ sym c.is_closing.ensures ∙ c.if-is_closing.true in
    let so_far = before_within c.args.depth before t self.deep none self.opened self.closed nested in
    none_deeper c.args.depth before t self.deep none self.opened self.closed nested _ _
    (none_counted self.opened _ opens) (one_counted self.closed _ closes) (omega (arith, so_far))

pub returns-else-is_closing-clause-nested : goal.returns-else-is_closing-clause-nested
returns-else-is_closing-clause-nested c = λ before t of_range nested.
    let self = c.args.self.now in
    let none = sym c.is_some.ensures ∙ c.if-is_some.false in
    let opens = ap is_opening of_range.0 ∙ sym c.is_opening.ensures.is ∙ c.if-is_opening.false in
    let closes = ap is_closing of_range.0 ∙ sym c.is_closing.ensures ∙ c.if-is_closing.false in
    let so_far = before_within c.args.depth before t self.deep none self.opened self.closed nested in
    none_deeper c.args.depth before t self.deep none self.opened self.closed nested _ _
    (none_counted self.opened _ opens) (none_counted self.closed _ closes) so_far
