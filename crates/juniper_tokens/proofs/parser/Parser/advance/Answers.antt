use Rattle.std.proofs.Common.{◌∙◌, ◌+◌, ap, drop, arith}
use Rattle.std.specs.Str.{chars}
use Rattle.juniper_tokens.proofs.Steps.{line_within, drop_one_more, left_within, one_fewer, next_is_range, next_held}
use Rattle.juniper_tokens.proofs.parser.Parser.advance.Goals as goal

pub index-requires : goal.index-requires
index-requires c =
    let here = c.self.inside in
    let source = chars here.source.now in
    let left = one_fewer source here.ranges.items here.lines.starts here.taken c.self.invariant.left c.args.self.now c.self.view_is
    c.requires in
    omega (arith, left_within source here.ranges.items (here.taken + 1) left.ended, here.ranges.ok.0)

pub located-self-inside-requires-clause-range : goal.located-self-inside-requires-clause-range
located-self-inside-requires-clause-range c =
    let here = c.self.inside in
    let source = chars here.source.now in
    let left = one_fewer source here.ranges.items here.lines.starts here.taken c.self.invariant.left c.args.self.now c.self.view_is
    c.requires in
    next_is_range source here.ranges.items here.lines.starts (here.taken + 1) left c.index.result.now c.index.ensures

pub invariant_of-self : goal.invariant_of-self
invariant_of-self c =
    let here = c.self.inside in
    let source = chars here.source.now in
    let left = one_fewer source here.ranges.items here.lines.starts here.taken c.self.invariant.left c.args.self.now c.self.view_is
    c.requires in
    next_held source here.ranges.items here.lines.starts (here.taken + 1) left c.index.result.now c.index.ensures
    c.located-self-inside.result c.located-self-inside.ensures

pub returns : goal.returns
returns c = drop_one_more (chars c.self.inside.source.now) c.self.inside.ranges.items c.self.inside.taken
    ∙ ap (drop 1) c.self.view_is

pub located-self-inside-requires-clause-near : goal.located-self-inside-requires-clause-near
located-self-inside-requires-clause-near c =
    let here = c.self.inside in
    rw c.starts.ensures (line_within (chars here.source.now) here.ranges.items here.lines.starts here.taken here.current
    c.self.invariant _ c.line-near.ensures)
