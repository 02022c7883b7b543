use Rattle.std.proofs.Common.{◌≡◌, length, rules}
use Rattle.std.specs.Str.{chars}
use Rattle.juniper_tokens.proofs.Steps.{line_within, left_many, so_many_left, next_held}
use Rattle.juniper_tokens.proofs.parser.Parser.take_until.Goals as goal

pub invariant_of-self : goal.invariant_of-self
invariant_of-self c =
    let here = c.self.inside in
    let source = chars here.source.now in
    let all : c.len.result ≡ length here.ranges.items = search rules in
    next_held source here.ranges.items here.lines.starts _
    (so_many_left source here.ranges.items here.lines.starts here.taken c.self.invariant.left c.args.self.now c.self.view_is c.args.left
    c.requires.some c.requires.fewer c.len.result all) c.index.result.now c.index.ensures
    c.located-self-inside.result c.located-self-inside.ensures

pub returns : goal.returns
returns c =
    let here = c.self.inside in
    let all : c.len.result ≡ length here.ranges.items = search rules in
    left_many (chars here.source.now) here.ranges.items here.lines.starts here.taken c.self.invariant.left c.args.self.now c.self.view_is
    c.args.left c.requires.some c.requires.fewer c.len.result all

pub located-self-inside-requires-clause-near : goal.located-self-inside-requires-clause-near
located-self-inside-requires-clause-near c =
    let here = c.self.inside in
    rw c.starts.ensures (line_within (chars here.source.now) here.ranges.items here.lines.starts here.taken here.current
    c.self.invariant _ c.line-near.ensures)
