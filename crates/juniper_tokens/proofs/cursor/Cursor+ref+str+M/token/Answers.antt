use Rattle.std.proofs.Common.{◌∙◌, ap, sym}
use Rattle.std.specs.Str.{chars}
use Rattle.graphql_lexical.specs.Cutting.{Lexeme}
use Rattle.juniper_tokens.proofs.Feeds.{first_seen, range_seen}
use Rattle.juniper_tokens.proofs.cursor.Cursor+ref+str+M.token.Goals as goal

pub located_at-requires-clause-range : goal.located_at-requires-clause-range
located_at-requires-clause-range g c =
    let here = c.self.inside in
    let source = chars here.source.now in
    range_seen source g.M.Feed.IS_STREAM here.records here.stream here.taken here.next here.last_end
    c.self.invariant c.args.self.now c.self.view_is c.next_range-range.result
    c.next_range-range.ensures.stream c.next_range-range.ensures.listed

pub located_at-requires-clause-span : goal.located_at-requires-clause-span
located_at-requires-clause-span g c =
    let here = c.self.inside in
    let source = chars here.source.now in
    let first = first_seen source g.M.Feed.IS_STREAM here.records here.stream here.taken here.next here.last_end
    c.self.invariant c.args.self.now c.self.view_is c.next_range-range.result
    c.next_range-range.ensures.stream c.next_range-range.ensures.listed in
    c.span.ensures ∙ ap (λ (t : Lexeme). t.span) (sym first)

pub returns : goal.returns
returns g c =
    let here = c.self.inside in
    let source = chars here.source.now in
    let first = first_seen source g.M.Feed.IS_STREAM here.records here.stream here.taken here.next here.last_end
    c.self.invariant c.args.self.now c.self.view_is c.next_range-range.result
    c.next_range-range.ensures.stream c.next_range-range.ensures.listed in
    c.located_at.ensures ∙ first
