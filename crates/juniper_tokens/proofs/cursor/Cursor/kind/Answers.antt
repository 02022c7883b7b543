use Rattle.std.proofs.Common.{ap}
use Rattle.graphql_lexical.specs.Cutting.{Lexeme}
use Rattle.juniper_tokens.proofs.Feeds.{first_seen, ended_seen}
use Rattle.juniper_tokens.proofs.cursor.Cursor.kind.Goals as goal

pub returns-clause-is : goal.returns-clause-is
returns-clause-is g c =
    let here = c.self.inside in
    let source = g.W.SourceText.characters here.source in
    let first = first_seen source g.M.Feed.IS_STREAM here.records here.stream here.taken here.next here.last_end
    c.self.invariant c.args.self.now c.self.view_is c.next_range.result
    c.next_range.ensures.stream c.next_range.ensures.listed in
    ap (λ (t : Lexeme). t.kind) first

pub returns-clause-ended : goal.returns-clause-ended
returns-clause-ended g c =
    let here = c.self.inside in
    let source = g.W.SourceText.characters here.source in
    ended_seen source g.M.Feed.IS_STREAM here.records here.stream here.taken here.next here.last_end
    c.self.invariant c.args.self.now c.self.view_is
