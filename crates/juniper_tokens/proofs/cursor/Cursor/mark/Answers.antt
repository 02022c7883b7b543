use Rattle.std.proofs.Common.{ap, sym, ◌∙◌}
use Rattle.graphql_lexical.specs.Cutting.{Lexeme}
use Rattle.juniper_tokens.proofs.Feeds.{of_records, stream_start}
use Rattle.juniper_tokens.proofs.Taking.{first_within, seen_first, are_starts}
use Rattle.juniper_tokens.proofs.cursor.Cursor.mark.Goals as goal

pub place_on-requires-clause-starts : goal.place_on-requires-clause-starts
place_on-requires-clause-starts g c =
    let here = c.self.inside in
    let source = g.W.SourceText.characters here.source in
    let it = of_records source g.M.Feed.IS_STREAM here.records here.stream here.taken here.next here.last_end
    c.self.invariant c.args.self.now c.self.view_is (sym c.IS_STREAM.ensures ∙ c.if-IS_STREAM.false) in
    are_starts source here.records.ranges.now here.records.starts.now here.taken here.records.lines it.0
    c.args.self.now it.1

pub place_on-requires-clause-line : goal.place_on-requires-clause-line
place_on-requires-clause-line g c =
    let here = c.self.inside in
    let source = g.W.SourceText.characters here.source in
    let it = of_records source g.M.Feed.IS_STREAM here.records here.stream here.taken here.next here.last_end
    c.self.invariant c.args.self.now c.self.view_is (sym c.IS_STREAM.ensures ∙ c.if-IS_STREAM.false) in
    it.0.on_line _

pub returns-then-IS_STREAM : goal.returns-then-IS_STREAM
returns-then-IS_STREAM g c =
    let here = c.self.inside in
    let source = g.W.SourceText.characters here.source in
    c.position.ensures ∙ stream_start source g.M.Feed.IS_STREAM here.records here.stream here.taken here.next
    here.last_end
    c.self.invariant c.args.self.now c.self.view_is (sym c.IS_STREAM.ensures ∙ c.if-IS_STREAM.true)

pub returns-else-IS_STREAM : goal.returns-else-IS_STREAM
returns-else-IS_STREAM g c =
    let here = c.self.inside in
    let source = g.W.SourceText.characters here.source in
    let it = of_records source g.M.Feed.IS_STREAM here.records here.stream here.taken here.next here.last_end
    c.self.invariant c.args.self.now c.self.view_is (sym c.IS_STREAM.ensures ∙ c.if-IS_STREAM.false) in
    c.place_on.ensures source it.0.left.lines_are
    (first_within source here.records.ranges.now here.records.starts.now here.taken it.0.left c.args.self.now it.1 _)
    ∙ ap (λ (t : Lexeme). t.span.start) (seen_first source here.records.ranges.now here.records.starts.now here.taken
    it.0.left c.args.self.now it.1 _)
