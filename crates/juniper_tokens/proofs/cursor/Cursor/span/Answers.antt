use Rattle.std.proofs.Common.{ap, ap₂, sym, ◌∙◌}
use Rattle.graphql_lexical.specs.Place.{Place}
use Rattle.graphql_lexical.specs.Cutting.{Lexeme}
use Rattle.juniper_tokens.proofs.Feeds.{of_records, stream_start, stream_end}
use Rattle.juniper_tokens.proofs.Taking.{first_is_range, seen_first}
use Rattle.juniper_tokens.proofs.cursor.Cursor.span.Goals as goal

pub span-requires-clause-range : goal.span-requires-clause-range
span-requires-clause-range g c =
    let here = c.self.inside in
    let source = g.W.SourceText.characters here.source in
    let it = of_records source g.M.Feed.IS_STREAM here.records here.stream here.taken here.next here.last_end
    c.self.invariant c.args.self.now c.self.view_is (sym c.IS_STREAM.ensures ∙ c.if-IS_STREAM.false) in
    rw c.as_str.ensures (first_is_range source here.records.ranges.now here.records.starts.now here.taken it.0.left
    c.args.self.now it.1 _)

pub span-requires-clause-on : goal.span-requires-clause-on
span-requires-clause-on g c =
    let here = c.self.inside in
    let source = g.W.SourceText.characters here.source in
    let it = of_records source g.M.Feed.IS_STREAM here.records here.stream here.taken here.next here.last_end
    c.self.invariant c.args.self.now c.self.view_is (sym c.IS_STREAM.ensures ∙ c.if-IS_STREAM.false) in
    it.0.on_line _

pub returns-then-IS_STREAM : goal.returns-then-IS_STREAM
returns-then-IS_STREAM g c =
    let here = c.self.inside in
    let source = g.W.SourceText.characters here.source in
    ap₂ (λ (p q : Place). record { start = p; end = q })
    (c.position.ensures ∙ stream_start source g.M.Feed.IS_STREAM here.records here.stream here.taken here.next
    here.last_end c.self.invariant c.args.self.now c.self.view_is (sym c.IS_STREAM.ensures ∙ c.if-IS_STREAM.true))
    (c.position-end.ensures ∙ stream_end source g.M.Feed.IS_STREAM here.records here.stream here.taken here.next
    here.last_end
    c.self.invariant c.args.self.now c.self.view_is (sym c.IS_STREAM.ensures ∙ c.if-IS_STREAM.true))

pub returns-else-IS_STREAM : goal.returns-else-IS_STREAM
returns-else-IS_STREAM g c =
    let here = c.self.inside in
    let source = g.W.SourceText.characters here.source in
    let it = of_records source g.M.Feed.IS_STREAM here.records here.stream here.taken here.next here.last_end
    c.self.invariant c.args.self.now c.self.view_is (sym c.IS_STREAM.ensures ∙ c.if-IS_STREAM.false) in
    c.span.ensures
    ∙ rw c.as_str.ensures (ap (λ (t : Lexeme). t.span) (seen_first source here.records.ranges.now
    here.records.starts.now here.taken it.0.left c.args.self.now it.1 _))
