use Rattle.std.proofs.Common.{ap, ◌∙◌, ◌<◌, sym, subst}
use Rattle.graphql_lexical.specs.Place.{Place}
use Rattle.juniper_tokens.specs.Taking.{Taking}
use Rattle.juniper_tokens.proofs.Feeds.{ended_seen, of_records, stream_last}
use Rattle.juniper_tokens.proofs.Taking.{within_tokens, last_is_range, seen_last, are_starts, last_within}
use Rattle.juniper_tokens.proofs.cursor.Cursor.span_from.Goals as goal

pub place_back-end-requires-clause-starts : goal.place_back-end-requires-clause-starts
place_back-end-requires-clause-starts g c =
    let here = c.self.inside in
    let source = g.W.SourceText.characters here.source in
    let it = of_records source g.M.Feed.IS_STREAM here.records here.stream here.taken here.next here.last_end
    c.self.invariant c.args.self.now c.self.view_is (sym c.IS_STREAM.ensures ∙ c.if-IS_STREAM.false) in
    are_starts source here.records.ranges.now here.records.starts.now here.taken here.records.lines it.0
    c.args.self.now it.1

pub place_back-end-requires-clause-before : goal.place_back-end-requires-clause-before
place_back-end-requires-clause-before g c =
    let here = c.self.inside in
    let source = g.W.SourceText.characters here.source in
    let it = of_records source g.M.Feed.IS_STREAM here.records here.stream here.taken here.next here.last_end
    c.self.invariant c.args.self.now c.self.view_is (sym c.IS_STREAM.ensures ∙ c.if-IS_STREAM.false) in
    let some : 0 < here.taken = subst (λ (t : Taking). 0 < t.taken) (sym it.1) c.requires in
    last_within source here.records.ranges.now here.records.starts.now here.taken here.records.lines it.0
    c.args.self.now it.1 _ some

pub place_back-end-requires-clause-from : goal.place_back-end-requires-clause-from
place_back-end-requires-clause-from g c =
    let here = c.self.inside in
    let source = g.W.SourceText.characters here.source in
    let it = of_records source g.M.Feed.IS_STREAM here.records here.stream here.taken here.next here.last_end
    c.self.invariant c.args.self.now c.self.view_is (sym c.IS_STREAM.ensures ∙ c.if-IS_STREAM.false) in
    it.0.reaches _

pub returns-then-IS_STREAM-clause-span : goal.returns-then-IS_STREAM-clause-span
returns-then-IS_STREAM-clause-span g c =
    let here = c.self.inside in
    let source = g.W.SourceText.characters here.source in
    ap (λ (p : Place). record { start = c.args.start; end = p })
    (c.position-end.ensures ∙ stream_last source g.M.Feed.IS_STREAM here.records here.stream here.taken here.next
    here.last_end
    c.self.invariant c.args.self.now c.self.view_is (sym c.IS_STREAM.ensures ∙ c.if-IS_STREAM.true) c.requires)

pub returns-else-IS_STREAM-clause-span : goal.returns-else-IS_STREAM-clause-span
returns-else-IS_STREAM-clause-span g c =
    let here = c.self.inside in
    let source = g.W.SourceText.characters here.source in
    let it = of_records source g.M.Feed.IS_STREAM here.records here.stream here.taken here.next here.last_end
    c.self.invariant c.args.self.now c.self.view_is (sym c.IS_STREAM.ensures ∙ c.if-IS_STREAM.false) in
    let range = last_is_range source here.records.ranges.now here.records.starts.now here.taken it.0.left
    c.args.self.now it.1 _ in
    ap (λ (p : Place). record { start = c.args.start; end = p })
    (c.place_back-end.ensures source it.0.left.lines_are range.within
    ∙ seen_last source here.records.ranges.now here.records.starts.now here.taken it.0.left c.args.self.now it.1 _)

pub returns-then-IS_STREAM-clause-within : goal.returns-then-IS_STREAM-clause-within
returns-then-IS_STREAM-clause-within g c =
    let here = c.self.inside in
    let source = g.W.SourceText.characters here.source in
    within_tokens c.args.self.now (ended_seen source g.M.Feed.IS_STREAM here.records here.stream here.taken here.next
    here.last_end
    c.self.invariant c.args.self.now c.self.view_is)

pub returns-else-IS_STREAM-clause-within : goal.returns-else-IS_STREAM-clause-within
returns-else-IS_STREAM-clause-within g c =
    let here = c.self.inside in
    let source = g.W.SourceText.characters here.source in
    within_tokens c.args.self.now (ended_seen source g.M.Feed.IS_STREAM here.records here.stream here.taken here.next
    here.last_end
    c.self.invariant c.args.self.now c.self.view_is)
