use Rattle.std.proofs.Common.{◌∙◌, ◌+◌, ap, sym, refl, length, length-drop, Ok, List, arith}
use Rattle.graphql_lexical.specs.Cutting.{Lexeme}
use Rattle.juniper_tokens.specs.Cursor.{first_of}
use Rattle.juniper_tokens.specs.Taking.{left}
use Rattle.juniper_tokens.proofs.Feeds.{ended_seen, of_records, listed_left, to_records}
use Rattle.juniper_tokens.proofs.Steps.{next_is_taken, left_within, some_ended}
use Rattle.juniper_tokens.proofs.Taking.{past_seen, are_starts, next_after, past_lines, left_past}
use Rattle.juniper_tokens.proofs.cursor.Cursor.advance.Goals as goal

pub bounds-self-inside-self-inside : goal.bounds-self-inside-self-inside
bounds-self-inside-self-inside g c =
    let here = c.self.inside in
    let source = g.W.SourceText.characters here.source in
    let it = of_records source g.M.Feed.IS_STREAM here.records here.stream here.taken here.next here.last_end
    c.self.invariant c.args.self.now c.self.view_is (sym c.IS_STREAM.ensures ∙ c.if-IS_STREAM.false) in
    left_within source here.records.ranges.now (here.taken + 1)
    (past_seen source here.records.ranges.now here.records.starts.now here.taken it.0.left c.args.self.now it.1
    c.requires).ended

pub follow-requires-clause-starts : goal.follow-requires-clause-starts
follow-requires-clause-starts g c =
    let here = c.self.inside in
    let source = g.W.SourceText.characters here.source in
    let it = of_records source g.M.Feed.IS_STREAM here.records here.stream here.taken here.next here.last_end
    c.self.invariant c.args.self.now c.self.view_is (sym c.IS_STREAM.ensures ∙ c.if-IS_STREAM.false) in
    are_starts source here.records.ranges.now here.records.starts.now here.taken here.records.lines it.0
    c.args.self.now it.1

pub follow-requires-clause-from : goal.follow-requires-clause-from
follow-requires-clause-from g c =
    let here = c.self.inside in
    let source = g.W.SourceText.characters here.source in
    let it = of_records source g.M.Feed.IS_STREAM here.records here.stream here.taken here.next here.last_end
    c.self.invariant c.args.self.now c.self.view_is (sym c.IS_STREAM.ensures ∙ c.if-IS_STREAM.false) in
    next_after source here.records.ranges.now here.records.starts.now here.taken here.records.lines it.0
    c.args.self.now it.1 _ c.requires

pub invariant_of-self : goal.invariant_of-self
invariant_of-self g c =
    let here = c.self.inside in
    let source = g.W.SourceText.characters here.source in
    let it = of_records source g.M.Feed.IS_STREAM here.records here.stream here.taken here.next here.last_end
    c.self.invariant c.args.self.now c.self.view_is (sym c.IS_STREAM.ensures ∙ c.if-IS_STREAM.false) in
    to_records source g.M.Feed.IS_STREAM (record {
      ranges = here.records.ranges;
      starts = here.records.starts;
      lines = c.follow.new.self;
    })
    here.stream (here.taken + 1) here.next here.last_end (sym c.IS_STREAM.ensures ∙ c.if-IS_STREAM.false)
    (past_lines source here.records.ranges.now here.records.starts.now here.taken here.records.lines it.0
    c.args.self.now it.1 c.requires c.follow.new.self c.follow.ensures.line _ c.follow.ensures.on
    c.follow.ensures.earlier c.follow.ensures.not_after)

pub returns-then-IS_STREAM-clause-left : goal.returns-then-IS_STREAM-clause-left
returns-then-IS_STREAM-clause-left g c = ap left c.read.ensures.taken ∙ left_past c.args.self.now

pub returns-then-IS_STREAM-clause-takes : goal.returns-then-IS_STREAM-clause-takes
returns-then-IS_STREAM-clause-takes g c =
    next_is_taken (left c.args.self.now) c.read.ensures.ended c.requires
    ∙ ap (λ (ts : List Lexeme). Ok (first_of (left c.args.self.now), ts)) (sym (returns-then-IS_STREAM-clause-left g
    c))

pub returns-then-IS_STREAM-clause-shorter : goal.returns-then-IS_STREAM-clause-shorter
returns-then-IS_STREAM-clause-shorter g c = omega (
  arith,
  some_ended (left c.args.self.now) c.read.ensures.ended,
  length-drop 1 (left c.args.self.now),
  ap length (returns-then-IS_STREAM-clause-left g c),
)

pub returns-else-IS_STREAM-clause-left : goal.returns-else-IS_STREAM-clause-left
returns-else-IS_STREAM-clause-left g c =
    let here = c.self.inside in
    let source = g.W.SourceText.characters here.source in
    listed_left source g.M.Feed.IS_STREAM here.records (record {
      ranges = here.records.ranges;
      starts = here.records.starts;
      lines = c.follow.new.self;
    })
    here.stream here.taken (sym c.IS_STREAM.ensures ∙ c.if-IS_STREAM.false) refl c.args.self.now c.self.view_is

pub returns-else-IS_STREAM-clause-ended : goal.returns-else-IS_STREAM-clause-ended
returns-else-IS_STREAM-clause-ended g c =
    let here = c.self.inside in
    let source = g.W.SourceText.characters here.source in
    ended_seen source g.M.Feed.IS_STREAM here.records here.stream here.taken here.next here.last_end
    c.self.invariant c.args.self.now c.self.view_is

pub returns-else-IS_STREAM-clause-takes : goal.returns-else-IS_STREAM-clause-takes
returns-else-IS_STREAM-clause-takes g c =
    next_is_taken (left c.args.self.now) (returns-else-IS_STREAM-clause-ended g c) c.requires
    ∙ ap (λ (ts : List Lexeme). Ok (first_of (left c.args.self.now), ts)) (sym (returns-else-IS_STREAM-clause-left g
    c))
