use Rattle.std.proofs.Common.{◌+◌, ap}
use Rattle.juniper_tokens.specs.device.BytePlaces.{BytePlace}
use Rattle.juniper_tokens.specs.device.Streams.{range_to, standing}
use Rattle.juniper_tokens.proofs.Feeds.{ended_seen, of_stream, stream_more, to_stream, stands_more, goes_on_more}
use Rattle.juniper_tokens.proofs.cursor.Cursor.read.Goals as goal

pub invariant_of-self : goal.invariant_of-self
invariant_of-self g c =
    let here = c.self.inside in
    let source = g.W.SourceText.characters here.source in
    let it = of_stream source g.M.Feed.IS_STREAM here.records here.stream here.taken here.next here.last_end
    c.self.invariant c.args.self.now c.self.view_is c.requires.stream in
    let more = stream_more source g.M.Feed.IS_STREAM here.records here.stream here.taken here.next here.last_end
    c.self.invariant c.args.self.now c.self.view_is c.requires.stream c.requires.more in
    let s = here.stream in
    let t = c.next.new.self in
    let p = standing t c.next.new.next in
    let last = c.here-self-inside.result in
    to_stream source g.M.Feed.IS_STREAM here.records t (here.taken + 1) c.next.new.next last c.requires.stream
    (stands_more source s t here.taken (range_to s here.next) p it.0.goes_on more c.next.ensures
    last.place here.next.start.place here.last_end.place it.0.stands
    (ap (λ (q : BytePlace). q.place) c.here-self-inside.ensures))
    (goes_on_more source s t here.taken (range_to s here.next) p it.0.goes_on more c.next.ensures)

pub returns-clause-ended : goal.returns-clause-ended
returns-clause-ended g c =
    let here = c.self.inside in
    let source = g.W.SourceText.characters here.source in
    ended_seen source g.M.Feed.IS_STREAM here.records here.stream here.taken here.next here.last_end
    c.self.invariant c.args.self.now c.self.view_is
