use Rattle.std.proofs.Common.{◌≡◌, true, false, not, ap, sym, ◌∙◌, rules}
use Rattle.graphql_lexical.specs.device.Scan.{is_end}
use Rattle.juniper_tokens.specs.device.Streams.{standing}
use Rattle.juniper_tokens.proofs.Feeds.{of_stream, whole_at_end, end_seen}
use Rattle.juniper_tokens.proofs.cursor.Cursor.is_whole.Goals as goal

pub returns-then-eq-clause-whole : goal.returns-then-eq-clause-whole
returns-then-eq-clause-whole g c = λ whole.
    let here = c.self.inside in
    let source = g.W.SourceText.characters here.source in
    let it = of_stream source g.M.Feed.IS_STREAM here.records here.stream here.taken here.next here.last_end
    c.self.invariant
    c.args.self.now c.self.view_is c.requires in
    let end : is_end here.next.kind ≡ true = search rules in
    whole_at_end source here.stream here.taken (standing here.stream here.next) here.last_end.place it.0
    c.args.self.now it.1 end
    ∙ ap not (sym c.is_short.ensures) ∙ whole

pub returns-then-eq-clause-short : goal.returns-then-eq-clause-short
returns-then-eq-clause-short g c = λ at_end.
    let here = c.self.inside in
    let source = g.W.SourceText.characters here.source in
    let it = of_stream source g.M.Feed.IS_STREAM here.records here.stream here.taken here.next here.last_end
    c.self.invariant
    c.args.self.now c.self.view_is c.requires in
    let end : is_end here.next.kind ≡ true = search rules in
    ap not c.is_short.ensures ∙ sym (whole_at_end source here.stream here.taken (standing here.stream here.next)
    here.last_end.place it.0
    c.args.self.now it.1 end)

pub returns-else-eq-clause-whole : goal.returns-else-eq-clause-whole
returns-else-eq-clause-whole g c = λ whole. absurd (cc whole)

pub returns-else-eq-clause-short : goal.returns-else-eq-clause-short
returns-else-eq-clause-short g c = λ at_end.
    let here = c.self.inside in
    let source = g.W.SourceText.characters here.source in
    let it = of_stream source g.M.Feed.IS_STREAM here.records here.stream here.taken here.next here.last_end
    c.self.invariant
    c.args.self.now c.self.view_is c.requires in
    let end = end_seen source here.stream here.taken (standing here.stream here.next) here.last_end.place it.0
    c.args.self.now it.1 at_end in
    let other : is_end here.next.kind ≡ false = search rules in
    let z : true ≡ false = sym end ∙ other in
    absurd (cc z)
