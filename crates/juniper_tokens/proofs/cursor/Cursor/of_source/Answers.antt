use Rattle.std.proofs.Common.{ap, sym, ◌∙◌, subst, List, [], ℕ, Bool}
use Rattle.graphql_lexical.specs.Cutting.{Cut}
use Rattle.juniper_tokens.specs.Counting.{HasFew}
use Rattle.juniper_tokens.specs.Nesting.{IsShallow}
use Rattle.juniper_tokens.specs.Taking.{Taking, left}
use Rattle.juniper_tokens.specs.device.Feeds.{seen}
use Rattle.juniper_tokens.specs.device.Streams.{StreamState, GivesNext, begun, standing}
use Rattle.juniper_tokens.proofs.Checking.{ended_stream, whole_stream}
use Rattle.juniper_tokens.proofs.Feeds.{seen_begun, stream_begun, to_stream}
use Rattle.juniper_tokens.proofs.cursor.Cursor.of_source.Goals as goal

pub invariant_of-result : goal.invariant_of-result
invariant_of-result g c =
    let source = g.W.SourceText.characters c.args.source.now in
    let begins = c.new-stream.ensures ∙ ap (λ (text : List ℕ). begun text c.args.depth c.args.most) c.as_str.ensures in
    let t = c.next.new.self in
    let p = standing t c.next.new.next in
    let gives = subst (λ (s : StreamState). GivesNext s p t) begins c.next.ensures in
    let stands = stream_begun source c.args.depth c.args.most c.ranges.most.fits p t gives c.origin.result.place in
    to_stream source g.M.Feed.IS_STREAM c.none.result t 0 c.next.new.next c.origin.result c.requires
    stands.stands stands.goes_on

pub returns-clause-is : goal.returns-clause-is
returns-clause-is g c =
    let source = g.W.SourceText.characters c.args.source.now in
    let begins = c.new-stream.ensures ∙ ap (λ (text : List ℕ). begun text c.args.depth c.args.most) c.as_str.ensures in
    let t = c.next.new.self in
    let p = standing t c.next.new.next in
    let gives = subst (λ (s : StreamState). GivesNext s p t) begins c.next.ensures in
    ap (λ (b : Bool). seen source b c.none.result t 0) c.requires
    ∙ seen_begun source c.args.depth c.args.most c.ranges.most.fits p t gives

pub returns-clause-whole : goal.returns-clause-whole
returns-clause-whole g c = λ whole.
    let source = g.W.SourceText.characters c.args.source.now in
    let is = returns-clause-is g c in
    subst (λ (t : Taking). Cut source (left t) × HasFew [] source c.args.most × IsShallow c.args.depth (left t)) (sym
    is)
    (whole_stream source c.args.depth c.args.most (sym (ap (λ (t : Taking). t.whole) is) ∙ whole))

pub returns-clause-nested : goal.returns-clause-nested
returns-clause-nested g c = λ lexemes deep new cut few ends.
    let source = g.W.SourceText.characters c.args.source.now in
    ap left (returns-clause-is g c) ∙ ended_stream source c.args.depth c.args.most lexemes deep new cut few ends
