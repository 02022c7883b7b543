use Rattle.std.proofs.Common.{◌≡◌, false, ◌∙◌, List, ℕ, refl, sym, ap, subst}
use Rattle.graphql_lexical.specs.Place.{place}
use Rattle.juniper_tokens.specs.declared.stream.Placed.{Placed}
use Rattle.juniper_tokens.specs.device.Streams.{StreamState, Standing, Gives, moved, rest_here, standing}
use Rattle.juniper_tokens.proofs.Streams.{at_lexer, stands_as, token_taken}
use Rattle.juniper_tokens.proofs.stream.TokenStream.take.Goals as goal

pub returns-in-Some : goal.returns-in-Some
returns-in-Some c =
    let here = c.self.inside in
    let old = c.args.self.now in
    let u = c.args.lexer.now in
    let v = c.take_plain.new.self in
    let r = c.in-Some.range in
    let t = c.count.new.self in
    let p : Placed = record { kind = r.kind; start = c.here-next.result } in
    let whole : here.is_short ≡ false = ap (λ (s : StreamState). s.short) c.self.view_is ∙ c.requires.open.whole in
    let made : List ℕ → StreamState = λ source. at_lexer (record { source = source; index = u.index; ended = false })
    here.most here.depth here.left here.opened here.closed here.is_deep here.is_short in
    let there : made u.source ≡ moved old u.index =
    ap made (c.requires.source ∙ sym (ap (λ (s : StreamState). s.source) c.self.view_is))
    ∙ ap (λ (s : StreamState). moved s u.index) c.self.view_is in
    let counted = rw (c.go_to.ensures.source, c.go_to.ensures.index) at c.count.ensures in
    let taken = token_taken here.most here.depth here.left here.opened here.closed here.is_deep here.is_short whole
    u v r c.in-Some.ensures.takes c.in-Some.ensures.source (place u.source u.index) refl c.in-Some.ensures.more t
    counted in
    let same = stands_as u r v c.in-Some.ensures.takes p t refl c.here-next.ensures.place c.here-next.ensures.index
    (counted.source_is ∙ c.in-Some.ensures.source) counted.index_is in
    subst (λ (s : StreamState). Gives s (rest_here s) (standing t p) t) there
    (subst (λ (q : Standing). Gives (made u.source) (rest_here (made u.source)) q t) (sym same) taken)
