use Rattle.std.proofs.Common.{◌≡◌, true, false, ◌∙◌, refl, sym, ap, subst, rules}
use Rattle.graphql_lexical.specs.Place.{place}
use Rattle.graphql_lexical.specs.device.Scan.{is_end}
use Rattle.juniper_tokens.specs.declared.stream.Placed.{Placed}
use Rattle.juniper_tokens.specs.device.LexingByScan.{past_ignored}
use Rattle.juniper_tokens.specs.device.Streams.{StreamState, Standing, GivesNext, standing}
use Rattle.juniper_tokens.proofs.Streams.{at_lexer, end_last, token_left_out, error_left_out, stands_as}
use Rattle.juniper_tokens.proofs.stream.TokenStream.last.Goals.{in_default-via-in-Ok+else-eq}
use Rattle.juniper_tokens.proofs.stream.TokenStream.last.Goals.{in_default-via-in_default}
use Rattle.juniper_tokens.proofs.stream.TokenStream.last.Goals as goal

pub returns-in-Ok : goal.returns-in-Ok
returns-in-Ok c =
    let here = c.self.inside in
    let none : here.left ≡ 0 = ap (λ (s : StreamState). s.left) c.self.view_is ∙ c.requires.none in
    let whole : here.is_short ≡ false = ap (λ (s : StreamState). s.short) c.self.view_is ∙ c.requires.whole in
    let u = c.skip_ignored.new.self in
    let v = c.scan_out_of_line.new.self in
    let there : u ≡ past_ignored here.lexer = c.skip_ignored.ensures.passes
    ∙ ap past_ignored c.duplicate-lexer.ensures in
    let last : is_end c.in-Ok.range.kind ≡ true = search rules in
    let p : Placed = record { kind = c.in-Ok.range.kind; start = c.here-start.result } in
    let t = at_lexer v here.most here.depth here.left here.opened here.closed here.is_deep here.is_short in
    let before = at_lexer here.lexer here.most here.depth here.left here.opened here.closed here.is_deep
    here.is_short in
    let seen = stands_as u c.in-Ok.range v c.in-Ok.ensures.takes p t refl c.here-start.ensures.place
    c.here-start.ensures.index c.in-Ok.ensures.source refl in
    subst (λ (s : StreamState). GivesNext s (standing t p) t) c.self.view_is
    (subst (λ (q : Standing). GivesNext before q t) (sym seen)
    (end_last here.most here.depth here.left here.opened here.closed here.is_deep here.is_short none c.if-self.false
    here.lexer u there whole v c.in-Ok.range c.in-Ok.ensures.takes c.in-Ok.ensures.source (place u.source u.index)
    refl last))

pub returns : goal.returns
returns c =
    let here = c.self.inside in
    let none : here.left ≡ 0 = ap (λ (s : StreamState). s.left) c.self.view_is ∙ c.requires.none in
    let u = c.skip_ignored.new.self in
    let v = c.scan_out_of_line.new.self in
    let there : u ≡ past_ignored here.lexer = c.skip_ignored.ensures.passes
    ∙ ap past_ignored c.duplicate-lexer.ensures in
    let t = c.end_here-in_default.new.self in
    let p = standing t c.end_here-in_default.new.next in
    elim c.in_default.branch [
      | in_default-via-in-Ok+else-eq w ↦
          let other : is_end w.in-Ok.range.kind ≡ false = search rules in
          subst (λ (s : StreamState). GivesNext s p t) c.self.view_is
          (token_left_out here.most here.depth here.left here.opened here.closed here.is_deep here.is_short none
          c.if-self.false
          here.lexer u there v w.in-Ok.range w.in-Ok.ensures.takes other p t
          (rw (w.self-is, c.duplicate-self-inside.ensures) at c.end_here-in_default.ensures))
      | in_default-via-in_default w ↦
          subst (λ (s : StreamState). GivesNext s p t) c.self.view_is
          (error_left_out here.most here.depth here.left here.opened here.closed here.is_deep here.is_short none
          c.if-self.false
          here.lexer u there w.in_default.field-0 v (search rules) p t
          (rw (w.self-is, c.duplicate-self-inside.ensures) at c.end_here-in_default.ensures))
    ]
