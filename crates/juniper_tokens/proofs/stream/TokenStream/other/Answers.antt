use Rattle.std.proofs.Common.{◌≡◌, true, false, Ok, Err, ◌∙◌, refl, sym, ap, subst, rules}
use Rattle.graphql_lexical.specs.Place.{place}
use Rattle.graphql_lexical.specs.device.Scan.{is_end}
use Rattle.graphql_lexical.specs.device.Streams.{short_at}
use Rattle.juniper_tokens.specs.Lexing.{LexerState}
use Rattle.juniper_tokens.specs.device.Ranges.{TakesItem}
use Rattle.juniper_tokens.specs.declared.stream.Placed.{Placed}
use Rattle.juniper_tokens.specs.device.Streams.{StreamState, Standing, Gives, rest_here, standing}
use Rattle.juniper_tokens.proofs.Streams.{at_lexer, end_taken, token_taken, nothing_taken, stands_as}
use Rattle.juniper_tokens.proofs.stream.TokenStream.other.Goals.{in-Ok+then-ne, in-Ok+else-ne, in-Err}
use Rattle.juniper_tokens.proofs.stream.TokenStream.other.Goals as goal

pub returns : goal.returns
returns c =
    let here = c.self.inside in
    let whole : here.is_short ≡ false = ap (λ (s : StreamState). s.short) c.self.view_is ∙ c.requires.whole in
    let u = here.lexer in
    let v = c.scan_out_of_line.new.self in
    let before : StreamState = at_lexer u here.most here.depth here.left here.opened here.closed here.is_deep
    here.is_short in
    let same : v.source ≡ u.source = c.scan_out_of_line.ensures.source
    ∙ ap (λ (l : LexerState). l.source) c.duplicate-lexer.ensures in
    elim c.match-scan_out_of_line.branch [
      | in-Ok+then-ne w ↦
          let takes : TakesItem u (Ok w.in-Ok.range) v = subst (λ (l : LexerState). TakesItem l (Ok w.in-Ok.range) v)
          c.duplicate-lexer.ensures w.in-Ok.ensures.takes in
          let other : is_end w.in-Ok.range.kind ≡ false = search rules in
          let t = w.count.new.self in
          let p : Placed = record { kind = w.in-Ok.range.kind; start = w.here-next.result } in
          let taken = token_taken here.most here.depth here.left here.opened here.closed here.is_deep here.is_short
          whole u v w.in-Ok.range takes same (place u.source u.index) refl other t w.count.ensures in
          let seen = stands_as u w.in-Ok.range v takes p t refl w.here-next.ensures.place w.here-next.ensures.index
          (w.count.ensures.source_is ∙ same) w.count.ensures.index_is in
          rw (w.self-is, w.next-is) (subst (λ (s : StreamState). Gives s (rest_here s) (standing t p) t) c.self.view_is
          (subst (λ (q : Standing). Gives before (rest_here before) q t) (sym seen) taken))
      | in-Ok+else-ne w ↦
          let takes : TakesItem u (Ok w.in-Ok.range) v = subst (λ (l : LexerState). TakesItem l (Ok w.in-Ok.range) v)
          c.duplicate-lexer.ensures w.in-Ok.ensures.takes in
          let last : is_end w.in-Ok.range.kind ≡ true = search rules in
          let t = at_lexer v here.most here.depth here.left here.opened here.closed here.is_deep here.is_short in
          let p : Placed = record { kind = w.in-Ok.range.kind; start = w.here-next.result } in
          let taken = end_taken here.most here.depth here.left here.opened here.closed here.is_deep here.is_short
          whole u v w.in-Ok.range takes same (place u.source u.index) refl last in
          let seen = stands_as u w.in-Ok.range v takes p t refl w.here-next.ensures.place w.here-next.ensures.index
          same refl in
          rw (w.self-is, w.next-is) (subst (λ (s : StreamState). Gives s (rest_here s) (standing t p) t) c.self.view_is
          (subst (λ (q : Standing). Gives before (rest_here before) q t) (sym seen) taken))
      | in-Err w ↦
          let failed : TakesItem u (Err w.in-Err.field-0) v = subst (λ (l : LexerState). TakesItem l (Err
          w.in-Err.field-0) v) c.duplicate-lexer.ensures w.in-Err.ensures.takes in
          let t = w.end_here.new.self in
          let p = standing t w.end_here.new.next in
          rw (w.self-is, w.next-is) (subst (λ (s : StreamState). Gives s (rest_here s) p t) c.self.view_is
          (nothing_taken here.most here.depth here.left here.opened here.closed here.is_deep here.is_short
          u w.in-Err.field-0 v failed p t (subst (λ (s : StreamState). Gives s
          (short_at s.source s.index) p t) (sym c.self.view_is) w.end_here.ensures)))
    ]
