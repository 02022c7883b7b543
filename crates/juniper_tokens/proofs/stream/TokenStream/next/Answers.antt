use Rattle.std.proofs.Common.{◌≡◌, ◌<◌, false, ◌∙◌, sym, ap, subst, List, ℕ, arith, rules}
use denote.Enum.Bare.{same_true}
use Rattle.juniper_tokens.specs.contracts.byte_classes.ByteClass.{the_type}
use Rattle.juniper_tokens.specs.declared.byte_classes.ByteClass.TheVariants.{NameStart, Punctuator}
use Rattle.juniper_tokens.specs.Lexing.{LexerState}
use Rattle.juniper_tokens.specs.device.LexingByScan.{past_ignored}
use Rattle.juniper_tokens.specs.device.Streams.{StreamState, GivesNext, moved, standing}
use Rattle.juniper_tokens.specs.device.Walks.{never_ignored}
use Rattle.juniper_tokens.proofs.Streams.{at_lexer, gives_between, gives_past, not_deep}
use Rattle.juniper_tokens.proofs.stream.TokenStream.next.Goals as goal

pub returns-then-eq : goal.returns-then-eq
returns-then-eq c =
    let here = c.self.inside in
    let some : 0 < c.args.self.now.left = omega (
      arith,
      c.if-self-eq0.false,
      ap (λ (s : StreamState). s.left) c.self.view_is,
    ) in
    let shallow : c.args.self.now.deep ≡ false = sym (ap (λ (s : StreamState). s.deep) c.self.view_is)
    ∙ not_deep here.is_deep here.left c.self.invariant.last (omega (arith, c.if-self-eq0.false)) in
    let class : c.skip_blanks-class.result ≡ NameStart =
    same_true the_type (search rules) c.skip_blanks-class.result NameStart (sym c.eq.ensures ∙ c.if-eq.true) in
    gives_past c.args.self.now some shallow here.lexer
    (ap (λ (s : StreamState). s.source) c.self.view_is) (ap (λ (s : StreamState). s.index) c.self.view_is)
    c.skip_blanks-class.new.self
    (c.skip_blanks-class.ensures.ends (ap never_ignored class) ∙ ap past_ignored c.duplicate-lexer.ensures)
    (standing c.take.new.self c.take.new.next) c.take.new.self c.take.ensures

pub returns-then-eq-2 : goal.returns-then-eq-2
returns-then-eq-2 c =
    let here = c.self.inside in
    let some : 0 < c.args.self.now.left = omega (
      arith,
      c.if-self-eq0.false,
      ap (λ (s : StreamState). s.left) c.self.view_is,
    ) in
    let shallow : c.args.self.now.deep ≡ false = sym (ap (λ (s : StreamState). s.deep) c.self.view_is)
    ∙ not_deep here.is_deep here.left c.self.invariant.last (omega (arith, c.if-self-eq0.false)) in
    let class : c.skip_blanks-class.result ≡ Punctuator =
    same_true the_type (search rules) c.skip_blanks-class.result Punctuator (sym c.eq-2.ensures ∙ c.if-eq-2.true) in
    let t = c.take-then-eq-2.new.self in
    gives_past c.args.self.now some shallow here.lexer
    (ap (λ (s : StreamState). s.source) c.self.view_is) (ap (λ (s : StreamState). s.index) c.self.view_is)
    c.skip_blanks-class.new.self
    (c.skip_blanks-class.ensures.ends (ap never_ignored class) ∙ ap past_ignored c.duplicate-lexer.ensures)
    (standing t c.take-then-eq-2.new.next) t c.take-then-eq-2.ensures

pub returns : goal.returns
returns c =
    let here = c.self.inside in
    let some : 0 < c.args.self.now.left = omega (
      arith,
      c.if-self-eq0.false,
      ap (λ (s : StreamState). s.left) c.self.view_is,
    ) in
    let shallow : c.args.self.now.deep ≡ false = sym (ap (λ (s : StreamState). s.deep) c.self.view_is)
    ∙ not_deep here.is_deep here.left c.self.invariant.last (omega (arith, c.if-self-eq0.false)) in
    let v = c.skip_blanks-class.new.self in
    let same : v.source ≡ here.lexer.source = c.skip_blanks-class.ensures.source
    ∙ ap (λ (l : LexerState). l.source) c.duplicate-lexer.ensures in
    let t = c.next_of_any_class.new.self in
    let p = standing t c.next_of_any_class.new.next in
    let made : List ℕ → StreamState = λ source. at_lexer (record { source = source; index = v.index; ended = false })
    here.most here.depth here.left here.opened here.closed here.is_deep here.is_short in
    let there : made v.source ≡ moved c.args.self.now v.index = ap made same
    ∙ ap (λ (s : StreamState). moved s v.index) c.self.view_is in
    gives_between c.args.self.now some shallow here.lexer
    (ap (λ (s : StreamState). s.source) c.self.view_is) (ap (λ (s : StreamState). s.index) c.self.view_is)
    v same (c.skip_blanks-class.ensures.passes ∙ ap past_ignored c.duplicate-lexer.ensures) p t
    (subst (λ (s : StreamState). GivesNext s p t) there
    (rw (c.go_to.ensures.source, c.go_to.ensures.index) at c.next_of_any_class.ensures))
