use Rattle.std.proofs.Common.{◌∙◌, sym, subst}
use Rattle.std.specs.Prelude.{Option}
use Rattle.juniper_tokens.specs.declared.token_range.TokenRange.{TokenRange}
use Rattle.juniper_tokens.specs.device.Ranges.{range_or_none}
use Rattle.juniper_tokens.proofs.Ranges.{plain_steps, other_or_none}
use Rattle.juniper_tokens.proofs.lexer.Lexer.next_range_or_none.Goals as goal

pub returns-in-Some : goal.returns-in-Some
returns-in-Some c =
    plain_steps c.args.self.now c.next_frequent.new.self c.requires c.in-Some.ensures.source c.in-Some.range
    c.in-Some.ensures.takes

pub returns-in-None : goal.returns-in-None
returns-in-None c =
    let t = c.scan_ahead.new.self in
    let same = c.scan_ahead.ensures.source ∙ c.in-None.ensures.source in
    subst (λ (found : Option TokenRange). range_or_none c.args.self.now found t) (sym c.ok.ensures.value)
    (other_or_none c.args.self.now t c.requires same c.next_frequent.new.self c.scan_ahead.result c.in-None.ensures.takes
    c.scan_ahead.ensures.takes)
