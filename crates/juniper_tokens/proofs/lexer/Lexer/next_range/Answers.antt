use Rattle.std.proofs.Common.{◌∙◌}
use Rattle.juniper_tokens.proofs.Ranges.{plain_steps, other_steps}
use Rattle.juniper_tokens.proofs.lexer.Lexer.next_range.Goals as goal

pub returns-in-Some : goal.returns-in-Some
returns-in-Some c =
    plain_steps c.args.self.now c.next_frequent.new.self c.requires c.in-Some.ensures.source c.in-Some.range
    c.in-Some.ensures.takes

pub returns-in-None : goal.returns-in-None
returns-in-None c =
    let same = c.scan_ahead.ensures.source ∙ c.in-None.ensures.source in
    other_steps c.args.self.now c.scan_ahead.new.self c.requires same c.next_frequent.new.self c.scan_ahead.result
    c.in-None.ensures.takes c.scan_ahead.ensures.takes
