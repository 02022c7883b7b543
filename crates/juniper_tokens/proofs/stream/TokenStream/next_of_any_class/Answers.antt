use Rattle.std.proofs.Common.{◌∙◌, ap}
use Rattle.juniper_tokens.specs.device.LexingByScan.{past_ignored}
use Rattle.juniper_tokens.specs.device.Streams.{StreamState, standing}
use Rattle.juniper_tokens.proofs.Streams.{gives_past}
use Rattle.juniper_tokens.proofs.stream.TokenStream.next_of_any_class.Goals as goal

pub returns : goal.returns
returns c =
    gives_past c.args.self.now c.requires.some c.requires.shallow c.self.inside.lexer
    (ap (λ (s : StreamState). s.source) c.self.view_is) (ap (λ (s : StreamState). s.index) c.self.view_is)
    c.skip_ignored-class.new.self (c.skip_ignored-class.ensures.passes ∙ ap past_ignored c.duplicate-lexer.ensures)
    (standing c.take.new.self c.take.new.next) c.take.new.self c.take.ensures
