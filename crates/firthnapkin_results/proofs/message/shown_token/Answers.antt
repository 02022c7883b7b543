use Rattle.std.proofs.Common.{◌∙◌, ap}
use Rattle.std.specs.Prelude.{encode_utf8_all}
use Rattle.std.specs.Str.{chars}
use Rattle.std.proofs.lemmas.Result.{IfOk-weaker}
use Rattle.firthnapkin_results.proofs.Quotes.{is_shown, shown_plain, shown_string}
use Rattle.firthnapkin_results.proofs.message.shown_token.Goals as goal

pub returns-in-Some : goal.returns-in-Some
returns-in-Some c = λ k text h.
    IfOk-weaker c.format.result _ _
    (λ out e. e ∙ ap encode_utf8_all
    (shown_string (chars c.args.written.now) text (chars c.in-Some.text.now) _ c.in-Some.ensures
    (is_shown (chars c.args.written.now) k text h)))
    c.format.ensures.ok

pub returns-in-None : goal.returns-in-None
returns-in-None c = λ k text h.
    IfOk-weaker c.from_str.result _ _
    (λ out e. e ∙ shown_plain c.args.written.now text _ c.utf8.written c.in-None.ensures
    (is_shown (chars c.args.written.now) k text h))
    c.from_str.ensures.ok
