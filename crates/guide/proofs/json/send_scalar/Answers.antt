use Rattle.std.proofs.Common.{OnOk, ◌∙◌, ap, sym, subst}
use Rattle.std.proofs.lemmas.Str.{encodes-chars}
use Rattle.std.specs.Str.{chars, encode_utf8_all}
use Rattle.serde.specs.Event.{Logs, text}
use Rattle.juniper_values.specs.Default.{default_content}
use Rattle.guide.specs.Json.{scalar_event}
use Rattle.guide.proofs.json.send_scalar.Goals as goal

pub returns-in-String : goal.returns-in-String
returns-in-String g c =
    let bytes = sym (encodes-chars c.as_str.result.now c.as_str.utf8)
    ∙ ap (λ bs. encode_utf8_all (chars bs)) c.as_str.ensures.value in
    let old = g.T.Serializer.written c.args.out.now in
    let new = g.T.Serializer.written c.str.new.self in
    subst (λ e. OnOk c.str.result (Logs old new e))
    (ap text bytes ∙ sym (ap (λ s. scalar_event (default_content s)) c.in-String.is)) c.str.ensures
