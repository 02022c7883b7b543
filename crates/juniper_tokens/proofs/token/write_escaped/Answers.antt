use Rattle.std.proofs.Common.{rules, ap, sym, ◌∙◌}
use Rattle.std.proofs.Output.{has_written_append, has_written_of_eq}
use Rattle.std.proofs.lemmas.Iterator.{YieldsList-from_chars}
use Rattle.std.proofs.lemmas.Iterator.Consumers.{YieldsList-end}
use Rattle.std.proofs.lemmas.List.{map-id}
use Rattle.std.specs.Str.{encode_utf8_all}
use Rattle.graphql_lexical.specs.Display.{escaped}
use Rattle.juniper_tokens.proofs.Texts.{escaped_more}
use Rattle.juniper_tokens.proofs.token.write_escaped.Goals as goal

pub loop-c-preserved : goal.loop-c-preserved
loop-c-preserved g c p =
    has_written_of_eq _ _ _ _ _ (escaped_more c.loop-c.yielded c.in-Some.c)
    (has_written_append _ _ _ _ _ _ (c.loop-c.invariant p) (search rules))

pub returns : goal.returns
returns g c p ok =
    let t = YieldsList-end (YieldsList-from_chars c.args.text.now c.utf8.text cc) c.loop-c.yielded _ c.loop-c.yielded_by
    _ _ c.in-None.is c.next.ensures.steps in
    has_written_of_eq _ _ _ _ _ (ap (λ l. encode_utf8_all (escaped l)) (sym (map-id c.loop-c.yielded) ∙ t.0))
    (c.loop-c.invariant p)
