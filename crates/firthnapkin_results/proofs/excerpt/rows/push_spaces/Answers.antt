use Rattle.std.proofs.Common.{◌∙◌, ◌++◌, ◌∷◌, [], sym, ap, add-one, string_bytes, encode_utf8_all}
use Rattle.graphql_lexical.specs.Characters.{Text}
use Rattle.firthnapkin_results.specs.Excerpts.{spaces}
use Rattle.firthnapkin_results.proofs.Appended.{both_appended, one_appended, spaces_more}
use Rattle.firthnapkin_results.proofs.excerpt.rows.push_spaces.Goals as goal

pub loop-preserved : goal.loop-preserved
loop-preserved c =
    let old = string_bytes c.args.out.now in
    let before = string_bytes c.loop.out in
    let after = string_bytes c.push.new.self in
    let n = c.loop.counter in
    both_appended old before after (spaces n) (32 ∷ []) c.loop.invariant
    (one_appended before after 32 c.in_ok-push.ensures.bytes)
    ∙ ap (λ (t : Text). old ++ encode_utf8_all t) (spaces_more n ∙ ap spaces (sym (add-one n)))
