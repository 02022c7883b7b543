use Rattle.std.proofs.Common.{◌∙◌, ◌++◌, ◌∷◌, [], ℕ, map, sym, ap, string_bytes, encode_utf8_all}
use Rattle.std.specs.Char.{encode_utf8}
use Rattle.std.proofs.lemmas.Iterator.{YieldsList-from_chars, YieldsList-from_take}
use Rattle.std.proofs.lemmas.Iterator.Adapters.{YieldsList-from_skip}
use Rattle.std.proofs.lemmas.Iterator.Consumers.{YieldsList-end, YieldsList-from_chain}
use Rattle.std.proofs.lemmas.List.{map-append, map-id}
use Rattle.graphql_lexical.specs.Characters.{Text}
use Rattle.firthnapkin_results.specs.Excerpts.{visible}
use Rattle.firthnapkin_results.proofs.Appended.{both_appended, one_appended}
use Rattle.firthnapkin_results.proofs.excerpt.rows.push_part.Goals as goal

pub loop-c-preserved : goal.loop-c-preserved
loop-c-preserved c =
    let old = string_bytes c.args.out.now in
    let before = string_bytes c.loop-c.out in
    let after = string_bytes c.push.new.self in
    let these = c.loop-c.yielded in
    let next = c.in-Some.c in
    both_appended old before after (map visible these) (visible next ∷ []) c.loop-c.invariant
    (one_appended before after (visible next) (c.in_ok-push.ensures.bytes
    ∙ ap (λ (d : ℕ). before ++ encode_utf8 d) c.visible.ensures))
    ∙ ap (λ (t : Text). old ++ encode_utf8_all t) (sym (map-append visible these (next ∷ [])))

pub returns : goal.returns
returns c =
    let all = YieldsList-end (YieldsList-from_take c.args.most (YieldsList-from_skip c.args.first
    (YieldsList-from_chain (YieldsList-from_chars c.args.front.now c.utf8.front (cc))
    (YieldsList-from_chars c.args.back.now c.utf8.back (cc)) (cc) (cc)) (cc)) (cc)) c.loop-c.yielded _
    c.loop-c.yielded_by _ _ c.in-None.is c.next.ensures.steps in
    c.loop-c.invariant
    ∙ ap (λ (t : Text). string_bytes c.args.out.now ++ encode_utf8_all (map visible t))
    (sym (map-id c.loop-c.yielded) ∙ all.0)
