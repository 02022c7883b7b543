use Rattle.std.proofs.Common.{◌≡◌, ◌∙◌, ◌++◌, ◌∷◌, ◌-◌, [], ℕ, length, ap, arith, string_bytes, encode_utf8_all}
use Rattle.std.specs.Str.{chars}
use Rattle.firthnapkin_results.specs.Excerpts.{spaces}
use Rattle.firthnapkin_results.proofs.Appended.{ascii_encoded, bytes_then, text_appended, then_appended, pushed}
use Rattle.firthnapkin_results.proofs.excerpt.rows.push_label.Goals as goal

pub returns : goal.returns
returns c =
    let old = string_bytes c.args.out.now in
    let first = string_bytes c.push_spaces.new.out in
    let second = string_bytes c.push_str.new.self in
    let third = string_bytes c.push_str-2.new.self in
    let label = chars c.args.label.now in
    let bar = 32 ∷ 124 ∷ [] in
    let margin : first ≡ old ++ encode_utf8_all (spaces (c.args.width - length label)) =
    c.in_ok-push_spaces.ensures ∙ ap (λ (n : ℕ). old ++ encode_utf8_all (spaces n))
    (c.saturating_sub.ensures ∙ ap (λ (n : ℕ). c.args.width - n) c.character_count.ensures.count) in
    let last = bytes_then c.push_str-2.result second third bar (ascii_encoded bar (omega arith, (omega arith, tt)))
    (pushed c.push_str-2.result second bar third c.push_str-2.ensures.bytes) in
    then_appended c.push_str-2.result old first third (spaces (c.args.width - length label)) (label ++ bar) margin
    (then_appended c.push_str-2.result first second third label bar
    (text_appended first second c.args.label.now c.utf8.label c.in_ok-push_str.ensures.bytes) last)
