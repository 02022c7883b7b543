use Rattle.std.proofs.Common.{◌≡◌, ◌∙◌, ◌++◌, ◌∷◌, ◌-◌, [], ℕ, sym, ap, string_bytes, encode_utf8_all, nat_lt, if◌then◌else◌}
use Rattle.std.specs.Char.{encode_utf8}
use Rattle.std.proofs.lemmas.Str.{chars-nil}
use Rattle.graphql_lexical.specs.Characters.{Text}
use Rattle.firthnapkin_results.specs.Excerpts.{aligned, caret_row, first_shown, spaces}
use Rattle.firthnapkin_results.specs.device.Excerpts.{line_of}
use Rattle.firthnapkin_results.proofs.Appended.{one_appended, one_then, then_appended, then_same, pushed}
use Rattle.firthnapkin_results.proofs.ExcerptRows.{caret_after_bar}
use Rattle.firthnapkin_results.proofs.excerpt.rows.push_caret.Goals as goal

pub returns : goal.returns
returns c =
    let old = string_bytes c.args.out.now in
    let first = string_bytes c.push_label.new.out in
    let second = string_bytes c.push.new.self in
    let third = string_bytes c.push_spaces.new.out in
    let fourth = string_bytes c.push-2.new.self in
    let column = c.args.column in
    let line = line_of c.args.line in
    let before = column - first_shown column line in
    let label : first ≡ old ++ encode_utf8_all (aligned c.args.width []) =
    c.in_ok-push_label.ensures ∙ ap (λ (t : Text). old ++ encode_utf8_all (aligned c.args.width t)) chars-nil in
    let margin : third ≡ second ++ encode_utf8_all (spaces before) =
    c.in_ok-push_spaces.ensures ∙ ap (λ (n : ℕ). second ++ encode_utf8_all (spaces n)) (c.saturating_sub.ensures
    ∙ ap (λ (n : ℕ). column - n) (c.first_shown-first.ensures
    ∙ ap (λ (n : ℕ). if nat_lt 120 n then column - 40 else 0) c.line_length.ensures)) in
    let caret = one_then c.push-2.result third fourth 94
    (pushed c.push-2.result third (encode_utf8 94) fourth c.push-2.ensures.bytes) in
    then_same c.push-2.result old fourth (aligned c.args.width [] ++ (32 ∷ (spaces before ++ 94 ∷ [])))
    (caret_row c.args.width column line)
    (ap (λ (t : Text). aligned c.args.width [] ++ t) (sym (caret_after_bar before)))
    (then_appended c.push-2.result old first fourth (aligned c.args.width []) (32 ∷ (spaces before ++ 94 ∷ [])) label
    (then_appended c.push-2.result first second fourth (32 ∷ []) (spaces before ++ 94 ∷ [])
    (one_appended first second 32 c.in_ok-push.ensures.bytes)
    (then_appended c.push-2.result second third fourth (spaces before) (94 ∷ []) margin caret)))
