use Rattle.std.proofs.Common.{◌≡◌, ◌∙◌, ◌++◌, ◌∷◌, [], ℕ, List, length, ap, string_bytes, encode_utf8_all}
use Rattle.std.specs.Fmt.{decimal}
use Rattle.firthnapkin_results.specs.Excerpts.{caret_row, last_number, line_row, row_above, row_below, shown}
use Rattle.firthnapkin_results.specs.device.Excerpts.{view_excerpt}
use Rattle.firthnapkin_results.proofs.Appended.{both_appended, one_appended}
use Rattle.firthnapkin_results.proofs.excerpt.rows.written.Goals as goal

pub returns : goal.returns
returns c =
    let start = string_bytes c.new-out.result in
    let first = string_bytes c.push_above.new.out in
    let second = string_bytes c.push_line.new.out in
    let third = string_bytes c.push.new.self in
    let fourth = string_bytes c.push_caret.new.out in
    let fifth = string_bytes c.push_below.new.out in
    let excerpt = c.args.excerpt.now in
    let view = view_excerpt excerpt in
    let width = c.len-width.result in
    let wide : width ≡ length (decimal (last_number view)) =
    c.len-width.ensures ∙ (c.in_ok-digits.field-0.bytes.ok.0 ∙ (ap length c.in_ok-digits.ensures
    ∙ ap (λ (n : ℕ). length (decimal n)) c.last_number.ensures)) in
    let caret = caret_row width view.column view.line in
    let below = row_below width view view.below in
    both_appended start first fifth (row_above width view view.above)
    (line_row width view.column view.number view.line ++ (10 ∷ (caret ++ below))) c.in_ok-push_above.ensures
    (both_appended first second fifth (line_row width view.column view.number view.line) (10 ∷ (caret ++ below))
    c.in_ok-push_line.ensures
    (both_appended second third fifth (10 ∷ []) (caret ++ below)
    (one_appended second third 10 c.in_ok-push.ensures.bytes)
    (both_appended third fourth fifth caret below c.in_ok-push_caret.ensures c.in_ok-push_below.ensures)))
    ∙ (ap (λ (l : List ℕ). l ++ encode_utf8_all (shown width view)) c.new-out.ensures.bytes
    ∙ ap (λ (n : ℕ). encode_utf8_all (shown n view)) wide)
