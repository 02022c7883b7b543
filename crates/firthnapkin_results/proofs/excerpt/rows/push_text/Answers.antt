use Rattle.std.proofs.Common.{◌≡◌, ◌∙◌, ◌++◌, ◌∷◌, ◌-◌, ◌<◌, [], ℕ, length, take, drop, map, sym, ap, ap₂, arith, string_bytes, encode_utf8_all, nat_lt, if◌then◌else◌, OnOk}
use Rattle.firthnapkin_results.specs.Excerpts.{after_bar, first_shown, part_shown, visible}
use Rattle.firthnapkin_results.specs.device.Excerpts.{line_of}
use Rattle.firthnapkin_results.proofs.Appended.{one_appended, then_appended, then_same}
use Rattle.firthnapkin_results.proofs.ExcerptRows.{most, some_shown}
use Rattle.firthnapkin_results.proofs.excerpt.rows.push_text.Goals as goal

pub returns : goal.returns
returns c =
    let old = string_bytes c.args.out.now in
    let first = string_bytes c.push.new.self in
    let second = string_bytes c.push_part.new.out in
    let column = c.args.column in
    let line = line_of c.args.line in
    let start : c.first_shown-first.result ≡ first_shown column line =
    c.first_shown-first.ensures
    ∙ ap (λ (n : ℕ). if nat_lt 120 n then column - 40 else 0) c.line_length-length.ensures in
    let count : c.most_shown.result ≡ most line =
    c.most_shown.ensures ∙ ap (λ (n : ℕ). if nat_lt 120 n then 80 else n) c.line_length-length.ensures in
    let part : OnOk c.push_part.result (second ≡ first ++ encode_utf8_all
    (map visible (take (most line) (drop (first_shown column line) line)))) =
    then_same c.push_part.result first second
    (map visible (take c.most_shown.result (drop c.first_shown-first.result line)))
    (map visible (take (most line) (drop (first_shown column line) line)))
    (ap₂ (λ (n m : ℕ). map visible (take n (drop m line))) count start) c.push_part.ensures in
    let some : first_shown column line < length line =
    omega (arith, start, c.line_length-length.ensures, c.if-length-first.false) in
    then_same c.push_part.result old second
    (32 ∷ map visible (take (most line) (drop (first_shown column line) line)))
    (after_bar (map visible (part_shown column line))) (sym (some_shown column line some))
    (then_appended c.push_part.result old first second (32 ∷ [])
    (map visible (take (most line) (drop (first_shown column line) line)))
    (one_appended old first 32 c.in_ok-push.ensures.bytes) part)
