use Rattle.std.proofs.Common.{◌≡◌, ◌∙◌, ◌++◌, ◌∷◌, ◌-◌, [], ℕ, ap₂, string_bytes, encode_utf8_all}
use Rattle.std.specs.Char.{encode_utf8}
use Rattle.std.specs.Str.{chars}
use Rattle.graphql_lexical.specs.Characters.{Text}
use Rattle.firthnapkin_results.specs.Excerpts.{line_row}
use Rattle.firthnapkin_results.proofs.Appended.{one_then, then_appended, pushed}
use Rattle.firthnapkin_results.proofs.excerpt.rows.push_above.Goals as goal

pub returns-in_ok-push_line-in-Some : goal.returns-in_ok-push_line-in-Some
returns-in_ok-push_line-in-Some c =
    let old = string_bytes c.args.out.now in
    let first = string_bytes c.push_line.new.out in
    let second = string_bytes c.push.new.self in
    let excerpt = c.args.excerpt.now in
    let above = chars c.in-Some.above.now in
    let line : first ≡ old ++ encode_utf8_all (line_row c.args.width excerpt.column (excerpt.number - 1) above) =
    c.in_ok-push_line-in-Some.ensures
    ∙ ap₂ (λ (n : ℕ) (t : Text). old ++ encode_utf8_all (line_row c.args.width excerpt.column n t))
    c.saturating_sub-number.ensures c.whole.ensures in
    rw c.in-Some.is (then_appended c.push.result old first second
    (line_row c.args.width excerpt.column (excerpt.number - 1) above) (10 ∷ []) line
    (one_then c.push.result first second 10 (pushed c.push.result first (encode_utf8 10) second c.push.ensures.bytes)))
