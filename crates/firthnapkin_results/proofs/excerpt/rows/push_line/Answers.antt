use Rattle.std.proofs.Common.{◌≡◌, ◌∙◌, ◌++◌, map, ap, arith, string_bytes, encode_utf8_all}
use Rattle.std.specs.Fmt.{decimal}
use Rattle.std.specs.Str.{chars}
use Rattle.std.proofs.lemmas.Fmt.{IsAscii-decimal}
use Rattle.std.proofs.lemmas.Str.{chars-IsAscii}
use Rattle.graphql_lexical.specs.Characters.{Text}
use Rattle.firthnapkin_results.specs.Excerpts.{after_bar, aligned, part_shown, visible}
use Rattle.firthnapkin_results.specs.device.Excerpts.{line_of}
use Rattle.firthnapkin_results.proofs.Appended.{then_appended}
use Rattle.firthnapkin_results.proofs.excerpt.rows.push_line.Goals as goal

pub returns : goal.returns
returns c =
    let old = string_bytes c.args.out.now in
    let number = decimal c.args.number in
    let label : chars c.as_str.result.now ≡ number =
    ap chars (c.as_str.ensures.value ∙ c.in_ok-label.ensures)
    ∙ chars-IsAscii number (IsAscii-decimal c.args.number (omega (arith, c.ranges.number.fits))) in
    then_appended c.push_text.result old (string_bytes c.push_label.new.out) (string_bytes c.push_text.new.out)
    (aligned c.args.width number) (after_bar (map visible (part_shown c.args.column (line_of c.args.line))))
    (c.in_ok-push_label.ensures ∙ ap (λ (t : Text). old ++ encode_utf8_all (aligned c.args.width t)) label)
    c.push_text.ensures
