use Rattle.std.proofs.Common.{◌≡◌, ◌≤◌, ◌-◌, ℕ, List, length, take, drop, sym, ap, ap₂, ◌∙◌, arith}
use Rattle.std.specs.List.{fold}
use Rattle.std.specs.Str.{chars}
use Rattle.std.proofs.lemmas.Str.{encodes-chars}
use lib.Utf8.{encodes}
use Rattle.juniper_tokens.specs.device.ByteRuns.{byte_at}
use Rattle.juniper_tokens.specs.device.LineSteps.{made_table, past}
use Rattle.juniper_tokens.proofs.Offsets.{byte_at_within, bytes_between, fits_from}
use Rattle.juniper_tokens.proofs.LinesSoFar.{lines_more}
use Rattle.juniper_tokens.proofs.line_table.push_up_to.Goals as goal

pub overflow_sub-size : goal.overflow_sub-size
overflow_sub-size c = omega (
  arith,
  bytes_between (chars c.args.source.now) c.args.from.characters c.args.place.index _ _ c.requires.offset
      c.requires.placed.byte_is c.requires.before,
)

pub text_before-requires : goal.text_before-requires
text_before-requires c =
    let source = chars c.args.source.now in
    let j = c.args.from.characters in
    let width : c.args.at - c.args.from.bytes ≡ byte_at (c.args.place.index - j) (drop j source) = omega (
      arith,
      bytes_between source j c.args.place.index _ _ c.requires.offset c.requires.placed.byte_is c.requires.before,
    ) in
    width ∙ ap₂ (λ (n : ℕ) (cs : List ℕ). byte_at (n - j) cs) (sym c.index.ensures)
    (sym c.text_from-rest.ensures.characters)

pub push_lines-requires : goal.push_lines-requires
push_lines-requires c =
    let front = c.text_before.result.now in
    let rest = c.text_from-rest.result.now in
    let within : c.args.from.characters ≤ length (chars c.args.source.now) = omega (
      arith,
      c.requires.before,
      c.requires.placed.within,
    ) in
    omega (
      arith,
      byte_at_within _ (length front) rest c.text_from-rest.utf8
          (ap length (sym (encodes-chars front c.text_before.utf8) ∙ ap encodes c.text_before.ensures)),
      fits_from c.args.source.now rest c.args.from.characters c.args.from.bytes c.requires.offset within
          c.text_from-rest.ensures.length c.requires.placed.fits,
    )

pub returns : goal.returns
returns c =
    let source = chars c.args.source.now in
    let starts = c.args.starts.now.items in
    let j = c.args.from.characters in
    let within : j ≤ length source = omega (arith, c.requires.before, c.requires.placed.within) in
    let between = c.text_before.ensures ∙ ap₂ (λ (n : ℕ) (cs : List ℕ). take (n - j) cs) c.index.ensures
    c.text_from-rest.ensures.characters in
    lines_more source starts j c.args.place.index c.requires.before c.requires.counted c.push_lines.new.starts.items
    c.in_ok-push_lines.field-0 within (c.in_ok-push_lines.ensures ∙ ap (fold past (made_table starts j)) between)
