use Rattle.std.proofs.Common.{ap, ap₂, ◌∙◌, ℕ, List, drop, arith}
use Rattle.std.specs.List.{fold}
use Rattle.std.specs.Str.{chars}
use Rattle.juniper_tokens.specs.device.LineSteps.{made_table, past}
use Rattle.juniper_tokens.proofs.LexingByScan.{chars_fit}
use Rattle.juniper_tokens.proofs.LinesSoFar.{all_lines}
use Rattle.juniper_tokens.proofs.line_table.LineStarts.into_table.Goals as goal

pub push_lines-requires : goal.push_lines-requires
push_lines-requires c = omega (
  arith,
  c.index.ensures,
  chars_fit _ 0 _ _ _ c.requires.placed c.text_from-rest.ensures.length c.text_from-rest.utf8
      (c.text_from-rest.ensures.characters ∙ ap (λ k. drop k (chars c.args.source.now)) c.index.ensures),
)

pub returns : goal.returns
returns c =
    let source = chars c.args.source.now in
    let starts = c.args.self.starts.items in
    let rest = c.text_from-rest.ensures.characters ∙ ap (λ k. drop k source) c.index.ensures in
    all_lines source starts c.args.place.index c.requires.placed.within c.requires.lines.so_far
    (made_table c.push_lines.new.starts.items c.in_ok-lines.field-0)
    (c.in_ok-lines.ensures ∙ ap₂ (λ (n : ℕ) (cs : List ℕ). fold past (made_table starts n) cs) c.index.ensures rest)

pub invariant_of-result : goal.invariant_of-result
invariant_of-result c = record { source = chars c.args.source.now; is = returns c }
