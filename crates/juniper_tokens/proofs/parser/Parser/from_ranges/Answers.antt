use Rattle.std.proofs.Common.{◌∙◌, ap, sym, subst}
use Rattle.std.proofs.lemmas.List.Elements.{All-get_or}
use Rattle.std.specs.Str.{chars}
use Rattle.juniper_tokens.specs.LineTables.{Lines}
use Rattle.juniper_tokens.specs.device.Ranges.{IsRange}
use Rattle.juniper_tokens.proofs.Steps.{some_left, first_left}
use Rattle.juniper_tokens.proofs.parser.Parser.from_ranges.Goals as goal

pub located-current-requires-clause-range : goal.located-current-requires-clause-range
located-current-requires-clause-range c =
    let source = chars c.args.source.now in
    let ranges = c.args.ranges.items in
    subst (IsRange source) (sym c.index.ensures)
    (All-get_or (IsRange source) ranges 0 c.index.result.now (some_left source ranges c.requires.ends)
    c.requires.ranges)

pub invariant_of-result : goal.invariant_of-result
invariant_of-result c =
    let source = chars c.args.source.now in
    record {
      left = record { are_ranges = c.requires.ranges; in_order = c.requires.order; ended = c.requires.ends; lines_are = ap (λ (t : Lines). t.starts) c.requires.lines };
      first = c.located-current.ensures ∙ sym (first_left source c.args.ranges.items 0 _
          (some_left source c.args.ranges.items c.requires.ends) (sym c.index.ensures));
    }
