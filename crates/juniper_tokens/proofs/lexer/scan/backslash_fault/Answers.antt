use Rattle.std.proofs.Common.{get_or, ap, sym, subst, ◌∙◌}
use Rattle.std.specs.Str.{chars}
use Rattle.graphql_lexical.specs.device.Scan.{after_backslash}
use Rattle.juniper_tokens.specs.device.Scans.{Misses}
use Rattle.juniper_tokens.proofs.Offsets.{take_first}
use Rattle.juniper_tokens.proofs.EscapeFaults.{backslash_mark, backslash_missed}
use Rattle.juniper_tokens.proofs.Stops.{nothing_stands, something_stands}
use Rattle.juniper_tokens.proofs.lexer.scan.backslash_fault.Goals as goal

pub returns-then-is_empty : goal.returns-then-is_empty
returns-then-is_empty c = ap (after_backslash c.args.at)
    (nothing_stands c.args.rest.now c.utf8.rest (sym c.is_empty.ensures ∙ c.if-is_empty.true))

pub returns-else-is_empty : goal.returns-else-is_empty
returns-else-is_empty c =
    let cs = chars c.args.rest.now in
    let first = something_stands c.args.rest.now c.utf8.rest (sym c.is_empty.ensures ∙ c.if-is_empty.false) in
    subst (Misses c.escape_fault.result) (backslash_missed c.args.at (get_or cs 0 0) _ _ _ _ backslash_mark
    (c.first_characters.ensures ∙ take_first _ _ _ first) first) c.escape_fault.ensures
