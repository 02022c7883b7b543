use Rattle.std.proofs.Common.{List, ℕ, ap, sym, subst, ◌∙◌}
use Rattle.juniper_tokens.specs.Cursor.{EndsOnce}
use Rattle.juniper_tokens.specs.Lexing.{LexerState}
use Rattle.juniper_tokens.specs.device.Ranges.{range_lexemes}
use Rattle.juniper_tokens.proofs.Gathering.{cut_ends_once}
use Rattle.juniper_tokens.proofs.parser.Parser.new_within.Goals as goal

pub from_ranges-requires-clause-ends : goal.from_ranges-requires-clause-ends
from_ranges-requires-clause-ends c =
    subst (λ (source : List ℕ). EndsOnce (range_lexemes source c.gather-gathered.new.ranges.items))
    (ap (λ (s : LexerState). s.source) c.duplicate-rest.ensures ∙ sym c.source-source.ensures)
    (cut_ends_once _ _ _ c.in_ok-lines.ensures.tokens)
