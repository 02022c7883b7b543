use Rattle.std.proofs.Common.{ap, ◌∙◌, drop, List, ℕ, subst}
use Rattle.std.proofs.lemmas.List.{drop-map}
use Rattle.std.specs.Str.{chars}
use Rattle.juniper_tokens.specs.Taking.{left}
use Rattle.juniper_tokens.specs.device.LineSteps.{IsLine}
use Rattle.juniper_tokens.specs.declared.token_range.TokenRange.{TokenRange}
use Rattle.juniper_tokens.specs.device.Ranges.{range_lexeme, range_lexemes}
use Rattle.juniper_tokens.proofs.Steps.{line_within, on_its_line}
use Rattle.juniper_tokens.proofs.parser.Parser.cursor.Goals as goal

pub returns : goal.returns
returns c =
    let here = c.self.inside in
    let source = chars here.source.now in
    ap left c.from_ranges.ensures ∙ (drop-map (range_lexeme source) here.taken c.deref.result.now
    ∙ (ap (λ (rs : List TokenRange). range_lexemes source (drop here.taken rs)) c.deref.ensures.value ∙ c.self.view_is))

pub new-line-requires : goal.new-line-requires
new-line-requires c =
    let here = c.self.inside in
    rw c.starts-starts.ensures (line_within (chars here.source.now) here.ranges.items here.lines.starts here.taken
    here.current c.self.invariant _ c.line.ensures)

pub from_ranges-requires-clause-on : goal.from_ranges-requires-clause-on
from_ranges-requires-clause-on c =
    let here = c.self.inside in
    let line = subst (λ (ss : List ℕ). IsLine ss c.new-line.result) c.starts-starts.ensures c.new-line.ensures.line in
    rw (c.starts-starts.ensures, c.deref.ensures.value) (on_its_line (chars here.source.now) here.ranges.items
    here.lines.starts here.taken here.current c.self.invariant c.new-line.result line
    (c.new-line.ensures.number ∙ c.line.ensures))
