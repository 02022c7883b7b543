use Rattle.std.proofs.Common.{ap, ◌∙◌}
use Rattle.graphql_lexical.specs.Cutting.{Lexeme}
use Rattle.juniper_tokens.proofs.Feeds.{first_seen, range_seen}
use Rattle.juniper_tokens.proofs.Texts.{open_text}
use Rattle.juniper_tokens.specs.Cursor.{has_text}
use Rattle.juniper_tokens.proofs.cursor.Cursor.text.Goals as goal

pub text-requires : goal.text-requires
text-requires g c =
    let here = c.self.inside in
    let source = g.W.SourceText.characters here.source in
    let range = range_seen source g.M.Feed.IS_STREAM here.records here.stream here.taken here.next here.last_end
    c.self.invariant c.args.self.now c.self.view_is c.next_range.result
    c.next_range.ensures.stream c.next_range.ensures.listed in
    rw c.as_str.ensures range

pub returns : goal.returns
returns g c open_kind =
    let here = c.self.inside in
    let source = g.W.SourceText.characters here.source in
    let first = first_seen source g.M.Feed.IS_STREAM here.records here.stream here.taken here.next here.last_end
    c.self.invariant c.args.self.now c.self.view_is c.next_range.result
    c.next_range.ensures.stream c.next_range.ensures.listed in
    c.text.ensures
    ∙ rw c.as_str.ensures
    (open_text _ _ (ap (λ (t : Lexeme). has_text t.kind) first ∙ open_kind) ∙ ap (λ (t : Lexeme). t.text) first)
