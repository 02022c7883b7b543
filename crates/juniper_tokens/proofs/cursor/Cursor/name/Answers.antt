use Rattle.std.proofs.Common.{ap, ◌∙◌}
use Rattle.graphql_lexical.specs.declared.kind.Kind.TheVariants.{Name}
use Rattle.graphql_lexical.specs.Kinds.{same_kind}
use Rattle.graphql_lexical.specs.Cutting.{Lexeme}
use Rattle.juniper_tokens.proofs.Texts.{name_has_text, open_text, whole_name}
use Rattle.juniper_tokens.proofs.Feeds.{first_seen, range_seen}
use Rattle.juniper_tokens.proofs.cursor.Cursor.name.Goals as goal

pub part-requires-clause-start : goal.part-requires-clause-start
part-requires-clause-start g c =
    let here = c.self.inside in
    let source = g.W.SourceText.characters here.source in
    (range_seen source g.M.Feed.IS_STREAM here.records here.stream here.taken here.next here.last_end
    c.self.invariant c.args.self.now c.self.view_is c.next_range-range.result
    c.next_range-range.ensures.stream c.next_range-range.ensures.listed).start

pub part-requires-clause-end : goal.part-requires-clause-end
part-requires-clause-end g c =
    let here = c.self.inside in
    let source = g.W.SourceText.characters here.source in
    (range_seen source g.M.Feed.IS_STREAM here.records here.stream here.taken here.next here.last_end
    c.self.invariant c.args.self.now c.self.view_is c.next_range-range.result
    c.next_range-range.ensures.stream c.next_range-range.ensures.listed).end

pub part-requires-clause-forward : goal.part-requires-clause-forward
part-requires-clause-forward g c =
    let here = c.self.inside in
    let source = g.W.SourceText.characters here.source in
    (range_seen source g.M.Feed.IS_STREAM here.records here.stream here.taken here.next here.last_end
    c.self.invariant c.args.self.now c.self.view_is c.next_range-range.result
    c.next_range-range.ensures.stream c.next_range-range.ensures.listed).forward

pub part-requires-clause-within : goal.part-requires-clause-within
part-requires-clause-within g c =
    let here = c.self.inside in
    let source = g.W.SourceText.characters here.source in
    (range_seen source g.M.Feed.IS_STREAM here.records here.stream here.taken here.next here.last_end
    c.self.invariant c.args.self.now c.self.view_is c.next_range-range.result
    c.next_range-range.ensures.stream c.next_range-range.ensures.listed).within

pub returns : goal.returns
returns g c =
    let here = c.self.inside in
    let source = g.W.SourceText.characters here.source in
    let first = first_seen source g.M.Feed.IS_STREAM here.records here.stream here.taken here.next here.last_end
    c.self.invariant c.args.self.now c.self.view_is c.next_range-range.result
    c.next_range-range.ensures.stream c.next_range-range.ensures.listed in
    let is_name = ap (λ (t : Lexeme). same_kind t.kind Name) first ∙ c.requires in
    c.part.ensures
    ∙ (whole_name _ _ is_name
    ∙ (open_text _ _ (name_has_text _ is_name) ∙ ap (λ (t : Lexeme). t.text) first))
