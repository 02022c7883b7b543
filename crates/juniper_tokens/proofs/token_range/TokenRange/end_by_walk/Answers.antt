use Rattle.std.proofs.Common.{◌<◌, ◌^◌, length, sym, ap, ◌∙◌, take, subst, rules, arith}
use Rattle.std.specs.List.{fold}
use Rattle.graphql_lexical.specs.Place.{past_character}
use Rattle.std.specs.Str.{chars}
use Rattle.std.proofs.lemmas.Str.{encodes-chars}
use lib.Utf8.{encodes}
use Rattle.juniper_tokens.specs.declared.lexer.text.Offset.{Offset}
use Rattle.juniper_tokens.specs.device.Offsets.{IsOffset}
use Rattle.juniper_tokens.proofs.Offsets.{byte_at_within}
use Rattle.juniper_tokens.proofs.Ranges.{range_fits, range_end, range_order, range_width, start_index}
use Rattle.juniper_tokens.proofs.token_range.TokenRange.end_by_walk.Goals as goal

pub size-size-requires-clause-bytes : goal.size-size-requires-clause-bytes
size-size-requires-clause-bytes c = range_order (chars c.args.source.now) c.args.self.now c.requires.range

pub text_before-requires : goal.text_before-requires
text_before-requires c =
    subst (λ (b : Offset). IsOffset b (chars c.text_from-rest.result.now)) (sym c.size-size.ensures)
    (range_width (chars c.args.source.now) _ c.args.self.now c.requires.range c.text_from-rest.ensures.characters)

pub walk_text-requires : goal.walk_text-requires
walk_text-requires c =
    let fits : length c.args.source.now < 2 ^ 64 = search rules in
    let front = c.text_before.result.now in
    let rest = c.text_from-rest.result.now in
    omega (
      arith,
      start_index (chars c.args.source.now) c.args.self.now c.args.start c.requires.range c.requires.start,
      byte_at_within c.size-size.result.characters (length front) rest c.text_from-rest.utf8
          (ap length (sym (encodes-chars front c.text_before.utf8) ∙ ap encodes c.text_before.ensures)),
      range_fits c.args.source.now _ c.args.self.now c.requires.range c.text_from-rest.ensures.length fits,
    )

pub returns : goal.returns
returns c =
    c.walk_text.ensures
    ∙ (ap (fold past_character c.args.start) (c.text_before.ensures
    ∙ ap (λ (b : Offset). take b.characters (chars c.text_from-rest.result.now)) c.size-size.ensures)
    ∙ range_end (chars c.args.source.now) _ c.args.self.now c.args.start c.requires.range c.requires.start
    c.text_from-rest.ensures.characters)
