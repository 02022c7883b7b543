use Rattle.std.proofs.Common.{◌≡◌, ◌+◌, drop, ap, sym, ◌∙◌, arith}
use Rattle.std.specs.Str.{chars}
use Rattle.juniper_tokens.proofs.Public.{byte_at_boundary, chars_drop}
use Rattle.juniper_requests.proofs.Borders.{found_after, none_after, found_within}
use Rattle.juniper_requests.proofs.bytes.offset_from.Goals as goal

pub range_from-rest-requires : goal.range_from-rest-requires
range_from-rest-requires c = λ _.
    byte_at_boundary c.args.before.characters c.args.before.bytes c.args.source.now c.utf8.source
    c.requires.within.bytes

pub returns-in_err-further : goal.returns-in_err-further
returns-in_err-further c =
    let source = c.args.source.now in
    let o = c.args.before in
    let rest : chars c.range_from-rest.result.now ≡ drop o.characters (chars source) =
    ap chars c.range_from-rest.ensures.value
    ∙ chars_drop o.characters o.bytes source c.utf8.source c.requires.within.bytes in
    c.from_residual.ensures
    ∙ sym (none_after (chars source) _ o.characters c.args.index c.requires.forward c.requires.within.within rest
    c.in_err-further.ensures)

pub overflow_add-result : goal.overflow_add-result
overflow_add-result c =
    let source = c.args.source.now in
    let o = c.args.before in
    let rest : chars c.range_from-rest.result.now ≡ drop o.characters (chars source) =
    ap chars c.range_from-rest.ensures.value
    ∙ chars_drop o.characters o.bytes source c.utf8.source c.requires.within.bytes in
    let found = found_after (chars source) _ o.characters o.bytes c.args.index c.in_ok-further.further
    c.requires.forward c.requires.within.within c.requires.within.bytes rest c.in_ok-further.ensures in
    omega (arith, found_within source c.args.index (o.bytes + c.in_ok-further.further) c.utf8.source found)

pub returns : goal.returns
returns c =
    let source = c.args.source.now in
    let o = c.args.before in
    let rest : chars c.range_from-rest.result.now ≡ drop o.characters (chars source) =
    ap chars c.range_from-rest.ensures.value
    ∙ chars_drop o.characters o.bytes source c.utf8.source c.requires.within.bytes in
    sym (found_after (chars source) _ o.characters o.bytes c.args.index c.in_ok-further.further
    c.requires.forward c.requires.within.within c.requires.within.bytes rest c.in_ok-further.ensures)
