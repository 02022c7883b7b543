use Rattle.std.proofs.Common.{◌≡◌, ◌+◌, false, sym, ap, ap₂, ◌∙◌, ℕ, arith}
use Rattle.std.specs.Str.{chars}
use Rattle.graphql_lexical.specs.Place.{Place, place}
use Rattle.graphql_lexical.specs.Kinds.{same_kind}
use Rattle.graphql_lexical.specs.declared.kind.Kind.TheVariants.{BlockString}
use Rattle.graphql_lexical.proofs.Public.{place_index}
use Rattle.juniper_tokens.specs.Positions.{columns_on}
use Rattle.juniper_tokens.specs.declared.lexer.text.Offset.{Offset}
use Rattle.juniper_tokens.specs.device.ByteRuns.{byte_at}
use Rattle.juniper_tokens.specs.device.BytePlaces.{BytePlace}
use Rattle.juniper_tokens.proofs.Offsets.{byte_at_least, byte_at_within}
use Rattle.juniper_tokens.proofs.Ranges.{range_order, range_fewer, ends_on_line}
use Rattle.juniper_tokens.proofs.token_range.TokenRange.end_position.Goals as goal

pub new-requires : goal.new-requires
new-requires c =
    let source = chars c.args.source.now in
    let k = c.args.self.now.end.characters in
    let index : c.end_by_walk-end.result.index ≡ k =
    ap (λ (p : Place). p.index) c.end_by_walk-end.ensures ∙ place_index source k c.requires.range.within in
    omega (arith, index, c.requires.range.end, byte_at_least k source c.requires.range.within)

pub returns-then-eq : goal.returns-then-eq
returns-then-eq c =
    c.new.ensures ∙ ap₂ (λ (b : ℕ) (p : Place). record { byte = b; place = p }) c.requires.range.end
    c.end_by_walk-end.ensures

pub size-requires-clause-bytes : goal.size-requires-clause-bytes
size-requires-clause-bytes c = range_order (chars c.args.source.now) c.args.self.now c.requires.range

pub past-requires-clause-fewer : goal.past-requires-clause-fewer
past-requires-clause-fewer c = omega (
  arith,
  ap (λ (o : Offset). o.bytes) c.size.ensures,
  ap (λ (o : Offset). o.characters) c.size.ensures,
  range_fewer (chars c.args.source.now) c.args.self.now c.requires.range,
)

pub past-requires-clause-fits : goal.past-requires-clause-fits
past-requires-clause-fits c =
    let r = c.args.self.now in
    omega (
      arith,
      ap (λ (o : Offset). o.bytes) c.size.ensures,
      ap (λ (p : BytePlace). p.byte) c.requires.start,
      c.requires.range.start,
      range_order (chars c.args.source.now) r c.requires.range,
      byte_at_within r.end.characters r.end.bytes c.args.source.now c.utf8.source c.requires.range.end,
      c.requires.fits,
    )

pub returns-else-eq : goal.returns-else-eq
returns-else-eq c =
    let source = chars c.args.source.now in
    let r = c.args.self.now in
    let on_line : same_kind r.kind BlockString ≡ false = sym c.eq.ensures ∙ c.if-eq.false in
    let byte : c.args.start.byte + c.size.result.bytes ≡ byte_at r.end.characters source = omega (
      arith,
      ap (λ (o : Offset). o.bytes) c.size.ensures,
      ap (λ (p : BytePlace). p.byte) c.requires.start,
      c.requires.range.start,
      range_order source r c.requires.range,
      c.requires.range.end,
    ) in
    let there : columns_on c.size.result.characters c.args.start.place ≡ place source r.end.characters =
    ap (λ (o : Offset). columns_on o.characters c.args.start.place) c.size.ensures
    ∙ ends_on_line source r c.args.start.place c.requires.range (ap (λ (p : BytePlace). p.place) c.requires.start)
    on_line in
    c.past.ensures ∙ ap₂ (λ (b : ℕ) (p : Place). record { byte = b; place = p }) byte there
