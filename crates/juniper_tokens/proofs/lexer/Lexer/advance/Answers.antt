use Rattle.std.proofs.Common.{◌≡◌, ◌+◌, drop, sym, ap, ◌∙◌, subst}
use Rattle.std.specs.Str.{chars}
use Rattle.graphql_lexical.specs.Place.{place}
use Rattle.graphql_lexical.specs.Kinds.{same_kind}
use Rattle.graphql_lexical.specs.declared.kind.Kind.TheVariants.{EndOfFile}
use Rattle.juniper_tokens.specs.declared.token_range.TokenRange.{TokenRange}
use Rattle.juniper_tokens.specs.Lexing.{LexerState}
use Rattle.juniper_tokens.specs.device.BytePlaces.{BytePlace, byte_place}
use Rattle.juniper_tokens.specs.device.LexingByScan.{IsPlaced}
use Rattle.juniper_tokens.specs.device.Scans.{Finds}
use Rattle.juniper_tokens.specs.device.Ranges.{IsRange, TakesRange}
use Rattle.juniper_tokens.proofs.LexingByScan.{byte_place_is, placed_at}
use Rattle.juniper_tokens.proofs.Ranges.{found_range, found_taken}
use Rattle.juniper_tokens.proofs.lexer.Lexer.advance.Goals as goal

pub from_found-range-requires-clause-found : goal.from_found-range-requires-clause-found
from_found-range-requires-clause-found c =
    subst (λ (w : LexerState). Finds (drop w.index w.source) c.args.found) (sym c.self.view_is) c.requires

pub end_position-self-inside-requires-clause-range : goal.end_position-self-inside-requires-clause-range
end_position-self-inside-requires-clause-range c =
    let here = c.self.inside.here in
    let source = c.self.inside.source.now in
    let finds = subst (λ (w : LexerState). Finds (drop w.index w.source) c.args.found) (sym c.self.view_is)
    c.requires in
    subst (IsRange (chars source)) (sym c.from_found-range.ensures)
    (found_range source here.byte here.place c.args.found c.self.invariant finds)

pub end_position-self-inside-requires-clause-start : goal.end_position-self-inside-requires-clause-start
end_position-self-inside-requires-clause-start c =
    let source = c.self.inside.source.now in
    byte_place_is source c.self.inside.here c.self.invariant
    ∙ ap (λ (r : TokenRange). byte_place (chars source) r.start.characters) (sym c.from_found-range.ensures)

pub invariant_of-self : goal.invariant_of-self
invariant_of-self c =
    let here = c.self.inside.here in
    let source = c.self.inside.source.now in
    let finds = subst (λ (w : LexerState). Finds (drop w.index w.source) c.args.found) (sym c.self.view_is)
    c.requires in
    let range = subst (IsRange (chars source)) (sym c.from_found-range.ensures)
    (found_range source here.byte here.place c.args.found c.self.invariant finds) in
    subst (λ (p : BytePlace). IsPlaced source p.byte p.place) (sym c.end_position-self-inside.ensures)
    (placed_at source c.from_found-range.result.end.characters range.within c.self.invariant.fits)

pub returns-clause-takes : goal.returns-clause-takes
returns-clause-takes c =
    let here = c.self.inside.here in
    let source = c.self.inside.source.now in
    let finds = subst (λ (w : LexerState). Finds (drop w.index w.source) c.args.found) (sym c.self.view_is)
    c.requires in
    let there : c.end_position-self-inside.result.place
    ≡ place (chars source) (here.place.index + c.args.found.end.characters) =
    ap (λ (p : BytePlace). p.place) c.end_position-self-inside.ensures
    ∙ ap (λ (r : TokenRange). place (chars source) r.end.characters) c.from_found-range.ensures in
    let ended : c.eq-self-inside.result ≡ same_kind c.args.found.kind EndOfFile = c.eq-self-inside.ensures
    ∙ ap (λ (r : TokenRange). same_kind r.kind EndOfFile) c.from_found-range.ensures in
    let new : LexerState = record {
      source = chars source;
      index = c.end_position-self-inside.result.place.index;
      ended = c.eq-self-inside.result;
    } in
    let taken = found_taken source here.byte here.place c.end_position-self-inside.result.place c.args.found
    c.eq-self-inside.result c.self.inside.ended c.self.invariant finds there ended in
    subst (λ (s : LexerState). TakesRange s c.from_found-range.result new) c.self.view_is
    (subst (λ (r : TokenRange). TakesRange (record {
      source = chars source;
      index = here.place.index;
      ended = c.self.inside.ended;
    }) r new) (sym c.from_found-range.ensures)
    taken)
