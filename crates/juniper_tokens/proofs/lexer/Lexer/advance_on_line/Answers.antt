use Rattle.std.proofs.Common.{◌≡◌, ◌+◌, false, drop, sym, ap, ◌∙◌, subst}
use Rattle.std.specs.Str.{chars}
use Rattle.graphql_lexical.specs.Place.{place}
use Rattle.juniper_tokens.specs.declared.token_range.TokenRange.{TokenRange}
use Rattle.juniper_tokens.specs.Lexing.{LexerState}
use Rattle.juniper_tokens.specs.device.BytePlaces.{BytePlace}
use Rattle.juniper_tokens.specs.device.LexingByScan.{IsPlaced}
use Rattle.juniper_tokens.specs.device.Scans.{Finds}
use Rattle.juniper_tokens.specs.device.Ranges.{TakesRange}
use Rattle.juniper_tokens.proofs.Ranges.{found_range, found_taken, found_fewer, found_on_line, placed_after}
use Rattle.juniper_tokens.proofs.lexer.Lexer.advance_on_line.Goals as goal

pub from_found-range-requires-clause-found : goal.from_found-range-requires-clause-found
from_found-range-requires-clause-found c =
    subst (λ (w : LexerState). Finds (drop w.index w.source) c.args.found) (sym c.self.view_is) c.requires.finds

pub past-self-inside-requires-clause-fewer : goal.past-self-inside-requires-clause-fewer
past-self-inside-requires-clause-fewer c = found_fewer (drop c.args.self.now.index c.args.self.now.source)
    c.args.found c.requires.finds

pub invariant_of-self : goal.invariant_of-self
invariant_of-self c =
    let here = c.self.inside.here in
    let source = c.self.inside.source.now in
    let finds = subst (λ (w : LexerState). Finds (drop w.index w.source) c.args.found) (sym c.self.view_is)
    c.requires.finds in
    let range = found_range source here.byte here.place c.args.found c.self.invariant finds in
    let place = found_on_line source here.byte here.place c.args.found c.self.invariant finds c.requires.plain.on_line
    in
    subst (λ (p : BytePlace). IsPlaced source p.byte p.place) (sym c.past-self-inside.ensures)
    (placed_after source here.byte here.place _ _ c.self.invariant range place).1

pub returns-clause-takes : goal.returns-clause-takes
returns-clause-takes c =
    let here = c.self.inside.here in
    let source = c.self.inside.source.now in
    let finds = subst (λ (w : LexerState). Finds (drop w.index w.source) c.args.found) (sym c.self.view_is)
    c.requires.finds in
    let there : c.past-self-inside.result.place ≡ place (chars source) (here.place.index +
    c.args.found.end.characters) =
    ap (λ (p : BytePlace). p.place) c.past-self-inside.ensures
    ∙ found_on_line source here.byte here.place c.args.found c.self.invariant finds c.requires.plain.on_line in
    let new : LexerState = record {
      source = chars source;
      index = c.past-self-inside.result.place.index;
      ended = false;
    } in
    let taken = found_taken source here.byte here.place c.past-self-inside.result.place c.args.found false
    c.self.inside.ended c.self.invariant finds there (sym c.requires.plain.more) in
    subst (λ (s : LexerState). TakesRange s c.from_found-range.result new) c.self.view_is
    (subst (λ (r : TokenRange). TakesRange (record {
      source = chars source;
      index = here.place.index;
      ended = c.self.inside.ended;
    }) r new) (sym c.from_found-range.ensures)
    taken)
