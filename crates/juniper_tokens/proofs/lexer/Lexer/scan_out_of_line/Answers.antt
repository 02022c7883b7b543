use Rattle.std.proofs.Common.{◌≡◌, ◌+◌, drop, take, length, refl, sym, ap, ◌∙◌, arith}
use Rattle.std.specs.List.{fold}
use Rattle.std.specs.Str.{chars}
use Rattle.std.specs.Prelude.{Result, Err}
use Rattle.graphql_lexical.specs.Place.{Place, place, past_character}
use Rattle.juniper_tokens.specs.Lexing.{LexerState}
use Rattle.graphql_lexical.specs.Kinds.{LexicalError}
use Rattle.graphql_lexical.specs.device.Scan.{Found, Missed, scan}
use Rattle.juniper_tokens.specs.declared.lexer.text.Offset.{Offset}
use Rattle.juniper_tokens.specs.Errors.{view_lexer_error}
use Rattle.juniper_tokens.proofs.LexingByScan.{chars_fit, fault_placed}
use Rattle.juniper_tokens.proofs.lexer.Lexer.scan_out_of_line.Goals as goal

pub walk_characters-place-requires : goal.walk_characters-place-requires
walk_characters-place-requires c =
    let source = c.self.inside.source.now in
    let rest = c.text_from-rest.result.now in
    let fits = chars_fit c.self.inside.here.byte 0 c.self.inside.here.place source rest c.self.invariant
    (ap (λ (o : Offset). o.bytes + length rest) (sym c.offset.ensures) ∙ c.text_from-rest.ensures.length)
    c.text_from-rest.utf8
    (c.text_from-rest.ensures.characters ∙ ap (λ (o : Offset). drop o.characters (chars source)) c.offset.ensures) in
    omega (arith, ap (λ (p : Place). p.index) c.position.ensures, fits)

pub returns-in-Err-Fault-clause-takes : goal.returns-in-Err-Fault-clause-takes
returns-in-Err-Fault-clause-takes c =
    let source = c.self.inside.source.now in
    let here = c.self.inside.here in
    let rest = c.text_from-rest.result.now in
    let d : chars rest ≡ drop here.place.index (chars source) = c.text_from-rest.ensures.characters
    ∙ ap (λ (o : Offset). drop o.characters (chars source)) c.offset.ensures in
    let v = c.self.view_is in
    let n = c.in-Err-Fault.at in
    let made : LexicalError → Result Found Missed = λ e. Err (record { at = n; error = e }) in
    let f = c.walk_characters-place.ensures
    ∙ (ap (λ (p : Place). fold past_character p (take n (chars rest))) c.position.ensures
    ∙ (fault_placed source rest here.byte n here.place c.self.invariant d
    ∙ ap (λ (w : LexerState). place w.source (w.index + n)) v)) in
    record {
      size = n;
      scanned = ap scan (sym (d ∙ ap (λ (w : LexerState). drop w.index w.source) v))
          ∙ ((rw c.in-Err-Fault.field-0-is at c.in-Err-Fault.ensures)
          ∙ ap (λ s. made (view_lexer_error s.item)) (sym c.zero_width.ensures));
      start = ap (λ s. s.span.start) c.zero_width.ensures ∙ f;
      end = ap (λ s. s.span.end) c.zero_width.ensures ∙ sym (ap (λ s. s.span.start) c.zero_width.ensures);
      ends = refl;
    }
