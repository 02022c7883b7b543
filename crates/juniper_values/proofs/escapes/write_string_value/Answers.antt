use Rattle.std.proofs.Common.{Some, [], append-nil, refl, sym, ap, ◌∙◌}
use Rattle.std.specs.Prelude.{is_some}
use Rattle.std.specs.Str.{chars}
use Rattle.juniper_values.specs.Escapes.{unescape, unescape_backslash}
use Rattle.juniper_values.proofs.Unescapes.{whole, around, front_utf8}
use Rattle.juniper_values.proofs.Writing.{onto, nothing_written, text_written, char_written, all_written, is_whole}
use Rattle.juniper_values.proofs.Writing.{nothing_to_write}
use Rattle.juniper_values.proofs.escapes.write_string_value.Goals as goal

pub loop-plain-init : goal.loop-plain-init
loop-plain-init g c = record { utf8 = c.utf8.text; written = nothing_written _ _ }

pub loop-plain-preserved : goal.loop-plain-preserved
loop-plain-preserved g c =
    let before = c.loop-plain in
    let found = c.in-Some-escaped in
    let plain = c.in-Some.plain.now in
    let after = c.in-Some.after.now in
    let cut = c.in-Some.ensures.cases in
    record {
      utf8 = found.ensures.utf8;
      written =
          char_written found.c (unescape (chars found.left.now))
          (text_written plain (unescape_backslash (chars after)) before.invariant.written
          c.in_ok-write_part.ensures
          (front_utf8 before.rest.now before.invariant.utf8 plain after cut)
          (around before.rest.now before.invariant.utf8 plain after cut))
          c.in_ok-write_char-in-Some-escaped.ensures.writes found.ensures.value;
    }

pub returns-in-None-clause-whole : goal.returns-in-None-clause-whole
returns-in-None-clause-whole g c =
    let before = c.loop-plain in
    let plain = c.in-Some.plain.now in
    let here = around before.rest.now before.invariant.utf8 plain c.in-Some.after.now c.in-Some.ensures.cases in
    sym (is_whole before.invariant.written ∙ ap is_some (here ∙ ap (onto (chars plain)) c.in-None.ensures.value))

pub returns-in-None-clause-text : goal.returns-in-None-clause-text
returns-in-None-clause-text g c = nothing_to_write _ _ _ _ (sym (returns-in-None-clause-whole g c))

pub returns-clause-whole : goal.returns-clause-whole
returns-clause-whole g c =
    let before = c.loop-plain in
    let rest = whole before.rest.now before.invariant.utf8 c.in_default.ensures.cases in
    sym (is_whole before.invariant.written ∙ ap is_some rest)

pub returns-clause-text : goal.returns-clause-text
returns-clause-text g c =
    let before = c.loop-plain in
    let rest = before.rest.now in
    let last = whole rest before.invariant.utf8 c.in_default.ensures.cases in
    all_written
    (text_written rest (Some []) before.invariant.written c.in_ok-write_part-2.ensures
    before.invariant.utf8 (last ∙ ap Some (sym (append-nil (chars rest))))) refl
