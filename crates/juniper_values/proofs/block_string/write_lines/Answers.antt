use Rattle.std.proofs.Common.{◌≡◌, true, refl, suc, ◌-◌, sym, ap, ◌∙◌, Some, arith}
use Rattle.std.specs.Str.{chars}
use Rattle.std.proofs.Output.{writes_in_calls_single}
use Rattle.juniper_values.specs.device.BlockSteps.{lines_of, left_text}
use Rattle.juniper_values.proofs.BlockWritten.{stays, is_removed, feeds_line}
use Rattle.juniper_values.proofs.BlockRuns.{writes_run, goes_on_in_run, some_bytes, some_run}
use Rattle.juniper_values.proofs.Writing.{same_left, text_written, char_written}
use Rattle.juniper_values.proofs.block_string.write_lines.Goals as goal

pub loop-c-preserved-then-is_line_end : goal.loop-c-preserved-then-is_line_end
loop-c-preserved-then-is_line_end g c =
    let before = c.loop-c in
    let read = c.in-Some.ensures in
    let here = sym c.is_left_out.ensures ∙ c.if-is_left_out.false in
    let on = sym c.is_line_end.ensures ∙ c.if-is_line_end.true in
    let k = c.args.measured.indent in
    let less = before.feeds - 1 in
    let more : before.feeds ≡ suc less = omega (arith, c.if-feeds-eq0.false) in
    record {
      utf8 = read.utf8;
      written =
          char_written 10 (Some (left_text k k less (lines_of (chars c.in-Some.after.now))))
          before.invariant.written c.in_ok-write_char.ensures.writes
          (ap Some (feeds_line k before.removed before.feeds c.in-Some.c _ _ read.parts here on less more));
    }

pub loop-c-preserved-then-removed-gt0 : goal.loop-c-preserved-then-removed-gt0
loop-c-preserved-then-removed-gt0 g c =
    let before = c.loop-c in
    let read = c.in-Some.ensures in
    let here = sym c.is_left_out.ensures ∙ c.if-is_left_out.false in
    let on = sym c.is_line_end.ensures ∙ c.if-is_line_end.false in
    let k = c.args.measured.indent in
    let less = before.removed - 1 in
    let more : before.removed ≡ suc less = omega (arith, c.if-removed-gt0.true) in
    record {
      utf8 = read.utf8;
      written =
          same_left before.invariant.written
          (ap Some (is_removed k before.removed before.feeds c.in-Some.c _ _ read.parts here on less more));
    }

pub loop-c-preserved-then-c-eq92 : goal.loop-c-preserved-then-c-eq92
loop-c-preserved-then-c-eq92 g c =
    let before = c.loop-c in
    let read = c.in-Some.ensures in
    let here = sym c.is_left_out.ensures ∙ c.if-is_left_out.false in
    let on = sym c.is_line_end.ensures ∙ c.if-is_line_end.false in
    let k = c.args.measured.indent in
    let none : before.removed ≡ 0 = omega (arith, c.if-removed-gt0.false) in
    record {
      utf8 = read.utf8;
      written =
          char_written c.in-Some.c
          (Some (left_text k before.removed before.feeds (lines_of (chars c.in-Some.after.now))))
          before.invariant.written c.in_ok-write_char-2.ensures.writes
          (ap Some (stays k before.removed before.feeds c.in-Some.c _ _ read.parts here on none));
    }

pub loop-c-preserved : goal.loop-c-preserved
loop-c-preserved g c =
    let before = c.loop-c in
    let run = c.split_run.ensures in
    let k = c.args.measured.indent in
    let none : before.removed ≡ 0 = omega (arith, c.if-removed-gt0.false) in
    record {
      utf8 = run.after_utf8;
      written =
          text_written c.split_run.result.0.now
          (Some (left_text k before.removed before.feeds (lines_of (chars c.split_run.result.1.now))))
          before.invariant.written
          (writes_in_calls_single _ _ _ _ (c.in_ok-write_str.ensures.ok (refl {a = true}))) run.run_utf8
          (ap Some (writes_run k before.removed before.feeds (chars before.rest.now) _ _ none run.run run.after));
    }

pub loop-c-smaller : goal.loop-c-smaller
loop-c-smaller g c =
    let run = c.split_run.ensures in
    let on = sym c.is_line_end.ensures ∙ c.if-is_line_end.false in
    let first =
    some_run c.in-Some.c (chars c.in-Some.after.now) _ _ c.in-Some.ensures.parts
    (goes_on_in_run c.in-Some.c c.if-c-eq92.false on) run.run in
    omega (arith, run.whole, some_bytes _ _ _ first)
