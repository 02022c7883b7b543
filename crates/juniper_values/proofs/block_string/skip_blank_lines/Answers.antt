use Rattle.std.proofs.Common.{sym, ◌∙◌}
use Rattle.juniper_values.proofs.BlockFronts.{none_skipped, skip_left_out, skip_white, skip_line, skips_all, skips_some}
use Rattle.juniper_values.proofs.BlockFronts.{all_skipped}
use Rattle.juniper_values.proofs.block_string.skip_blank_lines.Goals as goal

pub loop-c-init : goal.loop-c-init
loop-c-init c = record { utf8 = c.utf8.text; start_utf8 = c.utf8.text; skips = none_skipped _ }

pub loop-c-preserved-then-is_left_out : goal.loop-c-preserved-then-is_left_out
loop-c-preserved-then-is_left_out c =
    let before = c.loop-c.invariant in
    let read = c.in-Some.ensures in
    record {
      utf8 = read.utf8;
      start_utf8 = before.start_utf8;
      skips =
          skip_left_out _ _ _ c.in-Some.c _ _ read.parts before.skips
          (sym c.is_left_out.ensures ∙ c.if-is_left_out.true);
    }

pub loop-c-preserved-then-is_line_end : goal.loop-c-preserved-then-is_line_end
loop-c-preserved-then-is_line_end c =
    let before = c.loop-c.invariant in
    let read = c.in-Some.ensures in
    record {
      utf8 = read.utf8;
      start_utf8 = read.utf8;
      skips =
          skip_line _ _ _ c.in-Some.c _ _ read.parts before.skips (sym c.is_left_out.ensures ∙ c.if-is_left_out.false)
          (sym c.is_line_end.ensures ∙ c.if-is_line_end.true);
    }

pub loop-c-preserved : goal.loop-c-preserved
loop-c-preserved c =
    let before = c.loop-c.invariant in
    let read = c.in-Some.ensures in
    record {
      utf8 = read.utf8;
      start_utf8 = before.start_utf8;
      skips =
          skip_white _ _ _ c.in-Some.c _ _ read.parts before.skips (sym c.is_left_out.ensures ∙ c.if-is_left_out.false)
          (sym c.is_line_end.ensures ∙ c.if-is_line_end.false) (sym c.is_indent.ensures ∙ c.if-not-is_indent.false);
    }

pub returns-then-not-is_indent-clause-lines : goal.returns-then-not-is_indent-clause-lines
returns-then-not-is_indent-clause-lines c =
    skips_all _ _ _ c.in-Some.c _ _ c.in-Some.ensures.parts c.loop-c.invariant.skips
    (sym c.is_left_out.ensures ∙ c.if-is_left_out.false) (sym c.is_line_end.ensures ∙ c.if-is_line_end.false)
    (sym c.is_indent.ensures ∙ c.if-not-is_indent.true)

pub returns-then-not-is_indent-clause-skipped : goal.returns-then-not-is_indent-clause-skipped
returns-then-not-is_indent-clause-skipped c =
    skips_some _ _ _ c.in-Some.c _ _ c.in-Some.ensures.parts c.loop-c.invariant.skips
    (sym c.is_left_out.ensures ∙ c.if-is_left_out.false) (sym c.is_line_end.ensures ∙ c.if-is_line_end.false)
    (sym c.is_indent.ensures ∙ c.if-not-is_indent.true)

pub returns-clause-lines : goal.returns-clause-lines
returns-clause-lines c = all_skipped _ _ _ _ c.in_default.ensures.parts c.loop-c.invariant.skips
