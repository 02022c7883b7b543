use Rattle.std.proofs.Common.{◌≡◌, refl, ap, sym, ◌∙◌, arith}
use Rattle.std.specs.Prelude.{if◌then◌else◌}
use Rattle.std.specs.Str.{chars}
use Rattle.juniper_values.specs.device.BlockSteps.{white_before, is_in_indent}
use Rattle.juniper_values.specs.declared.block_string.Place.TheVariants.{First, Indent}
use Rattle.juniper_values.proofs.BlockIndents.{rises_by_one, starts, skipped, turned, finished}
use Rattle.juniper_values.proofs.BlockFeeds.{next_line, feeds_skipped, feeds_ended, feeds_filled, feeds_indented}
use Rattle.juniper_values.proofs.BlockFeeds.{feeds_known}
use Rattle.juniper_values.proofs.BlockRuns.{passes_run, feeds_past_run}
use Rattle.juniper_values.proofs.block_string.measure.Goals as goal
use Rattle.juniper_values.proofs.block_string.measure.Goals.{then-skipped, else-skipped}

pub loop-c-preserved-then-is_left_out : goal.loop-c-preserved-then-is_left_out
loop-c-preserved-then-is_left_out c =
    let before = c.loop-c.invariant in
    let read = c.in-Some.ensures in
    let here = sym c.is_left_out.ensures ∙ c.if-is_left_out.true in
    record {
      utf8 = read.utf8;
      fits = omega (arith, before.fits, read.shorter);
      ends_fit = omega (arith, before.ends_fit, read.shorter);
      past_indent = before.past_indent;
      least = skipped c.loop-c.least c.loop-c.place c.in-Some.c _ _ _ here read.parts before.least;
      feeds = feeds_skipped c.loop-c.feeds c.loop-c.ends c.in-Some.c _ _ _ read.parts before.feeds here;
    }

pub loop-c-preserved-then-is_line_end : goal.loop-c-preserved-then-is_line_end
loop-c-preserved-then-is_line_end c =
    let before = c.loop-c.invariant in
    let read = c.in-Some.ensures in
    let here = sym c.is_left_out.ensures ∙ c.if-is_left_out.false in
    let on = sym c.is_line_end.ensures ∙ c.if-is_line_end.true in
    let within = ap is_in_indent c.place_after-place.ensures ∙ next_line c.loop-c.place c.in-Some.c on in
    let rises = rises_by_one c.loop-c.place c.in-Some.c in
    let white = ap white_before c.place_after-place.ensures in
    record {
      utf8 = read.utf8;
      fits = omega (arith, before.fits, read.shorter, rises, white);
      ends_fit = omega (arith, before.ends_fit, read.shorter);
      past_indent = λ out. absurd (let no = sym within ∙ out in cc);
      least =
          turned c.loop-c.least _ c.loop-c.place _ c.in-Some.c _ _ _ here read.parts
          c.least_after-least.ensures c.place_after-place.ensures before.least;
      feeds = feeds_ended c.loop-c.feeds c.loop-c.ends c.in-Some.c _ _ _ read.parts before.feeds here on;
    }

pub loop-c-preserved-then-not-is_in_indent : goal.loop-c-preserved-then-not-is_in_indent
loop-c-preserved-then-not-is_in_indent c =
    let before = c.loop-c.invariant in
    let read = c.in-Some.ensures in
    let run = c.split_run.ensures in
    let here = sym c.is_left_out.ensures ∙ c.if-is_left_out.false in
    let on = sym c.is_line_end.ensures ∙ c.if-is_line_end.false in
    let out = sym c.is_in_indent.ensures ∙ c.if-not-is_in_indent.true in
    let rises = rises_by_one c.loop-c.place c.in-Some.c in
    let white = ap white_before c.place_after-place.ensures in
    record {
      utf8 = run.after_utf8;
      fits = omega (arith, before.fits, read.shorter, run.whole, rises, white);
      ends_fit = omega (arith, before.ends_fit, read.shorter, run.whole);
      past_indent = λ h. refl;
      least =
          passes_run _ _ (chars c.in-Some.after.now) _ _ out run.after
          (turned c.loop-c.least _ c.loop-c.place _ c.in-Some.c _ _ _ here read.parts
          c.least_after-least.ensures c.place_after-place.ensures before.least);
      feeds =
          feeds_past_run c.loop-c.ends (chars c.in-Some.after.now) _ _ run.after
          (feeds_filled c.loop-c.feeds c.loop-c.ends c.in-Some.c _ _ _ read.parts before.feeds c.loop-c.place here on
          before.past_indent (sym (ap is_in_indent c.place_after-place.ensures) ∙ out));
    }

pub loop-c-preserved : goal.loop-c-preserved
loop-c-preserved c =
    let before = c.loop-c.invariant in
    let read = c.in-Some.ensures in
    let here = sym c.is_left_out.ensures ∙ c.if-is_left_out.false in
    let on = sym c.is_line_end.ensures ∙ c.if-is_line_end.false in
    let within = sym c.is_in_indent.ensures ∙ c.if-not-is_in_indent.false in
    let rises = rises_by_one c.loop-c.place c.in-Some.c in
    let white = ap white_before c.place_after-place.ensures in
    record {
      utf8 = read.utf8;
      fits = omega (arith, before.fits, read.shorter, rises, white);
      ends_fit = omega (arith, before.ends_fit, read.shorter);
      past_indent = λ out. absurd (let no = sym within ∙ out in cc);
      least =
          turned c.loop-c.least _ c.loop-c.place _ c.in-Some.c _ _ _ here read.parts
          c.least_after-least.ensures c.place_after-place.ensures before.least;
      feeds =
          feeds_indented c.loop-c.feeds c.loop-c.ends c.in-Some.c _ _ _ read.parts before.feeds c.loop-c.place here on
          (sym (ap is_in_indent c.place_after-place.ensures) ∙ within);
    }

pub returns-clause-feeds : goal.returns-clause-feeds
returns-clause-feeds c =
    feeds_known c.loop-c.feeds c.loop-c.ends (chars c.args.text.now) _ c.in_default.ensures.parts
    c.loop-c.invariant.feeds

pub returns-clause-indent : goal.returns-clause-indent
returns-clause-indent c =
    let place : c.if-skipped.place ≡ (if c.args.skipped then Indent 0 else First) =
    elim c.if-skipped.branch [
      | then-skipped w ↦ w.place-is ∙ ap (λ b. if b then Indent 0 else First) (sym w.if-skipped.true)
      | else-skipped w ↦ w.place-is ∙ ap (λ b. if b then Indent 0 else First) (sym w.if-skipped.false)
    ] in
    c.unwrap_or.ensures ∙ finished c.loop-c.least c.loop-c.place _ _ c.in_default.ensures.parts c.loop-c.invariant.least
    ∙ starts c.args.skipped c.if-skipped.place _ place
