use Rattle.std.proofs.Common.{sym, ◌∙◌, arith}
use Rattle.juniper_values.proofs.BlockRuns.{runs_on, run_ends}
use Rattle.juniper_values.proofs.block_string.run.run_length.Goals as goal

pub by_lanes-preserved : goal.by_lanes-preserved
by_lanes-preserved c =
    runs_on _ _ _ (omega (arith, c.by_lanes-test.true, c.over_lanes-more.ensures.0)) c.by_lanes.invariant
    c.over_lanes-more.ensures

pub returns-then-more-lt-LANES : goal.returns-then-more-lt-LANES
returns-then-more-lt-LANES c =
    run_ends _ _
    (runs_on _ _ _ (omega (arith, c.by_lanes-test.true, c.over_lanes-more.ensures.0)) c.by_lanes.invariant
    c.over_lanes-more.ensures) (λ l. c.over_lanes-more.ensures.2 c.if-more-lt-LANES.true)

pub returns-else-not-ends_run : goal.returns-else-not-ends_run
returns-else-not-ends_run c = run_ends _ _ c.loop-i.invariant (λ l. sym c.ends_run.ensures ∙ c.if-not-ends_run.false)

pub returns-after-loop-i : goal.returns-after-loop-i
returns-after-loop-i c = run_ends _ _ c.loop-i.invariant (λ l. absurd (omega (arith, c.loop-i-test.false, l)))
