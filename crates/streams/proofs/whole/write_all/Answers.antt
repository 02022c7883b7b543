use Rattle.std.proofs.Common.{rules}
use Rattle.std.proofs.KnownBytes.{Appends-trans}
use Rattle.std.proofs.Math.Seq.{take-add}
use Rattle.std.proofs.lemmas.List.{take_rest}
use Rattle.streams.proofs.whole.write_all.Goals as goal

pub writes-preserved : goal.writes-preserved
writes-preserved g c = record {
  within = search rules;
  out =
      let more = c.in-Ok.ensures.bytes in
      let all = Appends-trans _ _ _ _ _ c.writes.invariant.out more in
      rw take-add (rw take_rest at all);
  sound = search rules;
}

pub returns-in-Ok-eq0-clause-all : goal.returns-in-Ok-eq0-clause-all
returns-in-Ok-eq0-clause-all g c = search rules

pub returns-in-Ok-eq0-clause-failed : goal.returns-in-Ok-eq0-clause-failed
returns-in-Ok-eq0-clause-failed g c = search rules

pub returns-in-Ok-eq0-2-clause-all : goal.returns-in-Ok-eq0-2-clause-all
returns-in-Ok-eq0-2-clause-all g c = search rules

pub returns-in-Ok-eq0-2-clause-failed : goal.returns-in-Ok-eq0-2-clause-failed
returns-in-Ok-eq0-2-clause-failed g c = search rules

pub returns-clause-failed : goal.returns-clause-failed
returns-clause-failed g c = search rules
