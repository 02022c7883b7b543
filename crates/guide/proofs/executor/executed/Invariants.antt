-- The answers so far are in the object, and with those to the selections that are left they are answers to all.
use Rattle.std.proofs.Common.{◌≡◌, List, [], drop}
use Rattle.std.specs.String.{string_eq}
use Rattle.indexmap.specs.IndexMap.{insert_all}
use Rattle.juniper_answers.specs.View.{pairs}
use Rattle.guide.specs.Answered.{Answer}
use Rattle.guide.proofs.AnswersInTurn.{Begins}
use Rattle.guide.proofs.executor.executed.Given as goal

abbrev pub invariant-loop-selection : goal.invariant-loop-selection
invariant-loop-selection l = (done : List Answer) × (pairs l.answers ≡ insert_all string_eq [] done)
    × Begins l.selection-items done (drop l.selection-index l.selection-items)
