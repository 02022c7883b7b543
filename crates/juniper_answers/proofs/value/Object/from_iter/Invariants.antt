use Rattle.std.proofs.Common.{◌≡◌, []}
use Rattle.std.specs.String.{string_eq}
use Rattle.indexmap.specs.IndexMap.{insert_all}
use Rattle.juniper_answers.specs.View.{pairs}
use Rattle.juniper_answers.proofs.value.Object.from_iter.Given as goal

abbrev pub invariant-loop-key : goal.invariant-loop-key
invariant-loop-key g l = pairs l.object ≡ insert_all string_eq [] l.yielded
