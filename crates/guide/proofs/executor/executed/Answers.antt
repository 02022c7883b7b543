use Rattle.std.proofs.Common.{[], ◌∷◌, ◌++◌, ◌∙◌, ap, sym, subst}
use Rattle.std.proofs.lemmas.List.{drop_all}
use Rattle.std.specs.String.{string_eq}
use Rattle.indexmap.specs.IndexMap.{insert_entry}
use Rattle.indexmap.proofs.MapLemmas.{insert_all_push}
use Rattle.juniper_tree.specs.View.{view_selections}
use Rattle.juniper_values.specs.Default.{default_content}
use Rattle.juniper_values.proofs.Public.{drop_read}
use Rattle.juniper_answers.specs.Data.{object}
use Rattle.juniper_answers.specs.View.{fields_view}
use Rattle.juniper_answers.proofs.Public.{view-Object}
use Rattle.guide.specs.Answered.{AnswersEach}
use Rattle.guide.proofs.AnswersInTurn.{next_answer, no_selection_left}
use Rattle.guide.proofs.executor.executed.Goals as goal

pub loop-selection-init : goal.loop-selection-init
loop-selection-init c = ([], c.in_ok-answers.ensures, λ rest each. each)

pub loop-selection-preserved : goal.loop-selection-preserved
loop-selection-preserved c =
    let l = c.loop-selection in
    let done = l.invariant.0 in
    let xs = c.deref-selection-items.result.now in
    let added = c.in_ok-add_answer.ensures in (
      done ++ added.0 ∷ [],
      added.2 ∙ ap (λ es. insert_entry string_eq es added.0.0 added.0.1) l.invariant.1
          ∙ sym (insert_all_push string_eq [] done added.0),
      next_answer xs done c.selection-item.result _ _ added.0
          (drop_read xs l.selection-index c.selection-item.result c.loop-selection-test.true c.selection-item.is)
          added.1 l.invariant.2,
    )

pub returns : goal.returns
returns c =
    let l = c.loop-selection in
    let xs = c.deref-selection-items.result.now in
    let each = no_selection_left xs l.invariant.0 _ (drop_all l.selection-index xs c.loop-selection-test.false)
    l.invariant.2 in (
      l.invariant.0,
      subst (λ ss. AnswersEach (view_selections default_content ss) l.invariant.0) c.deref-selection-items.ensures.value
          each,
      view-Object default_content l.answers
          ∙ ap (λ ps. object (fields_view default_content ps)) l.invariant.1,
    )
