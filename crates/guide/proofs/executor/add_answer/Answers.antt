use Rattle.std.proofs.Common.{◌∙◌, ap, sym, subst}
use Rattle.std.proofs.lemmas.Result.{on_ok_weaker}
use Rattle.juniper_tree.specs.View.{view_selection}
use Rattle.juniper_values.specs.Default.{default_content}
use Rattle.guide.specs.Answered.{Answers}
use Rattle.guide.proofs.executor.add_answer.Goals as goal

pub returns-in-Field : goal.returns-in-Field
returns-in-Field c =
    let seen = ap (view_selection default_content) c.in-Field.is
    ∙ c.selections_are_seen.ensures.field c.in-Field.field in
    on_ok_weaker c.add_field.result (λ e. (e.0, subst (λ s. Answers s e.0) (sym seen) e.1, e.2)) c.add_field.ensures
