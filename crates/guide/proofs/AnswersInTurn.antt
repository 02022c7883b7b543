-- Answers that are made one after another.
use Rattle.std.proofs.Common.{◌≡◌, List, [], ◌∷◌, ◌++◌, sym, subst, append_assoc, append-nil}
use Rattle.juniper_tree.specs.View.{view_selection, view_selections}
use Rattle.juniper_tree.specs.declared.ast.Selection.{Selection}
use Rattle.juniper_values.specs.Default.{default_content}
use Rattle.juniper_values.specs.declared.default_scalar.DefaultScalarValue.{DefaultScalarValue}
use Rattle.guide.specs.Answered.{Answer, Answers, AnswersEach}

-- answers to the selections that are left complete these to answers to all
abbrev pub Begins : List (Selection DefaultScalarValue) → List Answer → List (Selection DefaultScalarValue) → Type 0
Begins all done left = (rest : List Answer) → AnswersEach (view_selections default_content left) rest
    → AnswersEach (view_selections default_content all) (done ++ rest)

pub next_answer : (all : List (Selection DefaultScalarValue)) (done : List Answer) (x : Selection DefaultScalarValue)
    (xs left : List (Selection DefaultScalarValue)) (answer : Answer) → left ≡ x ∷ xs
    → Answers (view_selection default_content x) answer → Begins all done left → Begins all (done ++ answer ∷ []) xs
next_answer all done x xs left answer e a begins rest k =
    subst (AnswersEach (view_selections default_content all)) (sym (append_assoc done (answer ∷ []) rest))
    (begins (answer ∷ rest)
    (subst (λ ss. AnswersEach (view_selections default_content ss) (answer ∷ rest)) (sym e) (a, k)))

pub no_selection_left : (all : List (Selection DefaultScalarValue)) (done : List Answer)
    (left : List (Selection DefaultScalarValue)) → left ≡ [] → Begins all done left
    → AnswersEach (view_selections default_content all) done
no_selection_left all done left e begins =
    subst (AnswersEach (view_selections default_content all)) (append-nil done)
    (begins [] (subst (λ ss. AnswersEach (view_selections default_content ss) []) (sym e) tt))
