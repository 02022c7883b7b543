use Rattle.std.proofs.Common.{◌≡◌, true, false, Some, ◌+◌, ◌++◌, ◌∷◌, [], map, take, if◌then◌else◌}
use Rattle.std.proofs.Common.{ap, sym, subst, ◌∙◌, refl}
use Rattle.std.proofs.lemmas.List.{map-append, map_more, take_all}
use Rattle.std.specs.List.{list_any}
use Rattle.graphql_grammar.specs.Tokens.{Text}
use Rattle.juniper_values.specs.Text.{same_text}
use Rattle.juniper_values.specs.View.{values_in}
use Rattle.juniper_tree.specs.View.{view_variable}
use Rattle.juniper_requests.specs.Defaults.{WithDefaults, default_in, given_or}
use Rattle.juniper_requests.specs.device.Seen.{HasSeen}
use Rattle.juniper_requests.proofs.FirstDefaults.{names, seen_before, not_seen_before, defined_again, defined_first}
use Rattle.juniper_requests.proofs.FirstDefaults.{default_seen, given_alone}
use Rattle.juniper_requests.proofs.defaults.with_defaults.Goals as goal

pub loop-definition-preserved-then-not-branch : goal.loop-definition-preserved-then-not-branch
loop-definition-preserved-then-not-branch g c =
    let content = g.S.ParseScalarValue.content in
    let items = c.deref-definition-items.result.now in
    let i = c.loop-definition.definition-index in
    let d = view_variable content c.definition-item.result in
    let so_far = map (view_variable content) (take i items) in
    let before = c.loop-definition.invariant in
    let more : map (view_variable content) (take (i + 1) items) ≡ so_far ++ d ∷ [] =
    map_more (view_variable content) items i c.definition-item.result c.loop-definition-test.true
    ∙ ap (λ x. so_far ++ view_variable content x ∷ []) (sym c.definition-item.is) in
    let again : list_any (same_text d.name.item) (names so_far) ≡ true =
    seen_before (list_any (same_text d.name.item) (names so_far))
    (sym c.if-not-branch.true ∙ c.in_ok-is_first.ensures.first (names so_far) before.0) in (
      subst (HasSeen c.is_first.new.seen) (sym (ap names more ∙ map-append (λ e. e.name.item) so_far (d ∷ [])))
          (c.in_ok-is_first.ensures.seen (names so_far) before.0),
      subst (λ ds. WithDefaults ds (values_in content c.args.variables) (values_in content c.loop-definition.all))
          (sym more)
          (defined_again so_far d (values_in content c.args.variables)
          (values_in content c.loop-definition.all) before.1
          again),
      before.2,
    )

pub loop-definition-preserved : goal.loop-definition-preserved
loop-definition-preserved g c =
    let content = g.S.ParseScalarValue.content in
    let items = c.deref-definition-items.result.now in
    let i = c.loop-definition.definition-index in
    let d = view_variable content c.definition-item.result in
    let so_far = map (view_variable content) (take i items) in
    let before = c.loop-definition.invariant in
    let more : map (view_variable content) (take (i + 1) items) ≡ so_far ++ d ∷ [] =
    map_more (view_variable content) items i c.definition-item.result c.loop-definition-test.true
    ∙ ap (λ x. so_far ++ view_variable content x ∷ []) (sym c.definition-item.is) in
    let new : list_any (same_text d.name.item) (names so_far) ≡ false =
    not_seen_before (list_any (same_text d.name.item) (names so_far))
    (sym c.if-not-branch.false ∙ c.in_ok-is_first.ensures.first (names so_far) before.0) in
    let now = values_in content c.loop-definition.all in
    let added : (t : Text) → values_in content c.add_default.new.all t
    ≡ (if same_text d.name.item t then given_or (now t) (default_in (Some d)) else now t) =
    λ t. c.in_ok-add_default.ensures.values t
    ∙ ap (λ v. if same_text d.name.item t then given_or (now t) v else now t)
    (default_seen content c.definition-item.result.1.default_value) in (
      subst (HasSeen c.is_first.new.seen) (sym (ap names more ∙ map-append (λ e. e.name.item) so_far (d ∷ [])))
          (c.in_ok-is_first.ensures.seen (names so_far) before.0),
      subst (λ ds. WithDefaults ds (values_in content c.args.variables) (values_in content c.add_default.new.all))
          (sym more)
          (defined_first so_far d (values_in content c.args.variables) now before.1
          (values_in content c.add_default.new.all) new added),
      λ t v e. c.in_ok-add_default.ensures.kept t v (before.2 t v e),
    )

pub returns-clause-values : goal.returns-clause-values
returns-clause-values g c =
    let content = g.S.ParseScalarValue.content in
    let items = c.deref-definition-items.result.now in
    subst
    (λ xs. WithDefaults (map (view_variable content) xs) (values_in content c.args.variables)
    (values_in content c.loop-definition.all))
    (take_all c.loop-definition.definition-index items c.loop-definition-test.false
    ∙ c.deref-definition-items.ensures.value)
    c.loop-definition.invariant.1

pub loop-definition-init : goal.loop-definition-init
loop-definition-init g c = (
  λ name utf8. rw c.new-seen.ensures.empty refl,
  given_alone (values_in g.S.ParseScalarValue.content c.args.variables),
  λ t v e. e,
)
