-- A value, level by level.
use Rattle.std.proofs.Common.{◌≡◌, ap, ◌∙◌, Global, Vec, rules}
use Rattle.juniper_answers.specs.Data.{null, scalar, list, object}
use Rattle.juniper_answers.specs.View.{view, items_view, fields_view, fields_of, pairs}
use Rattle.juniper_answers.specs.formers.entries.Entries.{zip_map}
use Rattle.juniper_answers.specs.declared.value.Object.{Object}
use Rattle.juniper_answers.specs.declared.value.Value.{Value, the_lemmas}
use Rattle.juniper_answers.specs.declared.value.Value as V

module _ {S C : Type 0} (content : S → C) where
  pub view-Null : view content V.Null ≡ null
  view-Null = search (rules, the_lemmas)

  pub view-List : (v : Vec (Value S) Global) → view content (V.List v) ≡ list (items_view content v.items)
  view-List v = search (rules, the_lemmas)

  pub view-Object : (o : Object S) → view content (V.Object o) ≡ object (fields_view content (pairs o))
  view-Object o = search (rules, the_lemmas) ∙ ap (λ ps. object (fields_of ps))
      (zip_map (view content) o.entries.keys.keys o.entries.values.items)

  pub view-Scalar : (s : S) → view content (V.Scalar s) ≡ scalar (content s)
  view-Scalar s = search (rules, the_lemmas)
