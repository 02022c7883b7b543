use Rattle.std.proofs.Common.{◌≡◌, List, ℕ, Some, subst}
use Rattle.std.specs.BTreeMap.{get_by_text}
use Rattle.std.specs.Map.{update}
use Rattle.std.specs.Str.{bytes_eq}
use Rattle.std.proofs.lemmas.Map.Text.{btree_map_updates_text}
use Rattle.guide.proofs.store.store_query.Goals as goal

pub returns : goal.returns
returns c =
    let old = c.args.store.now in
    let new = c.insert.new.self in
    let written = c.in_ok-key.ensures.text in
    let at = λ (key : List ℕ) (text : List ℕ). update bytes_eq (get_by_text old) key (Some c.args.number) text in (
      written.0,
      written.1,
      λ text. subst (λ key. get_by_text new text ≡ at key text) written.2
          (btree_map_updates_text _ old new _ c.in-Ok.ensures.updates text),
    )
