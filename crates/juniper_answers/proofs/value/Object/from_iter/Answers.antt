use Rattle.std.proofs.Common.{[], ap, sym, subst, ◌∙◌, String, Global}
use Rattle.std.specs.Iterator.{Yields}
use Rattle.std.specs.String.{string_eq}
use Rattle.indexmap.specs.IndexMap.{insert_entry}
use Rattle.indexmap.proofs.MapLemmas.{insert_all_push}
use Rattle.juniper_answers.specs.declared.value.Value.{Value}
use Rattle.juniper_answers.proofs.value.Object.from_iter.Goals as goal

pub loop-key-preserved : goal.loop-key-preserved
loop-key-preserved g c =
    let p : String Global × Value g.row.S.Denot = (c.in-Some.key, c.in-Some.value) in
    c.in_ok-put.ensures ∙ ap (λ es. insert_entry string_eq es p.0 p.1) c.loop-key.invariant
    ∙ sym (insert_all_push string_eq [] c.loop-key.yielded p)

pub returns : goal.returns
returns g c = (
  c.loop-key.yielded,
  (
    c.next.new.self,
    (
      c.loop-key.key-iterator,
      subst (λ s. Yields g.I.Iterator.next_gives s c.loop-key.yielded c.loop-key.key-iterator)
          c.into_iter-key-iterator.ensures.into_iter_gives c.loop-key.yielded_by,
      c.in-None.ensures.steps,
    ),
  ),
  c.loop-key.invariant,
)
