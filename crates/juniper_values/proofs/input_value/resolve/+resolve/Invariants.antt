-- Whatever the rest becomes, what is done and it are what all becomes.
use Rattle.std.proofs.Common.{◌≡◌, ◌++◌}
use Rattle.std.specs.Vec.Iter.{into_iter_items}
use Rattle.juniper_values.specs.Resolve.{ItemsBecome, FieldsBecome}
use Rattle.graphql_grammar.specs.Tree.{Items, ObjectFields}
use Rattle.juniper_values.specs.View.{view_items, view_fields, values_in}
use Rattle.juniper_values.proofs.Reading.{prepend}
use Rattle.juniper_values.proofs.Trees.{put_item, put_field}
use Rattle.juniper_values.proofs.input_value.resolve.+resolve.Given as goal

abbrev pub invariant-constant_items-loop-item : goal.invariant-constant_items-loop-item
invariant-constant_items-loop-item g l =
    let Becoming = ItemsBecome g.S.PartialEq.eq (values_in (λ s. s) l.values) in
    (rest : Items g.row.S.Denot) → Becoming (view_items (λ s. s) (into_iter_items l.item-iterator)) rest
    → Becoming (view_items (λ s. s) l.fn.items.items) (prepend (put_item (λ s. s)) l.done.items rest)

abbrev pub invariant-constant_fields-loop-field : goal.invariant-constant_fields-loop-field
invariant-constant_fields-loop-field g l =
    let Becoming = FieldsBecome g.S.PartialEq.eq (values_in (λ s. s) l.values) in
    record {
      split : l.fn.fields.items ≡ l.yielded ++ into_iter_items l.field-iterator;
      made : (rest : ObjectFields g.row.S.Denot)
          → Becoming (view_fields (λ s. s) (into_iter_items l.field-iterator)) rest
          → Becoming (view_fields (λ s. s) l.fn.fields.items) (prepend (put_field (λ s. s)) l.done.items rest);
    }
