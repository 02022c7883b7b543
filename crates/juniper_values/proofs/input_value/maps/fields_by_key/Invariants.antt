use Rattle.std.proofs.Common.{◌≡◌, map, drop}
use Rattle.std.specs.List.{AllByRecursion}
use Rattle.std.specs.Str.{chars, IsUtf8}
use Rattle.juniper_values.specs.Maps.{put_all, as_map}
use Rattle.juniper_values.specs.View.{view, view_fields}
use Rattle.juniper_values.proofs.input_value.maps.fields_by_key.Given as goal

abbrev pub invariant-loop-field : goal.invariant-loop-field
invariant-loop-field g l = record {
  texts : AllByRecursion (λ e. IsUtf8 e.0.now) l.by_key.entries;
  made : put_all (map (λ e. (chars e.0.now, view (λ s. s) e.1.now)) l.by_key.entries)
      (view_fields (λ s. s) (drop l.field-index l.field-items)) ≡ as_map (view_fields (λ s. s) l.field-items);
}
