use Rattle.std.proofs.Common.{ap, sym, ◌∙◌, ◌+◌, map, drop, Bor}
use Rattle.std.specs.Str.{chars}
use Rattle.juniper_tokens.specs.Spans.{view_span}
use Rattle.juniper_values.specs.Maps.{put_all}
use Rattle.juniper_values.specs.View.{view, view_fields, view_located, text_of}
use Rattle.juniper_values.specs.declared.input_value.InputValue.{InputValue}
use Rattle.juniper_values.proofs.Maps.{seen, still_texts, put_more}
use Rattle.juniper_values.proofs.Reading.{drop_read}
use Rattle.juniper_values.proofs.input_value.maps.fields_by_key.Goals as goal

pub loop-field-preserved : goal.loop-field-preserved
loop-field-preserved g c =
    let f = λ (v : Bor (InputValue g.row.S.Denot)). view (λ s. s) v.now in
    let x = c.field-item.result in
    let xs = c.deref-field-items.result.now in
    let es = c.loop-field.by_key.entries in
    record {
      texts = still_texts f c.insert.new.self.entries es c.as_str.result _ c.loop-field.invariant.texts c.as_str.utf8
          c.in_ok-insert.ensures.entries;
      made =
          put_more f c.insert.new.self.entries es c.as_str.result _ c.loop-field.invariant.texts c.as_str.utf8
          c.in_ok-insert.ensures.entries
          (view_located text_of x.0) (view_span x.1.span)
          (view_fields (λ s. s) (drop (c.loop-field.field-index + 1) xs)) _ (ap chars c.as_str.ensures.value)
          (ap (λ ys. put_all (map (seen f) es) (view_fields (λ s. s) ys))
          (sym (drop_read xs c.loop-field.field-index x c.loop-field-test.true c.field-item.is))
          ∙ c.loop-field.invariant.made);
    }
