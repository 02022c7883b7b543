use Rattle.std.proofs.Common.{◌≡◌, ◌+◌, ◌*◌, [], ◌∷◌, ◌++◌, length, drop, Some, arith, ◌∙◌, ap, sym, subst}
use Rattle.std.proofs.Common.{append_assoc, String, Global, rules}
use Rattle.std.proofs.lemmas.List.{drop_all}
use Rattle.std.proofs.lemmas.Result.{on_ok_weaker}
use Rattle.std.proofs.lemmas.Str.{encodes-chars}
use Rattle.std.specs.Str.{chars, encode_utf8_all}
use Rattle.serde.specs.Event as event
use Rattle.serde.specs.Event.{Logs}
use Rattle.serde.specs.declared.name.Case.TheVariants.{AsIs}
use Rattle.juniper_values.specs.Default.{default_content}
use Rattle.juniper_values.specs.declared.default_scalar.DefaultScalarValue.{DefaultScalarValue}
use Rattle.juniper_values.proofs.Public.{drop_read}
use Rattle.juniper_answers.specs.View.{view, items_view, fields_view, pairs}
use Rattle.juniper_answers.specs.declared.value.Object.{size-Object}
use Rattle.juniper_answers.specs.declared.value.Value.{Value, size-Value}
use Rattle.juniper_answers.proofs.Public.{below_object, most_within, view-Object}
use Rattle.guide.specs.Json.{Grows, events, item_events, field_events}
use Rattle.guide.proofs.EventsInTurn.{grows_by_one, grows_by_none, grows_further, grows_within}
use Rattle.guide.proofs.EventsInTurn.{count_items, count_fields}
use Rattle.guide.proofs.json.+send.Goals as goal

pub send-returns-in-Object : goal.send-returns-in-Object
send-returns-in-Object g t c =
    let is = ap (view default_content) c.in-Object.is ∙ view-Object default_content c.in-Object.object in
    on_ok_weaker c.send_fields.result
    (λ e. subst (λ d. Grows (events d) (g.T.Serializer.written c.args.out.now)
    (g.T.Serializer.written c.send_fields.new.out)) (sym is) e) c.send_fields.ensures

pub send_fields-send-requires : goal.send_fields-send-requires
send_fields-send-requires g t c =
    let i = c.loop-key.invariant.split in
    let m = most_within (size-Value DefaultScalarValue) (pairs c.args.object.now) i.0 c.next.new.self
    (c.in-Some.key.now, c.in-Some.value.now) (i.1 ∙ ap (λ es. i.0 ++ es) c.in-Some.ensures.steps) in
    let e : 2 * size-Object DefaultScalarValue c.args.object.now + 1 ≡ t = c.decreases in
    λ κs h. (omega (arith, m, e, below_object DefaultScalarValue c.args.object.now), h)

pub send_fields-loop-key-init : goal.send_fields-loop-key-init
send_fields-loop-key-init g t c =
    let start : pairs c.args.object.now ≡ c.into_iter-key-iterator.result = sym c.iter-key-items.ensures.rest
    ∙ sym c.into_iter-key-iterator.ensures.into_iter_gives in
    let log = g.T.Serializer.written c.begin_map.new.self in
    record {
      split = ([], start);
      sent = λ end h. subst (λ es. Grows (field_events (fields_view default_content es)) log end) (sym start) h;
    }

pub send_fields-loop-key-preserved : goal.send_fields-loop-key-preserved
send_fields-loop-key-preserved g t c =
    let i = c.loop-key.invariant in
    let e : String Global × Value DefaultScalarValue = (c.in-Some.key.now, c.in-Some.value.now) in
    let old = g.T.Serializer.written c.loop-key.out in
    let named = g.T.Serializer.written c.key.new.self in
    let new = g.T.Serializer.written c.send.new.out in
    let key = sym (encodes-chars c.as_str.result.now c.as_str.utf8)
    ∙ ap (λ bytes. encode_utf8_all (chars bytes)) c.as_str.ensures.value in
    record {
      split = (
        i.split.0 ++ e ∷ [],
        i.split.1 ∙ ap (λ es. i.split.0 ++ es) c.in-Some.ensures.steps
            ∙ sym (append_assoc i.split.0 (e ∷ []) c.next.new.self),
      );
      sent = λ end h. i.sent end
          (subst (λ es. Grows (field_events (fields_view default_content es)) old end) (sym c.in-Some.ensures.steps)
          (grows_further (event.field_key _ AsIs ∷ []) _ old named end
          (grows_by_one (event.field_key _ AsIs) old named
          (subst (λ bytes. Logs old named (event.field_key bytes AsIs)) key c.in_ok-key.ensures))
          (grows_further (events (view default_content e.1)) _ named new end c.in_ok-send.ensures h)));
    }

pub send_fields-returns : goal.send_fields-returns
send_fields-returns g t c =
    let first = g.T.Serializer.written c.begin_map.new.self in
    let last = g.T.Serializer.written c.loop-key.out in
    let end = g.T.Serializer.written c.end_map.new.self in
    let inner = c.loop-key.invariant.sent last
    (subst (λ es. Grows (field_events (fields_view default_content es)) last last) (sym c.in-None.ensures.steps.0)
    (grows_by_none last)) in
    let begun = subst (λ n. Logs (g.T.Serializer.written c.args.out.now) first (event.map_begins (Some n)))
    (c.field_count.ensures ∙ sym (count_fields (pairs c.args.object.now))) c.in_ok-begin_map.ensures in
    on_ok_weaker c.end_map.result
    (λ e. grows_within (event.map_begins (Some _)) event.map_ends
    (field_events (fields_view default_content (pairs c.args.object.now))) (g.T.Serializer.written c.args.out.now)
    first last end begun inner e)
    c.end_map.ensures

pub send_items-loop-item-init : goal.send_items-loop-item-init
send_items-loop-item-init g t c = λ end h. h

pub send_items-loop-item-preserved : goal.send_items-loop-item-preserved
send_items-loop-item-preserved g t c = λ end h.
    c.loop-item.invariant end
    (subst (λ xs. Grows (item_events (items_view default_content xs)) (g.T.Serializer.written c.loop-item.out) end)
    (sym (drop_read c.deref-item-items.result.now c.loop-item.item-index c.item-item.result c.loop-item-test.true
    c.item-item.is))
    (grows_further (events (view default_content c.item-item.result)) _ (g.T.Serializer.written c.loop-item.out)
    (g.T.Serializer.written c.send.new.out) end c.in_ok-send.ensures h))

pub send_items-returns : goal.send_items-returns
send_items-returns g t c =
    let items = c.deref-item-items.result.now in
    let same : items ≡ c.args.items.now.items = c.deref-item-items.ensures.value in
    let first = g.T.Serializer.written c.begin_seq.new.self in
    let last = g.T.Serializer.written c.loop-item.out in
    let end = g.T.Serializer.written c.end_seq.new.self in
    let none : drop c.loop-item.item-index items ≡ [] = drop_all c.loop-item.item-index items c.loop-item-test.false in
    let inner = c.loop-item.invariant last
    (subst (λ xs. Grows (item_events (items_view default_content xs)) last last) (sym none) (grows_by_none last)) in
    let size : c.len.result ≡ length c.args.items.now.items = search rules in
    let count = size ∙ sym (count_items c.args.items.now.items) in
    let begun = subst (λ n. Logs (g.T.Serializer.written c.args.out.now) first (event.seq_begins (Some n))) count
    c.in_ok-begin_seq.ensures in
    on_ok_weaker c.end_seq.result
    (λ e. grows_within (event.seq_begins (Some _)) event.seq_ends
    (item_events (items_view default_content c.args.items.now.items)) (g.T.Serializer.written c.args.out.now)
    first last end begun (subst (λ xs. Grows (item_events (items_view default_content xs)) first last) same inner) e)
    c.end_seq.ensures
