-- Events that are sent one after another.
use Rattle.std.proofs.Common.{◌≡◌, suc, length, List, [], ◌∷◌, ◌++◌, Some, None, refl, ap, sym, subst, ◌∙◌}
use Rattle.std.proofs.Common.{append_assoc, append-nil, String, Global}
use Rattle.serde.specs.Event.{Event, Log, Logs}
use Rattle.juniper_answers.specs.View.{items_view, fields_view}
use Rattle.juniper_answers.specs.declared.value.Value.{Value}
use Rattle.juniper_values.specs.Default.{default_content}
use Rattle.juniper_values.specs.declared.default_scalar.DefaultScalarValue.{DefaultScalarValue}
use Rattle.guide.specs.Json.{Grows, item_count, field_count}

-- one event
pub grows_by_one : (e : Event) (old new : Log) → Logs old new e → Grows (e ∷ []) old new
grows_by_one e None new h = h
grows_by_one e (Some es) new h = h

-- no event
pub grows_by_none : (log : Log) → Grows [] log log
grows_by_none None = tt
grows_by_none (Some es) = ap Some (sym (append-nil es))

-- some events, and then others
pub grows_further : (first last : List Event) (old mid new : Log) → Grows first old mid → Grows last mid new
    → Grows (first ++ last) old new
grows_further first last None mid new h k = tt
grows_further first last (Some es) mid new h k =
    subst (λ log. Grows last log new) h k ∙ ap Some (append_assoc es first last)

-- between two events
pub grows_within : (first last : Event) (inner : List Event) (a b c d : Log) → Logs a b first → Grows inner b c
    → Logs c d last → Grows (first ∷ (inner ++ last ∷ [])) a d
grows_within first last inner a b c d f i l =
    grows_further (first ∷ []) (inner ++ last ∷ []) a b d (grows_by_one first a b f)
    (grows_further inner (last ∷ []) b c d i (grows_by_one last c d l))

pub count_items : (items : List (Value DefaultScalarValue))
    → item_count (items_view default_content items) ≡ length items
count_items [] = refl
count_items (x ∷ xs) = ap suc (count_items xs)

pub count_fields : (fields : List (String Global × Value DefaultScalarValue))
    → field_count (fields_view default_content fields) ≡ length fields
count_fields [] = refl
count_fields (x ∷ xs) = ap suc (count_fields xs)
