-- Equality of entries along a map of their values.
use Rattle.std.specs.Prelude.{◌≡◌, List, [], ◌∷◌, map}
use mathlib.Core.Path.{refl, ap, ◌∙◌}
use Rattle.std.specs.List.{zip}
use Rattle.std.specs.String.{string_eq}
use Rattle.std.specs.declared.cmp.PartialEq as eq
use Rattle.std.specs.formers.vec.Vec as vec
use Rattle.std_collections.specs.formers.hash_map.HashMap.{entries_eq-map}
use Rattle.juniper_answers.specs.Entries.{entries_of}
use Rattle.juniper_answers.specs.Same.{same_entries, same_held}
use Rattle.juniper_answers.specs.declared.entries.Entries.{Entries}

-- h applied to the value of a pair
abbrev on_value : {K X Y : Type 0} → (X → Y) → K × X → K × Y
on_value h p = (p.0, h p.1)

-- keys beside mapped values are the mapped pairs of keys and values
pub zip_map : {K X Y : Type 0} (h : X → Y) (ks : List K) (vs : List X) → zip ks (map h vs) ≡ map (on_value h) (zip ks vs)
zip_map h [] vs = refl
zip_map h (k ∷ ks) [] = refl
zip_map h (k ∷ ks) (v ∷ vs) = ap (λ ps. (k, h v) ∷ ps) (zip_map h ks vs)

-- the container with h applied to each value
abbrev mapped : {X Y : Type 0} → (X → Y) → Entries X → Entries Y
mapped h e = record { keys = e.keys; values = vec.mapped h e.values }

pub the_eq_natural : (X Y : Type 0) (h : X → Y) (V : eq.Ghosts Y) (a b : Entries X)
    → same_held V.eq (mapped h a) (mapped h b) ≡ same_held (λ x y. V.eq (h x) (h y)) a b
the_eq_natural X Y h V a b =
    (λ i. same_entries V.eq (zip_map h a.keys.keys a.values.items i) (zip_map h b.keys.keys b.values.items i))
    ∙ entries_eq-map string_eq (λ p q. V.eq p.1 q.1) (on_value h) (entries_of a) (entries_of b) (λ p. refl)
