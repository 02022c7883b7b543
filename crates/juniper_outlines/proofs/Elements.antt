-- What the code reads, as the definitions speak of it.
use Rattle.std.proofs.Common.{◌≡◌, ◌<◌, ℕ, zero, suc, List, [], ◌∷◌, length, map, get_or, Option, Some, Bool, true}
use Rattle.std.proofs.Common.{false, not, refl, ap, ◌∙◌}
use Rattle.std.specs.Prelude.{is_some, is_none}
use Rattle.std.specs.List.{slice_get}
use Rattle.std.proofs.lemmas.Option.{slice_get_read, slice_get-get_or, slice_get-map}
use Rattle.graphql_lexical.specs.Characters.{Text}
use Rattle.juniper_outlines.specs.declared.complexity.Complexity.{Complexity}
use Rattle.juniper_outlines.specs.declared.outline.DefinitionOutline.{DefinitionOutline}
use Rattle.juniper_outlines.specs.declared.outline.NamedSpread.{NamedSpread}
use Rattle.juniper_outlines.specs.declared.walk.State.{State}
use Rattle.juniper_outlines.specs.declared.walk.State.TheVariants as state
use Rattle.juniper_outlines.specs.Definitions.{outline_of, outlines_of, place_of, resolved}
use Rattle.juniper_outlines.specs.Outlines.{Spread}
use Rattle.juniper_outlines.specs.device.Walk.{IsNext}

pub read_at : (ss : List State) (i : ℕ) (s : State) → i < length ss → get_or ss i state.Unvisited ≡ s
    → slice_get ss i ≡ Some s
read_at ss i s h e = slice_get-get_or ss i state.Unvisited h ∙ ap (λ x. Some x) e

-- an element of the code, as the definitions see it
seen_at : {A B : Type 0} (view : A → B) (xs : List A) (i : ℕ) (x : A) → i < length xs → x ≡ get_or xs i x
    → slice_get (map view xs) i ≡ Some (view x)
seen_at view xs i x lt e =
    let here = slice_get_read xs (length xs) i x refl lt e in
    rw (slice_get-map, here) refl

pub outline_at : (os : List DefinitionOutline) (i : ℕ) (o : DefinitionOutline) → slice_get os i ≡ Some o
    → slice_get (outlines_of os) i ≡ Some (outline_of (place_of os) o)
outline_at os i o e = rw (slice_get-map, e) refl

pub is_next : (os : List DefinitionOutline) (ss : List State) (at n : ℕ) (a : Complexity) (o : DefinitionOutline)
    (s : NamedSpread) → at < length os → at < length ss
    → n < length o.spreads.items → o ≡ get_or os at o → get_or ss at state.Unvisited ≡ state.Open n a
    → s ≡ get_or o.spreads.items n s
    → IsNext (outlines_of os) ss at n a (outline_of (place_of os) o) (resolved (place_of os) s)
is_next os ss at n a o s lg ls ln eo es en = record {
  outline = seen_at (outline_of (place_of os)) os at o lg eo;
  open_at = read_at ss at (state.Open n a) ls es;
  spread = seen_at (resolved (place_of os)) o.spreads.items n s ln en;
}

pub is_none_by : {A : Type 0} (o : Option A) (b : Bool) → is_some o ≡ not b → is_none o ≡ b
is_none_by o true e = ap not e
is_none_by o false e = ap not e

pub resolved_at : (place : Text → Option ℕ) (xs : List NamedSpread) (n : ℕ) (d : NamedSpread) (s : Spread)
    → slice_get (map (resolved place) xs) n ≡ Some s → resolved place (get_or xs n d) ≡ s
resolved_at place [] n d s e = absurd cc
resolved_at place (x ∷ xs) zero d s e = cc
resolved_at place (x ∷ xs) (suc n) d s e = resolved_at place xs n d s e
