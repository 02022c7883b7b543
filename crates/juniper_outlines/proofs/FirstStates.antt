-- Where the walk begins, what is done is right.
use Rattle.std.proofs.Common.{◌≡◌, ℕ, List, [], ◌∷◌, map, Option, Some, None, refl}
use Rattle.std.specs.List.{slice_get}
use Rattle.std.specs.Prelude.{option_map}
use Rattle.std.proofs.lemmas.Option.{slice_get-map}
use Rattle.juniper_outlines.specs.Definitions.{outlines_of, place_of}
use Rattle.juniper_outlines.specs.device.Walk.{AreRight, first_state, state_before}
use Rattle.juniper_outlines.specs.declared.complexity.Complexity.{Complexity}
use Rattle.juniper_outlines.specs.declared.outline.DefinitionOutline.{DefinitionOutline}
use Rattle.juniper_outlines.specs.declared.outline.NamedSpread.{NamedSpread}
use Rattle.juniper_outlines.specs.declared.walk.State.{State}
use Rattle.juniper_outlines.specs.declared.walk.State.TheVariants as state
use Rattle.juniper_outlines.proofs.Elements.{outline_at}
use Rattle.juniper_outlines.proofs.OwnComplexities.{has_own}

-- a definition that is done has no spread, and its own complexity
done_before : (own c : Complexity) (ss : List NamedSpread) → state_before own ss ≡ state.Done c
    → (ss ≡ []) × (own ≡ c)
done_before own c [] e = (refl, cc)
done_before own c (s ∷ ss) e = absurd cc

none_open_before : (own c : Complexity) (n : ℕ) (ss : List NamedSpread) → state_before own ss ≡ state.Open n c → ⊥
none_open_before own c n [] e = absurd cc
none_open_before own c n (s ∷ ss) e = absurd cc

-- the definition that has this state
record Behind (os : List DefinitionOutline) (i : ℕ) (s : State) : Type 0 where
  pub definition : DefinitionOutline
  pub stands : slice_get os i ≡ Some definition
  pub has_it : first_state definition ≡ s

behind : (os : List DefinitionOutline) (i : ℕ) (s : State) (o : Option DefinitionOutline) → slice_get os i ≡ o
    → option_map first_state o ≡ Some s → Behind os i s
behind os i s None e f = absurd cc
behind os i s (Some d) e f = record { definition = d; stands = e; has_it = cc }

state_at : (os : List DefinitionOutline) (i : ℕ) (s : State) → slice_get (map first_state os) i ≡ Some s
    → Behind os i s
state_at os i s e = behind os i s (slice_get os i) refl (rw slice_get-map at e)

pub first_right : (os : List DefinitionOutline) → AreRight (outlines_of os) (map first_state os)
first_right os = record {
  done = λ i c e.
      let b = state_at os i (state.Done c) e in
      let w = done_before b.definition.own c b.definition.spreads.items b.has_it in
      rw (← w.1) (has_own (outlines_of os) (place_of os) i b.definition (outline_at os i b.definition b.stands) w.0);
  none_open = λ i n a e.
      let b = state_at os i (state.Open n a) e in
      none_open_before b.definition.own a n b.definition.spreads.items b.has_it;
}
