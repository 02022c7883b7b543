-- A definition has one fault at most, and none if it has a complexity.
use Rattle.std.proofs.Common.{◌≡◌, ℕ, List, [], ◌∷◌, Some, None, refl, sym, subst, inl, inr}
use Rattle.std.specs.List.{slice_get}
use Rattle.graphql_grammar.specs.Tree.{Definition}
use Rattle.juniper_complexity.specs.Parts.{Reference, spreads_of_definition, fragment_at}
use Rattle.juniper_complexity.specs.Expansion.{DefinitionHas}
use Rattle.juniper_outlines.specs.Outlines.{IsAmong}
use Rattle.juniper_complexity.specs.Faults.{SpreadFault, OfCycle, OfUnknown, CannotExpand, of_none, of_outer}
use Rattle.juniper_complexity.specs.Faults.{in_fragment, in_others}
use Rattle.juniper_complexity.specs.device.BySpreads.{HasBySpreads}
use Rattle.juniper_outlines.specs.declared.complexity.Complexity.{Complexity}
use Rattle.juniper_complexity.proofs.Gathering.{gathers}
use Rattle.juniper_complexity.proofs.Unique.{never_inside}

module _ {C : Type 0} (ds : List (Definition C)) where
  -- none of these definitions has a complexity
  abbrev pub NoneHas : List ℕ → Type 0
  NoneHas inside = (t : ℕ) → IsAmong t inside → (b : Complexity) → HasBySpreads ds t b → ⊥

  -- a fault of spreads, by the first of them
  data FaultBy (inside : List ℕ) (r : Reference) (rs : List Reference) (f : SpreadFault) : Type 0 where
    names_none : fragment_at ds r.name ≡ None → f ≡ OfUnknown r.span → FaultBy inside r rs f
    names_outer : (t : ℕ) → fragment_at ds r.name ≡ Some t → IsAmong t inside → f ≡ OfCycle r.span
        → FaultBy inside r rs f
    within : (t : ℕ) (d : Definition C) → fragment_at ds r.name ≡ Some t → ¬ IsAmong t inside → slice_get ds t ≡ Some d
        → CannotExpand ds (t ∷ inside) (spreads_of_definition d) f → FaultBy inside r rs f
    after : (t : ℕ) (d : Definition C) (b : Complexity) → fragment_at ds r.name ≡ Some t → slice_get ds t ≡ Some d
        → DefinitionHas ds d b → CannotExpand ds inside rs f → FaultBy inside r rs f

  by_first : {inside : List ℕ} {r : Reference} {rs : List Reference} {f : SpreadFault}
      → CannotExpand ds inside (r ∷ rs) f
      → FaultBy inside r rs f
  by_first (of_none e) = names_none e refl
  by_first (of_outer t e among) = names_outer t e among refl
  by_first (in_fragment t d e out stands more) = within t d e out stands more
  by_first (in_others t d b e stands has more) = after t d b e stands has more

  none_more : {f : SpreadFault} (inside : List ℕ) (t : ℕ) (d : Definition C) → slice_get ds t ≡ Some d
      → CannotExpand ds (t ∷ inside) (spreads_of_definition d) f → NoneHas inside → NoneHas (t ∷ inside)
  none_more inside t d e cannot none u among b k = elim among [
    | inl here ↦ never_inside ds inside t d e cannot none b (subst (λ (n : ℕ). HasBySpreads ds n b) here k)
    | inr there ↦ none u there b k
  ]

  moved : {f : SpreadFault} (inside : List ℕ) (t u : ℕ) (d p : Definition C) → u ≡ t → p ≡ d
      → CannotExpand ds (u ∷ inside) (spreads_of_definition p) f
      → CannotExpand ds (t ∷ inside) (spreads_of_definition d) f
  moved {f} inside t u d p same one k =
      subst (λ (n : ℕ). CannotExpand ds (n ∷ inside) (spreads_of_definition d) f) same
      (subst (λ (z : Definition C). CannotExpand ds (u ∷ inside) (spreads_of_definition z) f) one k)

  one_of : {inside : List ℕ} {rs : List Reference} {f g : SpreadFault} → NoneHas inside → CannotExpand ds inside rs f
      → CannotExpand ds inside rs g → f ≡ g
  one_of none (of_none {r = r} e) l = elim (by_first l) [
    | names_none x s ↦ sym s
    | names_outer u x among s ↦ absurd cc
    | within u p x out stands more ↦ absurd cc
    | after u p b x stands has more ↦ absurd cc
  ]
  one_of {inside} none (of_outer {r = r} t e among) l = elim (by_first l) [
    | names_none x s ↦ absurd cc
    | names_outer u x also s ↦ sym s
    | within u p x out stands more ↦
        let same : t ≡ u = cc in absurd (out (subst (λ (n : ℕ). IsAmong n inside) same among))
    | after u p b x stands has more ↦
        let same : t ≡ u = cc in
        absurd (none u (subst (λ (n : ℕ). IsAmong n inside) same among) b (gathers ds u b p has stands))
  ]
  one_of {inside} none (in_fragment {r = r} {f = f} t d e out stands more) l = elim (by_first l) [
    | names_none x s ↦ absurd cc
    | names_outer u x among s ↦
        let same : u ≡ t = cc in absurd (out (subst (λ (n : ℕ). IsAmong n inside) same among))
    | within u p x also there others ↦
        let same : u ≡ t = cc in
        let here : slice_get ds t ≡ Some p = subst (λ (n : ℕ). slice_get ds n ≡ Some p) same there in
        let one : p ≡ d = cc in
        one_of (none_more inside t d stands more none) more (moved inside t u d p same one others)
    | after u p b x there has others ↦
        let same : u ≡ t = cc in
        absurd (none_more inside t d stands more none t (inl refl) b
        (subst (λ (n : ℕ). HasBySpreads ds n b) same (gathers ds u b p has there)))
  ]
  one_of {inside} none (in_others {r = r} t d b e stands has more) l = elim (by_first l) [
    | names_none x s ↦ absurd cc
    | names_outer u x among s ↦
        let same : u ≡ t = cc in
        absurd (none t (subst (λ (n : ℕ). IsAmong n inside) same among) b (gathers ds t b d has stands))
    | within u p x out there others ↦
        let same : t ≡ u = cc in
        absurd (none_more inside u p there others none u (inl refl) b
        (subst (λ (n : ℕ). HasBySpreads ds n b) same (gathers ds t b d has stands)))
    | after u p x y there also others ↦ one_of none more others
  ]

  pub one_fault : (i : ℕ) (d : Definition C) (f g : SpreadFault) → slice_get ds i ≡ Some d
      → CannotExpand ds (i ∷ []) (spreads_of_definition d) f → CannotExpand ds (i ∷ []) (spreads_of_definition d) g
      → f ≡ g
  one_fault i d f g e k l = one_of (none_more [] i d e k (λ t among. absurd among)) k l

  pub never_both : (i : ℕ) (a : Complexity) (d : Definition C) (f : SpreadFault) → slice_get ds i ≡ Some d
      → DefinitionHas ds d a
      → CannotExpand ds (i ∷ []) (spreads_of_definition d) f → ⊥
  never_both i a d f e has cannot =
      none_more [] i d e cannot (λ t among. absurd among) i (inl refl) a (gathers ds i a d has e)
