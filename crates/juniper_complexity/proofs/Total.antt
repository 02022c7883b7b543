-- Each definition has a complexity, or a fault.
use Rattle.std.proofs.Common.{◌≡◌, ◌⊎◌, ◌<◌, ◌≤◌, ◌+◌, ℕ, zero, suc, true, false, eqb, List, [], ◌∷◌, length, Option}
use Rattle.std.proofs.Common.{Some, None, refl, arith, inl, inr}
use Rattle.std.specs.List.{slice_get, list_any, AllByRecursion, IsDistinct}
use Rattle.std.proofs.lemmas.Bool.{cases_eq, ne_eqb}
use Rattle.std.proofs.lemmas.Map.Steps.{length-le_from_distinct_below}
use Rattle.std.proofs.lemmas.Option.{slice_get_cases, slice_get_within}
use Rattle.graphql_grammar.specs.Tree.{Definition}
use Rattle.juniper_outlines.specs.Complexities.{plus}
use Rattle.juniper_outlines.specs.Sums.{at_level}
use Rattle.juniper_complexity.specs.device.BySpreads.{own_of_definition, HasBySpreads, has_by_spreads, SpreadsAdd}
use Rattle.juniper_complexity.specs.device.BySpreads.{none_adds, first_adds}
use Rattle.juniper_complexity.specs.Expansion.{DefinitionHas}
use Rattle.juniper_outlines.specs.Outlines.{IsAmong}
use Rattle.juniper_complexity.specs.Faults.{SpreadFault, OfCycle, OfUnknown, CannotExpand, of_none, of_outer}
use Rattle.juniper_complexity.specs.Faults.{in_fragment, in_others}
use Rattle.juniper_complexity.specs.Parts.{Reference, spreads_of_definition, is_fragment_named, fragment_at}
use Rattle.juniper_outlines.specs.declared.complexity.Complexity.{Complexity}
use Rattle.juniper_outlines.proofs.Public.{position_below}
use Rattle.juniper_complexity.proofs.Expanding.{expands}

-- ---- what stands inside

is_among : (t : ℕ) (ys : List ℕ) → IsAmong t ys ⊎ (IsAmong t ys → ⊥)
is_among t [] = inr (λ h. h)
is_among t (y ∷ ys) = elim (cases_eq t y) [
  | inl e ↦ inl (inl e)
  | inr n ↦ elim (is_among t ys) [ inl h ↦ inl (inr h) | inr m ↦ inr (λ h. elim h [ inl e ↦ n e | inr k ↦ m k ]) ]
]

apart : (t : ℕ) (ys : List ℕ) → (IsAmong t ys → ⊥) → AllByRecursion (λ y. eqb t y ≡ false) ys
apart t [] n = tt
apart t (y ∷ ys) n = (ne_eqb t y (λ e. n (inl e)), apart t ys (λ h. n (inr h)))

any_among : (q : ℕ) (ys : List ℕ) → list_any (eqb q) ys ≡ true → IsAmong q ys
any_among q [] e = absurd cc
any_among q (y ∷ ys) e = elim (cases_eq q y) [
  | inl s ↦ inl s
  | inr n ↦ let f = ne_eqb q y n in inr (any_among q ys (rw f at e))
]

-- distinct numbers below n
record Below (n : ℕ) (ys : List ℕ) : Type 0 where
  pub distinct : IsDistinct eqb ys
  pub below : (t : ℕ) → IsAmong t ys → t < n

below_more : (n t : ℕ) (ys : List ℕ) → t < n → (IsAmong t ys → ⊥) → Below n ys → Below n (t ∷ ys)
unfolding IsDistinct
below_more n t ys lt out b = record {
  distinct = (apart t ys out, b.distinct);
  below = λ u h. elim h [ inl e ↦ omega arith | inr k ↦ b.below u k ];
}

few : (n : ℕ) (ys : List ℕ) → Below n ys → length ys ≤ n
few n ys b = length-le_from_distinct_below ys n b.distinct (λ q e. b.below q (any_among q ys e))

-- ---- decisions

module _ {C : Type 0} (ds : List (Definition C)) where
  abbrev Decided : List ℕ → List Reference → Complexity → Type 0
  Decided inside rs a = ((c : Complexity) × SpreadsAdd ds a rs c) ⊎ ((f : SpreadFault) × CannotExpand ds inside rs f)

  -- each fragment in which none of these stands is decided
  abbrev Decides : List ℕ → Type 0
  Decides inside = (t : ℕ) (d : Definition C) → (IsAmong t inside → ⊥) → slice_get ds t ≡ Some d
      → Decided (t ∷ inside) (spreads_of_definition d) (own_of_definition d)

  there : (name : _) (t : ℕ) → fragment_at ds name ≡ Some t → (d : Definition C) × (slice_get ds t ≡ Some d)
  there name t e =
      let lt = position_below (is_fragment_named name) 0 ds t e in
      elim (slice_get_cases ds t).1 [ inl h ↦ (h.0, h.2) | inr h ↦ absurd (omega arith) ]

  row : (inside : List ℕ) → Decides inside → (rs : List Reference) (a : Complexity) → Decided inside rs a
  row inside within [] a = inl (a, none_adds)
  row inside within (r ∷ rs) a = on (fragment_at ds r.name) refl (row inside within rs) where
    on : (o : Option ℕ) → fragment_at ds r.name ≡ o → ((b : Complexity) → Decided inside rs b)
        → Decided inside (r ∷ rs) a
    on None e others = inr (OfUnknown r.span, of_none e)
    on (Some t) e others = elim (is_among t inside) [
      | inl h ↦ inr (OfCycle r.span, of_outer t e h)
      | inr out ↦
          let d = there r.name t e in
          elim (within t d.0 out d.1) [
            | inl k ↦
                let has : HasBySpreads ds t k.0 = has_by_spreads d.0 d.1 k.1 in
                elim (others (plus a (at_level r.fields_around k.0))) [
                  | inl m ↦ inl (m.0, first_adds t k.0 e has m.1)
                  | inr m ↦ inr (m.0, in_others t d.0 k.0 e d.1 (expands ds t k.0 d.0 has d.1) m.1)
                ]
            | inr k ↦ inr (k.0, in_fragment t d.0 e out d.1 k.1)
          ]
    ]

  decide : (n : ℕ) (inside : List ℕ) → Below (length ds) inside → length ds ≤ length inside + n → Decides inside
  decide zero inside b le t d out e =
      let lt = slice_get_within ds t d e in
      let h = few (length ds) (t ∷ inside) (below_more (length ds) t inside lt out b) in
      absurd (omega arith)
  decide (suc n) inside b le t d out e =
      let lt = slice_get_within ds t d e in
      let more = below_more (length ds) t inside lt out b in
      row (t ∷ inside) (decide n (t ∷ inside) more (omega arith)) (spreads_of_definition d) (own_of_definition d)

  pub decided : (i : ℕ) (d : Definition C) → slice_get ds i ≡ Some d
      → ((a : Complexity) × DefinitionHas ds d a) ⊎ ((f : SpreadFault) × CannotExpand ds (i ∷ [])
      (spreads_of_definition d) f)
  unfolding IsDistinct
  decided i d e =
      elim (decide (length ds) [] (record { distinct = tt; below = λ t h. absurd h }) (omega arith) i d (λ h. h) e) [
        | inl k ↦ inl (k.0, expands ds i k.0 d (has_by_spreads d e k.1) e)
        | inr k ↦ inr k
      ]
