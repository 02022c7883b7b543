-- A definition has one complexity at most, and no fault beside it.
use Rattle.std.proofs.Common.{◌≡◌, ◌<◌, ◌+◌, ℕ, suc, List, [], ◌∷◌, Some, refl, ap, sym, subst, ◌∙◌, arith, inl, inr}
use Rattle.std.specs.List.{slice_get}
use Rattle.graphql_grammar.specs.Tree.{Definition}
use Rattle.juniper_outlines.specs.Complexities.{plus}
use Rattle.juniper_outlines.specs.Sums.{at_level}
use Rattle.juniper_outlines.specs.Outlines.{IsAmong}
use Rattle.juniper_complexity.specs.Parts.{Reference, spreads_of_definition, fragment_at}
use Rattle.juniper_complexity.specs.device.BySpreads.{own_of_definition, HasBySpreads, has_by_spreads, SpreadsAdd}
use Rattle.juniper_complexity.specs.device.BySpreads.{none_adds, first_adds}
use Rattle.juniper_complexity.specs.Faults.{SpreadFault, CannotExpand, of_none, of_outer, in_fragment, in_others}
use Rattle.juniper_outlines.specs.declared.complexity.Complexity.{Complexity}

module _ {C : Type 0} (ds : List (Definition C)) where
  -- how many fragments are expanded at most in one another, and more
  mutual
    height : {i : ℕ} {c : Complexity} → HasBySpreads ds i c → ℕ
    height (has_by_spreads d e k) = suc (heights k)

    heights : {a c : Complexity} {rs : List Reference} → SpreadsAdd ds a rs c → ℕ
    heights none_adds = 0
    heights (first_adds t b e k more) = suc (height k + heights more)

  record Same (m n : ℕ) (a b : Complexity) : Type 0 where
    pub numbers : m ≡ n
    pub same : a ≡ b

  -- the parts of a complexity that begins with a spread
  record Begun (a c : Complexity) (r : Reference) (rs : List Reference) (n : ℕ) : Type 0 where
    pub target : ℕ
    pub inner : Complexity
    pub is : fragment_at ds r.name ≡ Some target
    pub inner_has : HasBySpreads ds target inner
    pub rest : SpreadsAdd ds (plus a (at_level r.fields_around inner)) rs c
    pub number : n ≡ suc (height inner_has + heights rest)

  begun : {a c : Complexity} {r : Reference} {rs : List Reference} (k : SpreadsAdd ds a (r ∷ rs) c)
      → Begun a c r rs (heights k)
  unfolding heights
  begun (first_adds t b e k more) = record { target = t; inner = b; is = e; inner_has = k; rest = more; number = refl }

  ended : {a c : Complexity} (k : SpreadsAdd ds a [] c) → (a ≡ c) × (heights k ≡ 0)
  unfolding heights
  ended none_adds = (refl, refl)

  record Parts (i : ℕ) (c : Complexity) (n : ℕ) : Type 0 where
    pub definition : Definition C
    pub is : slice_get ds i ≡ Some definition
    pub adds : SpreadsAdd ds (own_of_definition definition) (spreads_of_definition definition) c
    pub number : n ≡ suc (heights adds)

  parts : {i : ℕ} {c : Complexity} (k : HasBySpreads ds i c) → Parts i c (height k)
  unfolding height
  parts (has_by_spreads d e k) = record { definition = d; is = e; adds = k; number = refl }

  mutual
    unfolding height heights

    same_definition : {i : ℕ} {a : Complexity} (k : HasBySpreads ds i a) (j : ℕ) (b : Complexity) → i ≡ j
        → (l : HasBySpreads ds j b) → Same (height k) (height l) a b
    same_definition {i} {a} (has_by_spreads d e k) j b q l =
        let p = parts l in
        let same : d ≡ p.definition = (let f : slice_get ds i ≡ Some p.definition =
        subst (λ (n : ℕ). slice_get ds n ≡ Some p.definition) (sym q) p.is in cc) in
        let s = same_sum k (own_of_definition p.definition) b (spreads_of_definition p.definition)
        (ap own_of_definition same) (ap spreads_of_definition same) p.adds in
        let n = s.numbers in
        let m = p.number in
        record { numbers = omega arith; same = s.same }

    same_sum : {a c : Complexity} {rs : List Reference} (k : SpreadsAdd ds a rs c) (b d : Complexity)
        (qs : List Reference) → a ≡ b → rs ≡ qs
        → (l : SpreadsAdd ds b qs d) → Same (heights k) (heights l) c d
    same_sum none_adds b d [] e f l =
        let w = ended l in
        record { numbers = sym w.1; same = e ∙ w.0 }
    same_sum none_adds b d (q ∷ qs) e f l = absurd cc
    same_sum (first_adds {r = r} {rs = rs} t x et k more) b d [] e f l = absurd cc
    same_sum {a} (first_adds {r = r} {rs = rs} t x et k more) b d (q ∷ qs) e f l =
        let w = begun l in
        let one : r ≡ q = cc in
        let others : rs ≡ qs = cc in
        let target : t ≡ w.target = (let g : fragment_at ds r.name ≡ Some w.target = rw one w.is in cc) in
        let s = same_definition k w.target w.inner target w.inner_has in
        let u = same_sum more (plus b (at_level q.fields_around w.inner)) d qs
        (ap (λ z. plus z (at_level r.fields_around x)) e
        ∙ (ap (λ (z : Reference). plus b (at_level z.fields_around x)) one
        ∙ ap (λ z. plus b (at_level q.fields_around z)) s.same))
        others w.rest in
        let n = s.numbers in
        let m = u.numbers in
        let o = w.number in
        record { numbers = omega arith; same = u.same }

  pub unique_complexity : (i : ℕ) (a b : Complexity) → HasBySpreads ds i a → HasBySpreads ds i b → a ≡ b
  unique_complexity i a b k l = (same_definition k i b refl l).same

  no_fault : {inside : List ℕ} {rs : List Reference} {f : SpreadFault} → CannotExpand ds inside rs f
      → (qs : List Reference) → rs ≡ qs
      → (a c : Complexity) (k : SpreadsAdd ds a qs c)
      → ((t : ℕ) → IsAmong t inside → (b : Complexity) (l : HasBySpreads ds t b) → heights k < height l) → ⊥
  no_fault (of_none e) [] q a c k higher = absurd cc
  no_fault (of_none {r = r} e) (p ∷ ps) q a c k higher =
      let w = begun k in
      let one : r ≡ p = cc in
      let g : fragment_at ds r.name ≡ Some w.target = rw one w.is in
      absurd cc
  no_fault (of_outer t e among) [] q a c k higher = absurd cc
  no_fault {inside} (of_outer {r = r} t e among) (p ∷ ps) q a c k higher =
      let w = begun k in
      let one : r ≡ p = cc in
      let g : fragment_at ds r.name ≡ Some w.target = rw one w.is in
      let target : t ≡ w.target = cc in
      let less = higher w.target (subst (λ (n : ℕ). IsAmong n inside) target among) w.inner w.inner_has in
      let o = w.number in
      absurd (omega arith)
  no_fault (in_fragment t d e out stands more) [] q a c k higher = absurd cc
  no_fault {inside} (in_fragment {r = r} t d e out stands more) (p ∷ ps) q a c k higher =
      let w = begun k in
      let one : r ≡ p = cc in
      let g : fragment_at ds r.name ≡ Some w.target = rw one w.is in
      let target : w.target ≡ t = cc in
      let m = parts w.inner_has in
      let same : d ≡ m.definition = (let f : slice_get ds t ≡ Some m.definition =
      subst (λ (n : ℕ). slice_get ds n ≡ Some m.definition) target m.is in cc) in
      let o = w.number in
      let u = m.number in
      no_fault more (spreads_of_definition m.definition) (ap spreads_of_definition same)
      (own_of_definition m.definition) w.inner m.adds
      (λ v among b l. elim among [
        | inl here ↦ let s = same_definition w.inner_has v b (target ∙ sym here) l in let n = s.numbers in omega arith
        | inr there ↦ let less = higher v there b l in omega arith
      ])
  no_fault (in_others t d b e stands l more) [] q a c k higher = absurd cc
  no_fault (in_others {rs = rs} t d b e stands l more) (p ∷ ps) q a c k higher =
      let w = begun k in
      let o = w.number in
      let others : rs ≡ ps = cc in
      no_fault more ps others (plus a (at_level p.fields_around w.inner)) c w.rest
      (λ u among x y. let less = higher u among x y in omega arith)

  -- A definition being expanded with a fault has no complexity, if none has inside which it is.
  pub never_inside : {f : SpreadFault} (inside : List ℕ) (t : ℕ) (d : Definition C) → slice_get ds t ≡ Some d
      → CannotExpand ds (t ∷ inside) (spreads_of_definition d) f
      → ((u : ℕ) → IsAmong u inside → (b : Complexity) → HasBySpreads ds u b → ⊥) → (b : Complexity)
      → HasBySpreads ds t b → ⊥
  never_inside inside t d e cannot none b k =
      let p = parts k in
      let g = p.is in
      let same : d ≡ p.definition = cc in
      let m = p.number in
      no_fault cannot (spreads_of_definition p.definition) (ap spreads_of_definition same)
      (own_of_definition p.definition) b p.adds
      (λ v among x l. elim among [
        | inl here ↦ let s = same_definition k v x (sym here) l in let n = s.numbers in omega arith
        | inr there ↦ absurd (none v there x l)
      ])
