-- What outlines have, in the words of the document.
use Rattle.std.proofs.Common.{◌≡◌, ℕ, zero, suc, List, [], ◌∷◌, map, Option, Some, None, refl, ap, sym, subst, ◌∙◌}
use Rattle.std.specs.List.{slice_get}
use Rattle.graphql_grammar.specs.Tokens.{Text}
use Rattle.graphql_grammar.specs.Tree.{Definition}
use Rattle.juniper_tokens.specs.Spans.{view_span}
use Rattle.juniper_outlines.specs.Complexities.{plus, capped, capped_complexity}
use Rattle.juniper_outlines.specs.Sums.{at_level, plus_capped, at_level_capped}
use Rattle.juniper_outlines.specs.Outlines.{Outline, Spread, OutlineHas, outline_has, AddsUpTo, no_spread}
use Rattle.juniper_outlines.specs.Outlines.{spread_first, Breaks, names_none, names_outer, breaks_within, breaks_after}
use Rattle.juniper_complexity.specs.Parts.{Reference, spreads_of_definition, fragment_at}
use Rattle.juniper_complexity.specs.device.BySpreads.{own_of_definition, HasBySpreads, has_by_spreads, SpreadsAdd}
use Rattle.juniper_complexity.specs.device.BySpreads.{none_adds, first_adds}
use Rattle.juniper_complexity.specs.Faults.{SpreadFault, OfCycle, OfUnknown, CannotExpand, of_none, of_outer}
use Rattle.juniper_complexity.specs.Faults.{in_fragment, in_others, view_failure}
use Rattle.juniper_complexity.specs.device.Outlines.{coded, IsOutline, AreOutlines}
use Rattle.juniper_outlines.specs.declared.complexity.Complexity.{Complexity}
use Rattle.juniper_outlines.specs.declared.complexity.ComplexityFailure.{ComplexityFailure}
use Rattle.juniper_complexity.proofs.Expanding.{expanded}
use Rattle.juniper_complexity.proofs.Algebra.{at_capped_level, capped_plus}

module _ {A B : Type 0} (f : A → B) where
  pub map_nil : (rs : List A) → [] ≡ map f rs → rs ≡ []
  map_nil [] e = refl
  map_nil (r ∷ rs) e = absurd cc

  pub record FirstOf (s : B) (ss : List B) (rs : List A) : Type 0 where
    pub first : A
    pub others : List A
    pub list : rs ≡ first ∷ others
    pub is_first : s ≡ f first
    pub are_others : ss ≡ map f others

  pub map_cons : (rs : List A) (s : B) (ss : List B) → s ∷ ss ≡ map f rs → FirstOf s ss rs
  map_cons [] s ss e = absurd cc
  map_cons (r ∷ rs) s ss e = record { first = r; others = rs; list = refl; is_first = cc; are_others = cc }

-- ---- outlines

module _ {C : Type 0} (place : Text → Option ℕ) where
  pub record Outlined (ds : List (Definition C)) (i : ℕ) (o : Outline) : Type 0 where
    pub definition : Definition C
    pub stands : slice_get ds i ≡ Some definition
    pub outline : IsOutline place definition o

  pub outlined : (ds : List (Definition C)) (g : List Outline) → AreOutlines place ds g → (i : ℕ) (o : Outline)
      → slice_get g i ≡ Some o → Outlined ds i o
  outlined [] [] h i o e = absurd cc
  outlined [] (p ∷ g) h i o e = absurd h
  outlined (d ∷ ds) [] h i o e = absurd h
  outlined (d ∷ ds) (p ∷ g) h zero o e =
      let same : p ≡ o = cc in record { definition = d; stands = refl; outline = rw (← same) h.0 }
  outlined (d ∷ ds) (p ∷ g) h (suc i) o e =
      let w = outlined ds g h.1 i o e in record { definition = w.definition; stands = w.stands; outline = w.outline }

-- ---- complexities

module _ {C : Type 0} (ds : List (Definition C)) (g : List Outline) (h : AreOutlines (fragment_at ds) ds g) where
  pub record Meant (i : ℕ) (c : Complexity) : Type 0 where
    pub exact : Complexity
    pub has_it : HasBySpreads ds i exact
    pub is_capped : c ≡ capped_complexity exact

  pub record MeantSum (x : Complexity) (rs : List Reference) (c : Complexity) : Type 0 where
    pub exact : Complexity
    pub adds : SpreadsAdd ds x rs exact
    pub is_capped : c ≡ capped_complexity exact

  sum_on : (a x b y : Complexity) (n l : ℕ) → a ≡ capped_complexity x → b ≡ capped_complexity y → n ≡ capped l
      → plus_capped a (at_level_capped n b) ≡ capped_complexity (plus x (at_level l y))
  sum_on a x b y n l e f k =
      ap (λ z. plus_capped z (at_level_capped n b)) e
      ∙ (ap (λ z. plus_capped (capped_complexity x) (at_level_capped n z)) f
      ∙ (ap (λ z. plus_capped (capped_complexity x) (at_level_capped z (capped_complexity y))) k
      ∙ (ap (λ z. plus_capped (capped_complexity x) z) (at_capped_level l y) ∙ capped_plus x (at_level l y))))

  mutual
    pub bridged : {i : ℕ} {c : Complexity} → OutlineHas g i c → Meant i c
    bridged {i} {c} (outline_has o e k) =
        let w = outlined (fragment_at ds) ds g h i o e in
        let m = sum_means k (own_of_definition w.definition) (spreads_of_definition w.definition)
        w.outline.own_complexity w.outline.own_spreads in
        record { exact = m.exact; has_it = has_by_spreads w.definition w.stands m.adds; is_capped = m.is_capped }

    pub sum_means : {a c : Complexity} {ss : List Spread} → AddsUpTo g a ss c
        → (x : Complexity) (rs : List Reference) → a ≡ capped_complexity x
        → ss ≡ map (coded (fragment_at ds)) rs → MeantSum x rs c
    sum_means no_spread x rs e f =
        record {
          exact = x;
          adds = subst (λ (z : List Reference). SpreadsAdd ds x z x)
              (sym (map_nil (coded (fragment_at ds)) rs f)) none_adds;
          is_capped = e;
        }
    sum_means {a} (spread_first {s = s} {ss = ss} t b et k more) x rs e f =
        let w = map_cons (coded (fragment_at ds)) rs s ss f in
        let m = bridged k in
        let r = w.first in
        let target : fragment_at ds r.name ≡ Some t = sym (ap (λ (z : Spread). z.target) w.is_first) ∙ et in
        let sum = sum_on a x b m.exact s.fields_around r.fields_around e m.is_capped
        (ap (λ (z : Spread). z.fields_around) w.is_first) in
        let n = sum_means more (plus x (at_level r.fields_around m.exact)) w.others sum w.are_others in
        record {
          exact = n.exact;
          adds =
              subst (λ (z : List Reference). SpreadsAdd ds x z n.exact) (sym w.list)
              (first_adds t m.exact target m.has_it n.adds);
          is_capped = n.is_capped;
        }

  -- ---- faults

  pub record MeantFault (inside : List ℕ) (rs : List Reference) (f : ComplexityFailure) : Type 0 where
    pub fault : SpreadFault
    pub seen : view_failure f ≡ Some fault
    pub cannot : CannotExpand ds inside rs fault

  on_list : {inside : List ℕ} {rs qs : List Reference} {f : SpreadFault} → rs ≡ qs → CannotExpand ds inside qs f
      → CannotExpand ds inside rs f
  on_list {inside} {rs} {qs} {f} e k = subst (λ (z : List Reference). CannotExpand ds inside z f) (sym e) k

  pub fault_means : {inside : List ℕ} {ss : List Spread} {f : ComplexityFailure} → Breaks g inside ss f
      → (rs : List Reference)
      → ss ≡ map (coded (fragment_at ds)) rs → MeantFault inside rs f
  fault_means (names_none {s = s} {ss = ss} et) rs q =
      let w = map_cons (coded (fragment_at ds)) rs s ss q in
      let r = w.first in
      let target : fragment_at ds r.name ≡ None = sym (ap (λ (z : Spread). z.target) w.is_first) ∙ et in
      record {
        fault = OfUnknown r.span;
        seen = ap (λ (z : Spread). Some (OfUnknown (view_span z.span))) w.is_first;
        cannot = on_list w.list (of_none target);
      }
  fault_means (names_outer {s = s} {ss = ss} t et among) rs q =
      let w = map_cons (coded (fragment_at ds)) rs s ss q in
      let r = w.first in
      let target : fragment_at ds r.name ≡ Some t = sym (ap (λ (z : Spread). z.target) w.is_first) ∙ et in
      record {
        fault = OfCycle r.span;
        seen = ap (λ (z : Spread). Some (OfCycle (view_span z.span))) w.is_first;
        cannot = on_list w.list (of_outer t target among);
      }
  fault_means (breaks_within {s = s} {ss = ss} t o et out eo k) rs q =
      let w = map_cons (coded (fragment_at ds)) rs s ss q in
      let r = w.first in
      let target : fragment_at ds r.name ≡ Some t = sym (ap (λ (z : Spread). z.target) w.is_first) ∙ et in
      let d = outlined (fragment_at ds) ds g h t o eo in
      let m = fault_means k (spreads_of_definition d.definition) d.outline.own_spreads in
      record {
        fault = m.fault;
        seen = m.seen;
        cannot =
            on_list w.list (in_fragment t d.definition target out d.stands m.cannot);
      }
  fault_means (breaks_after {s = s} {ss = ss} t b et k more) rs q =
      let w = map_cons (coded (fragment_at ds)) rs s ss q in
      let r = w.first in
      let target : fragment_at ds r.name ≡ Some t = sym (ap (λ (z : Spread). z.target) w.is_first) ∙ et in
      let n = bridged k in
      let x = expanded ds n.has_it in
      let m = fault_means more w.others w.are_others in
      record {
        fault = m.fault;
        seen = m.seen;
        cannot =
            on_list w.list (in_others t x.definition n.exact target x.stands x.expands m.cannot);
      }

-- ---- definitions

-- the outline of a definition
pub found : {C : Type 0} (place : Text → Option ℕ) (ds : List (Definition C)) (g : List Outline)
    → AreOutlines place ds g → (i : ℕ) (d : Definition C)
    → slice_get ds i ≡ Some d → (o : Outline) × (slice_get g i ≡ Some o) × IsOutline place d o
found place [] [] h i d e = absurd cc
found place [] (p ∷ g) h i d e = absurd h
found place (f ∷ ds) [] h i d e = absurd h
found place (f ∷ ds) (p ∷ g) h zero d e = let same : f ≡ d = cc in (p, refl, rw (← same) h.0)
found place (f ∷ ds) (p ∷ g) h (suc i) d e = found place ds g h.1 i d e
