-- Definitions that have no spread.
use Rattle.std.proofs.Common.{◌≡◌, ◌<◌, ◌+◌, ℕ, suc, List, [], ◌∷◌, ◌++◌, length, map, get_or, Option, Some}
use Rattle.std.proofs.Common.{None, take, refl, ap, sym, subst, ◌∙◌, arith, append_assoc, append-nil}
use Rattle.std.proofs.lemmas.List.{length-take}
use Rattle.std.proofs.lemmas.Option.{slice_get_within, slice_get-get_or}
use Rattle.std.specs.Borrow.{Bor}
use Rattle.std.specs.List.{slice_get}
use Rattle.std.specs.Prelude.{is_none, if◌then◌else◌}
use Rattle.graphql_lexical.specs.Characters.{Text}
use Rattle.juniper_outlines.specs.Definitions.{HaveNoSpreads, own_complexity, own_complexities, one_complexity}
use Rattle.juniper_outlines.specs.Definitions.{outline_of, outlines_of, place_of, resolved}
use Rattle.juniper_outlines.specs.Outlines.{Outline, Spread, OutlineHas, outline_has, AddsUpTo, no_spread, OutlinesHave}
use Rattle.juniper_outlines.specs.Outlines.{no_outline, outline_of_fragment, outline_of_operation}
use Rattle.juniper_outlines.specs.declared.complexity.Complexity.{Complexity}
use Rattle.juniper_outlines.specs.declared.outline.DefinitionOutline.{DefinitionOutline}
use Rattle.juniper_outlines.proofs.Elements.{outline_at}
use Rattle.juniper_outlines.proofs.Places.{take_next}

pub same_fragment : (os : List DefinitionOutline) (i : ℕ) (d o : DefinitionOutline) (f : Option (Bor (List ℕ)))
    → (get_or os i d).fragment ≡ f → slice_get os i ≡ Some o → o.fragment ≡ f
same_fragment os i d o f is at =
    let here = slice_get-get_or os i d (slice_get_within os i o at) in
    let one : get_or os i d ≡ o = cc in
    ap (λ (z : DefinitionOutline). z.fragment) (sym one) ∙ is

-- ---- their complexities

-- a definition without a spread has its own complexity
pub has_own : (g : List Outline) (place : Text → Option ℕ) (i : ℕ) (o : DefinitionOutline)
    → slice_get g i ≡ Some (outline_of place o) → o.spreads.items ≡ [] → OutlineHas g i o.own
has_own g place i o at none =
    outline_has (outline_of place o) at
    (subst (λ (ss : List Spread). AddsUpTo g o.own ss o.own) (sym (ap (map (resolved place)) none)) no_spread)

first_own : (g : List Outline) (place : Text → Option ℕ) (i : ℕ) (o : DefinitionOutline)
    (os : List DefinitionOutline) → slice_get g i ≡ Some (outline_of place o)
    → (o.fragment ≡ None → o.spreads.items ≡ [])
    → OutlinesHave g (suc i) (map (outline_of place) os) (own_complexities (suc i) os)
    → (f : Option (Bor (List ℕ))) → o.fragment ≡ f
    → OutlinesHave g i (map (outline_of place) (o ∷ os))
    (one_complexity i (if is_none f then Some o.own else None) ++ own_complexities (suc i) os)
first_own g place i o os at nothing rest (Some name) e = outline_of_fragment (ap is_none e) rest
first_own g place i o os at nothing rest None e =
    outline_of_operation o.own (ap is_none e) (has_own g place i o at (nothing e)) rest

own_from : (g : List Outline) (place : Text → Option ℕ) (i : ℕ) (os : List DefinitionOutline)
    → ((j : ℕ) (o : DefinitionOutline) → slice_get os j ≡ Some o → slice_get g (i + j) ≡ Some (outline_of place o))
    → HaveNoSpreads os → OutlinesHave g i (map (outline_of place) os) (own_complexities i os)
own_from g place i [] at nothing = no_outline
own_from g place i (o ∷ os) at nothing =
    let rest = own_from g place (suc i) os
    (λ j p h. subst (λ (n : ℕ). slice_get g n ≡ Some (outline_of place p)) (omega arith) (at (suc j) p h))
    (λ j p h. nothing (suc j) p h) in
    let here = subst (λ (n : ℕ). slice_get g n ≡ Some (outline_of place o)) (omega arith) (at 0 o refl) in
    first_own g place i o os here (nothing 0 o refl) rest o.fragment refl

-- Where no operation has a spread, each has its own complexity.
pub own_have : (os : List DefinitionOutline) → HaveNoSpreads os
    → OutlinesHave (outlines_of os) 0 (outlines_of os) (own_complexities 0 os)
own_have os nothing =
    own_from (outlines_of os) (place_of os) 0 os
    (λ j o h. subst (λ (n : ℕ). slice_get (outlines_of os) n ≡ Some (outline_of (place_of os) o)) (omega arith)
    (outline_at os j o h)) nothing

own_more : (i : ℕ) (os : List DefinitionOutline) (o : DefinitionOutline)
    → own_complexities i (os ++ o ∷ []) ≡ own_complexities i os ++ one_complexity (i + length os) (own_complexity o)
own_more i [] o = append-nil (one_complexity i (own_complexity o))
    ∙ ap (λ (n : ℕ). one_complexity n (own_complexity o)) (omega arith)
own_more i (p ∷ os) o =
    ap (λ cs. one_complexity i (own_complexity p) ++ cs)
    (own_more (suc i) os o
    ∙ ap (λ (n : ℕ). own_complexities (suc i) os ++ one_complexity n (own_complexity o)) (omega arith))
    ∙ sym (append_assoc (one_complexity i (own_complexity p)) (own_complexities (suc i) os)
    (one_complexity (i + length (p ∷ os)) (own_complexity o)))

-- of one definition more, the first of which are these
pub one_own_more : (os : List DefinitionOutline) (i : ℕ) (o : DefinitionOutline) (own : Option Complexity)
    → i < length os → o ≡ get_or os i o → own ≡ own_complexity o
    → own_complexities 0 (take (i + 1) os) ≡ own_complexities 0 (take i os) ++ one_complexity i own
one_own_more os i o own lt at is =
    let longer = take_next os i o lt at in
    let count : 0 + length (take i os) ≡ i = omega (arith, length-take i os) in
    ap (own_complexities 0) longer
    ∙ (own_more 0 (take i os) o
    ∙ (ap (λ (n : ℕ). own_complexities 0 (take i os) ++ one_complexity n (own_complexity o)) count
    ∙ ap (λ (x : Option Complexity). own_complexities 0 (take i os) ++ one_complexity i x) (sym is)))
