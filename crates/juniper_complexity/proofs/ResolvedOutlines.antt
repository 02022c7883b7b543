-- Outlines that were gathered, with the definitions that their spreads name.
use Rattle.std.proofs.Common.{◌≡◌, ◌+◌, ℕ, List, [], ◌∷◌, ◌++◌, map, Option, Some, None, Bool, cond}
use Rattle.std.proofs.Common.{refl, ap, ap₂, ◌∙◌}
use Rattle.std.specs.Borrow.{Bor}
use Rattle.std.specs.List.{position_from}
use Rattle.std.specs.Prelude.{option_map, is_none}
use Rattle.std.specs.Str.{chars}
use Rattle.graphql_grammar.specs.Tokens.{Text}
use Rattle.graphql_grammar.specs.Tree as tree
use Rattle.graphql_grammar.specs.Tree.{Definition}
use Rattle.juniper_values.specs.Scalar.{Content}
use Rattle.juniper_complexity.specs.Gathered.{seen_spread, capped_reference, fragment_name, IsGathered, AreGathered}
use Rattle.juniper_complexity.specs.Parts.{Reference, is_fragment_named, is_operation, fragment_at}
use Rattle.juniper_complexity.specs.Parts.{spreads_of_definition}
use Rattle.juniper_complexity.specs.device.Outlines.{coded, IsOutline, AreOutlines}
use Rattle.juniper_outlines.specs.Definitions.{is_name, is_named, place_of, resolved, outline_of}
use Rattle.juniper_outlines.specs.Definitions.{outlines_of}
use Rattle.juniper_outlines.specs.Outlines.{Spread}
use Rattle.juniper_outlines.specs.declared.outline.DefinitionOutline.{DefinitionOutline}
use Rattle.juniper_outlines.specs.declared.outline.NamedSpread.{NamedSpread}

-- ---- names

-- a definition and its outline have the same name
same_name : (q : Text) (own : Option (Bor (List ℕ))) (d : Definition Content)
    → option_map (λ name. chars name.now) own ≡ fragment_name d → is_name q own ≡ is_fragment_named q d
same_name q None (tree.Operation _ _ _ _ _ _) e = refl
same_name q None (tree.Fragment name _ _ _ _) e = absurd cc
same_name q (Some own) (tree.Operation _ _ _ _ _ _) e = absurd cc
same_name q (Some own) (tree.Fragment name _ _ _ _) e =
    let same : chars own.now ≡ name.item = cc in rw same refl

pub same_kind : (own : Option (Bor (List ℕ))) (d : Definition Content)
    → option_map (λ name. chars name.now) own ≡ fragment_name d → is_none own ≡ is_operation d
same_kind None (tree.Operation _ _ _ _ _ _) e = refl
same_kind None (tree.Fragment name _ _ _ _) e = absurd cc
same_kind (Some own) (tree.Operation _ _ _ _ _ _) e = absurd cc
same_kind (Some own) (tree.Fragment name _ _ _ _) e = refl

same_place : (q : Text) (i : ℕ) (os : List DefinitionOutline) (ds : List (Definition Content)) → AreGathered os ds
    → position_from (is_named q) i os ≡ position_from (is_fragment_named q) i ds
same_place q i [] [] h = refl
same_place q i [] (d ∷ ds) h = absurd h
same_place q i (o ∷ os) [] h = absurd h
same_place q i (o ∷ os) (d ∷ ds) h =
    ap₂ (λ (b : Bool) (rest : Option ℕ). cond b (Some i) rest) (same_name q o.fragment d h.0.fragment)
    (same_place q (i + 1) os ds h.1)

-- ---- spreads

module _ (place real : Text → Option ℕ) (same : (name : Text) → place name ≡ real name) where
  -- a spread of a definition, in the code
  in_code : Reference → Spread
  in_code r = record {
    target = place r.name;
    fields_around = r.fields_around;
    span = record { start = r.span.start; end = r.span.end };
  }

  seen_in_code : (ss : List NamedSpread) → map (resolved place) ss ≡ map in_code (map seen_spread ss)
  unfolding in_code
  seen_in_code [] = refl
  seen_in_code (s ∷ ss) = ap (λ rest. resolved place s ∷ rest) (seen_in_code ss)

  one_in_code : (r : Reference) → in_code (capped_reference r) ≡ coded real r
  unfolding in_code
  one_in_code r = rw (same r.name) refl

  capped_in_code : (rs : List Reference) → map in_code (map capped_reference rs) ≡ map (coded real) rs
  capped_in_code [] = refl
  capped_in_code (r ∷ rs) =
      ap₂ (λ (s : Spread) (rest : List Spread). s ∷ rest) (one_in_code r) (capped_in_code rs)

  is_outline : (o : DefinitionOutline) (d : Definition Content) → IsGathered o d
      → IsOutline real d (outline_of place o)
  is_outline o d g = record {
    is_one = same_kind o.fragment d g.fragment;
    own_complexity = g.own_complexity;
    own_spreads = seen_in_code o.spreads.items
        ∙ (ap (map in_code) g.own_spreads ∙ capped_in_code (spreads_of_definition d));
  }

  each_is : (os : List DefinitionOutline) (ds : List (Definition Content)) → AreGathered os ds
      → AreOutlines real ds (map (outline_of place) os)
  each_is [] [] g = tt
  each_is [] (d ∷ ds) g = absurd g
  each_is (o ∷ os) [] g = absurd g
  each_is (o ∷ os) (d ∷ ds) g = (is_outline o d g.0, each_is os ds g.1)

-- Outlines that were gathered are those of the definitions, each name standing for a fragment of the document.
pub are_outlines : (os : List DefinitionOutline) (ds : List (Definition Content)) → AreGathered os ds
    → AreOutlines (fragment_at ds) ds (outlines_of os)
are_outlines os ds g = each_is (place_of os) (fragment_at ds) (λ name. same_place name 0 os ds g) os ds g

pub gathered_more : (os : List DefinitionOutline) (ds : List (Definition Content)) (o : DefinitionOutline)
    (d : Definition Content) → AreGathered os ds → IsGathered o d → AreGathered (os ++ o ∷ []) (ds ++ d ∷ [])
gathered_more [] [] o d h k = (k, tt)
gathered_more [] (e ∷ ds) o d h k = absurd h
gathered_more (p ∷ os) [] o d h k = absurd h
gathered_more (p ∷ os) (e ∷ ds) o d h k = (h.0, gathered_more os ds o d h.1 k)
