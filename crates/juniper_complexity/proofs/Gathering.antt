-- The complexity of a definition by its selections is that by its spreads.
use Rattle.std.proofs.Common.{◌≡◌, ℕ, suc, ◌+◌, List, [], ◌∷◌, ◌++◌, Some, ap, sym, subst, ◌∙◌}
use Rattle.std.specs.List.{slice_get}
use Rattle.graphql_grammar.specs.Tree.{Selection, Selections, Definition}
use Rattle.juniper_outlines.specs.Complexities.{plus}
use Rattle.juniper_outlines.specs.Sums.{at_level}
use Rattle.juniper_complexity.specs.Parts.{Reference, directive_count, directives_complexity, operation_directives}
use Rattle.juniper_complexity.specs.Parts.{variable_directive_count, spreads_of}
use Rattle.juniper_complexity.specs.Parts.{spreads_of_all, fragment_at}
use Rattle.juniper_complexity.specs.device.BySpreads.{own_of, own_of_all, HasBySpreads, has_by_spreads, SpreadsAdd}
use Rattle.juniper_complexity.specs.device.BySpreads.{none_adds, first_adds}
use Rattle.juniper_complexity.specs.Expansion.{DefinitionHas, operation, fragment, SelectionsHave, none_have, first_has}
use Rattle.juniper_complexity.specs.Expansion.{SelectionHas, leaf, field, spread, inline}
use Rattle.juniper_outlines.specs.declared.complexity.Complexity.{Complexity}
use Rattle.juniper_complexity.proofs.Algebra.{plus_assoc, plus_nothing, nothing_plus}
use Rattle.juniper_complexity.proofs.Expanding.{sum}
use Rattle.juniper_complexity.proofs.Levels.{Sums, sums_none, sums_row, sums_leaf, sums_field, sums_spread, sums_inline}
use Rattle.juniper_complexity.proofs.Levels.{sums_whole}

module _ {C : Type 0} (ds : List (Definition C)) where
  -- the complexity of each of these spreads
  data Gathered : List Reference → List Complexity → Type 0 where
    no_reference : Gathered [] []
    reference : {r : Reference} {rs : List Reference} {b : Complexity} {bs : List Complexity} (t : ℕ)
        → fragment_at ds r.name ≡ Some t → HasBySpreads ds t b
        → Gathered rs bs → Gathered (r ∷ rs) (b ∷ bs)

  record Both (rs qs : List Reference) (one two : List Complexity) : Type 0 where
    pub gathered : Gathered (rs ++ qs) (one ++ two)
    pub sums : sum (rs ++ qs) (one ++ two) ≡ plus (sum rs one) (sum qs two)

  both : {rs qs : List Reference} {one two : List Complexity} → Gathered rs one → Gathered qs two → Both rs qs one two
  both {qs = qs} {two = two} no_reference k = record { gathered = k; sums = sym (nothing_plus (sum qs two)) }
  both {qs = qs} {two = two} (reference {r = r} {rs = rs} {b = b} {bs = bs} t e x h) k =
      let w = both h k in
      record {
        gathered = reference t e x w.gathered;
        sums = ap (λ z. plus (at_level r.fields_around b) z) w.sums
            ∙ sym (plus_assoc (at_level r.fields_around b) (sum rs bs) (sum qs two));
      }

  adds : {rs : List Reference} {bs : List Complexity} → Gathered rs bs → (a : Complexity)
      → SpreadsAdd ds a rs (plus a (sum rs bs))
  adds no_reference a = subst (λ (z : Complexity). SpreadsAdd ds a [] z) (sym (plus_nothing a)) none_adds
  adds (reference {r = r} {rs = rs} {b = b} {bs = bs} t e x k) a =
      subst (λ (z : Complexity). SpreadsAdd ds a (r ∷ rs) z) (plus_assoc a (at_level r.fields_around b) (sum rs bs))
      (first_adds t b e x (adds k (plus a (at_level r.fields_around b))))

  record Parts (l : ℕ) (rs : List Reference) (o x : Complexity) : Type 0 where
    pub parts : List Complexity
    pub gathered : Gathered rs parts
    pub sums : Sums l o (sum rs parts) x

  mutual
    unfolding own_of spreads_of

    definition_of : {d : Definition C} {c : Complexity} → DefinitionHas ds d c → (i : ℕ) → slice_get ds i ≡ Some d
        → HasBySpreads ds i c
    definition_of (operation {a = a} type name variables dirs ss span k) i e =
        let w = row_of k 0 in
        let count = variable_directive_count variables + directive_count dirs in
        let total = sums_whole count (own_of_all 0 ss) (sum (spreads_of_all 0 ss) w.parts) a w.sums in
        subst (λ (z : Complexity). HasBySpreads ds i z) total
        (has_by_spreads _ e (adds w.gathered (plus (operation_directives variables dirs) (own_of_all 0 ss))))
    definition_of (fragment {a = a} name condition dirs ss span k) i e =
        let w = row_of k 0 in
        let total = sums_whole (directive_count dirs) (own_of_all 0 ss) (sum (spreads_of_all 0 ss) w.parts) a w.sums in
        subst (λ (z : Complexity). HasBySpreads ds i z) total
        (has_by_spreads _ e (adds w.gathered (plus (directives_complexity dirs) (own_of_all 0 ss))))

    row_of : {ss : Selections C} {x : Complexity} → SelectionsHave ds ss x → (l : ℕ)
        → Parts l (spreads_of_all l ss) (own_of_all l ss) x
    row_of none_have l = record { parts = []; gathered = no_reference; sums = sums_none l }
    row_of (first_has {a = a} {b = b} s ss k h) l =
        let v = one_of k l in
        let w = row_of h l in
        let j = both v.gathered w.gathered in
        record {
          parts = v.parts ++ w.parts;
          gathered = j.gathered;
          sums = subst (λ (z : Complexity). Sums l (plus (own_of l s) (own_of_all l ss)) z (plus a b)) (sym j.sums)
              (sums_row l (own_of l s) (sum (spreads_of l s) v.parts) a (own_of_all l ss)
              (sum (spreads_of_all l ss) w.parts) b v.sums w.sums);
        }

    one_of : {s : Selection C} {x : Complexity} → SelectionHas ds s x → (l : ℕ)
        → Parts l (spreads_of l s) (own_of l s) x
    one_of (leaf alias name arguments dirs span) l =
        record { parts = []; gathered = no_reference; sums = sums_leaf l alias (directive_count dirs) }
    one_of (field {a = a} alias name arguments dirs ss span k) l =
        let w = row_of k (suc l) in
        record {
          parts = w.parts;
          gathered = w.gathered;
          sums = sums_field l alias (directive_count dirs) (own_of_all (suc l) ss)
              (sum (spreads_of_all (suc l) ss) w.parts) a w.sums;
        }
    one_of (spread {a = a} name dirs span t d e f k) l = record {
      parts = a ∷ [];
      gathered = reference t e (definition_of k t f) no_reference;
      sums = sums_spread l (directive_count dirs) a;
    }
    one_of (inline {a = a} condition dirs ss span k) l =
        let w = row_of k l in
        record {
          parts = w.parts;
          gathered = w.gathered;
          sums = sums_inline l (directive_count dirs) (own_of_all l ss) (sum (spreads_of_all l ss) w.parts) a w.sums;
        }

  pub gathers : (i : ℕ) (c : Complexity) (d : Definition C) → DefinitionHas ds d c → slice_get ds i ≡ Some d
      → HasBySpreads ds i c
  gathers i c d k e = definition_of k i e
