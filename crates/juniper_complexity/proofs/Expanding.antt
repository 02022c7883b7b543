-- The complexity of a definition by its spreads is that by its selections.
use Rattle.std.proofs.Common.{◌≡◌, ℕ, ◌+◌, suc, List, [], ◌∷◌, ◌++◌, Some, ap, sym, subst, ◌∙◌}
use Rattle.std.specs.List.{slice_get}
use Rattle.graphql_grammar.specs.Tree as tree
use Rattle.graphql_lexical.specs.Place.{Span}
use Rattle.graphql_grammar.specs.Tokens.{Word}
use Rattle.graphql_grammar.specs.Tree.{Directives, Selection, Selections, no_selections, selection, absent, present}
use Rattle.graphql_grammar.specs.Tree.{Definition}
use Rattle.juniper_outlines.specs.Complexities.{nothing, plus, in_a_field}
use Rattle.juniper_outlines.specs.Sums.{at_level}
use Rattle.juniper_complexity.specs.Parts.{Reference, directive_count, directives_complexity, field_complexity}
use Rattle.juniper_complexity.specs.Parts.{variable_directive_count}
use Rattle.juniper_complexity.specs.Parts.{spreads_of, spreads_of_all, spreads_of_definition, fragment_at}
use Rattle.juniper_complexity.specs.device.BySpreads.{own_of, own_of_all, own_of_definition, HasBySpreads}
use Rattle.juniper_complexity.specs.device.BySpreads.{has_by_spreads, SpreadsAdd, none_adds, first_adds}
use Rattle.juniper_complexity.specs.Expansion.{DefinitionHas, operation, fragment, SelectionsHave, none_have, first_has}
use Rattle.juniper_complexity.specs.Expansion.{SelectionHas, leaf, field, spread, inline}
use Rattle.juniper_outlines.specs.declared.complexity.Complexity.{Complexity}
use Rattle.juniper_complexity.proofs.Algebra.{plus_assoc, plus_nothing, nothing_plus}
use Rattle.juniper_complexity.proofs.Levels.{Sums, sums_none, sums_row, sums_leaf, sums_field, sums_spread, sums_inline}
use Rattle.juniper_complexity.proofs.Levels.{sums_whole}

-- what these spreads add, if their fragments have these complexities
abbrev pub sum : List Reference → List Complexity → Complexity
sum [] bs = nothing
sum (r ∷ rs) [] = nothing
sum (r ∷ rs) (b ∷ bs) = plus (at_level r.fields_around b) (sum rs bs)

module _ {C : Type 0} (ds : List (Definition C)) where
  pub record Expanded (t : ℕ) (b : Complexity) : Type 0 where
    pub definition : Definition C
    pub stands : slice_get ds t ≡ Some definition
    pub expands : DefinitionHas ds definition b

  -- the complexity of each of these spreads
  data Had : List Reference → List Complexity → Type 0 where
    no_reference : Had [] []
    reference : {r : Reference} {rs : List Reference} {b : Complexity} {bs : List Complexity} (t : ℕ)
        → fragment_at ds r.name ≡ Some t → Expanded t b
        → Had rs bs → Had (r ∷ rs) (b ∷ bs)

  record Split (rs qs : List Reference) (bs : List Complexity) : Type 0 where
    pub one : List Complexity
    pub two : List Complexity
    pub first : Had rs one
    pub second : Had qs two
    pub sums : sum (rs ++ qs) bs ≡ plus (sum rs one) (sum qs two)

  split : (rs qs : List Reference) (bs : List Complexity) → Had (rs ++ qs) bs → Split rs qs bs
  split [] qs bs k = record {
    one = [];
    two = bs;
    first = no_reference;
    second = k;
    sums =
        sym (nothing_plus (sum qs bs));
  }
  split (r ∷ rs) qs [] k = elim k [ ]
  split (r ∷ rs) qs (b ∷ bs) (reference t e x k) =
      let w = split rs qs bs k in
      record {
        one = b ∷ w.one;
        two = w.two;
        first = reference t e x w.first;
        second = w.second;
        sums = ap (λ z. plus (at_level r.fields_around b) z) w.sums
            ∙ sym (plus_assoc (at_level r.fields_around b) (sum rs w.one) (sum qs w.two));
      }

  record Row (l : ℕ) (ss : Selections C) (o s : Complexity) : Type 0 where
    pub complexity : Complexity
    pub has_it : SelectionsHave ds ss complexity
    pub sums : Sums l o s complexity

  record One (l : ℕ) (s : Selection C) (o a : Complexity) : Type 0 where
    pub complexity : Complexity
    pub has_it : SelectionHas ds s complexity
    pub sums : Sums l o a complexity

  one_spread : (l : ℕ) (name : Word) (dirs : Directives C) (span : Span) (bs : List Complexity)
      → Had (record { name = name.item; fields_around = l; span = span } ∷ []) bs
      → One l (tree.FragmentSpread name dirs span) (directives_complexity dirs)
      (sum (record { name = name.item; fields_around = l; span = span } ∷ []) bs)
  one_spread l name dirs span [] k = elim k [ ]
  one_spread l name dirs span (b ∷ (a ∷ more)) (reference t e x k) = elim k [ ]
  one_spread l name dirs span (b ∷ []) (reference t e x k) = record {
    complexity = plus (directives_complexity dirs) b;
    has_it = spread name dirs span t x.definition e x.stands x.expands;
    sums = sums_spread l (directive_count dirs) b;
  }

  mutual
    unfolding own_of spreads_of

    row : (l : ℕ) (ss : Selections C) (bs : List Complexity) → Had (spreads_of_all l ss) bs
        → Row l ss (own_of_all l ss) (sum (spreads_of_all l ss) bs)
    row l no_selections bs k = record { complexity = nothing; has_it = none_have; sums = sums_none l }
    row l (selection s ss) bs k =
        let w = split (spreads_of l s) (spreads_of_all l ss) bs k in
        let a = one l s w.one w.first in
        let b = row l ss w.two w.second in
        record {
          complexity = plus a.complexity b.complexity;
          has_it = first_has s ss a.has_it b.has_it;
          sums = subst (λ (z : Complexity). Sums l (plus (own_of l s) (own_of_all l ss)) z
              (plus a.complexity b.complexity)) (sym w.sums)
              (sums_row l (own_of l s) (sum (spreads_of l s) w.one) a.complexity (own_of_all l ss)
              (sum (spreads_of_all l ss) w.two) b.complexity a.sums b.sums);
        }

    one : (l : ℕ) (s : Selection C) (bs : List Complexity) → Had (spreads_of l s) bs
        → One l s (own_of l s) (sum (spreads_of l s) bs)
    one l (tree.Field alias name arguments dirs absent span) bs k = record {
      complexity = plus (field_complexity alias) (directives_complexity dirs);
      has_it = leaf alias name arguments dirs span;
      sums = sums_leaf l alias (directive_count dirs);
    }
    one l (tree.Field alias name arguments dirs (present ss) span) bs k =
        let a = row (suc l) ss bs k in
        record {
          complexity = plus (plus (field_complexity alias) (directives_complexity dirs)) (in_a_field a.complexity);
          has_it = field alias name arguments dirs ss span a.has_it;
          sums = sums_field l alias (directive_count dirs) (own_of_all (suc l) ss)
              (sum (spreads_of_all (suc l) ss) bs) a.complexity a.sums;
        }
    one l (tree.FragmentSpread name dirs span) bs k = one_spread l name dirs span bs k
    one l (tree.InlineFragment condition dirs ss span) bs k =
        let a = row l ss bs k in
        record {
          complexity = plus (directives_complexity dirs) a.complexity;
          has_it = inline condition dirs ss span a.has_it;
          sums = sums_inline l (directive_count dirs) (own_of_all l ss) (sum (spreads_of_all l ss) bs) a.complexity
              a.sums;
        }

  whole : (d : Definition C) (c : Complexity) (bs : List Complexity) → Had (spreads_of_definition d) bs
      → c ≡ plus (own_of_definition d) (sum (spreads_of_definition d) bs) → DefinitionHas ds d c
  whole (tree.Operation type name variables dirs ss span) c bs k e =
      let a = row 0 ss bs k in
      let total = e
      ∙ sums_whole (variable_directive_count variables + directive_count dirs) (own_of_all 0 ss)
      (sum (spreads_of_all 0 ss) bs) a.complexity a.sums in
      subst (λ (z : Complexity). DefinitionHas ds (tree.Operation type name variables dirs ss span) z) (sym total)
      (operation type name variables dirs ss span a.has_it)
  whole (tree.Fragment name condition dirs ss span) c bs k e =
      let a = row 0 ss bs k in
      let total = e ∙ sums_whole (directive_count dirs) (own_of_all 0 ss) (sum (spreads_of_all 0 ss) bs)
      a.complexity a.sums in
      subst (λ (z : Complexity). DefinitionHas ds (tree.Fragment name condition dirs ss span) z) (sym total)
      (fragment name condition dirs ss span a.has_it)

  record Added (a : Complexity) (rs : List Reference) (c : Complexity) : Type 0 where
    pub parts : List Complexity
    pub had : Had rs parts
    pub total : c ≡ plus a (sum rs parts)

  mutual
    pub expanded : {i : ℕ} {c : Complexity} → HasBySpreads ds i c → Expanded i c
    expanded {i} {c} (has_by_spreads d e k) =
        let w = added k in
        record { definition = d; stands = e; expands = whole d c w.parts w.had w.total }

    added : {a c : Complexity} {rs : List Reference} → SpreadsAdd ds a rs c → Added a rs c
    added {a} none_adds = record { parts = []; had = no_reference; total = sym (plus_nothing a) }
    added {a} (first_adds {r = r} {rs = rs} t b e k more) =
        let w = added more in
        record {
          parts = b ∷ w.parts;
          had = reference t e (expanded k) w.had;
          total = w.total ∙ plus_assoc a (at_level r.fields_around b) (sum rs w.parts);
        }

  pub expands : (i : ℕ) (c : Complexity) (d : Definition C) → HasBySpreads ds i c → slice_get ds i ≡ Some d
      → DefinitionHas ds d c
  expands i c d k e =
      let w = expanded k in
      let f = w.stands in
      let same : w.definition ≡ d = cc in
      subst (λ (z : Definition C). DefinitionHas ds z c) same w.expands
