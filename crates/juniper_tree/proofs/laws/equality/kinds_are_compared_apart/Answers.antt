use Rattle.std.proofs.Common.{◌≡◌, ◌∙◌, ◌&&◌, true, false, Bool, List, refl, ap, ap₂, inl, inr}
use denote.Enum.Compared.{by, Each}
use denote.Enum.Declared.{Choice}
use denote.Hole.Compared.{Rel, compared}
use denote.Struct.Field.{Field as Part}
use denote.Signature.{static_lft}
use Rattle.juniper_tokens.specs.contracts.span.SpanPartialEq.TheImpl as spans
use Rattle.juniper_tree.specs.declared.ast.Selection.TheBlock.{the_members, the_family, the_depth, member-Selection, member-Field, member-InlineFragment}
use Rattle.juniper_tree.specs.contracts.ast.Selection.{the_parts, the_make, the_beta}
use Rattle.juniper_tree.specs.contracts.ast.FieldPartialEq.TheImpl as field
use Rattle.juniper_tree.specs.contracts.ast.FragmentSpreadPartialEq.TheImpl as spread
use Rattle.juniper_tree.specs.contracts.ast.InlineFragmentPartialEq.TheImpl as inline
use Rattle.juniper_tree.specs.contracts.ast.SelectionPartialEq.TheImpl as selection
use Rattle.juniper_tree.specs.contracts.ast.SelectionPartialEq.TheImpl.Laws.{is}
use Rattle.juniper_tree.proofs.laws.equality.kinds_are_compared_apart.Given.{Over}
use Rattle.juniper_tree.proofs.laws.equality.kinds_are_compared_apart.Goals as goal

module _ (g : Over) where
  abbrev parts : List (List Part)
  parts = the_parts static_lft g.row.S

  abbrev comparison : Type 0
  comparison = Rel (the_members g.row.S.Denot) (the_family g.row.S.Denot) (the_depth g.row.S.Denot) Bool

  abbrev step : comparison → comparison
  step = selection.the_step g.row.S g.S.PartialEq g.S.PartialEq-dict g.S.Destruct-dict

  -- what selections of each kind are compared by
  abbrev each : Each Bool parts
  each = (
    λ x y. compared _ _ (the_depth g.row.S.Denot) _ true step member-Field x.0.item y.0.item
        && (spans.ghosts).eq x.0.span y.0.span,
    (
      λ x y. (spread.ghosts g.row.S g.S.PartialEq g.S.PartialEq-dict g.S.Destruct-dict).eq x.0.item y.0.item
          && (spans.ghosts).eq x.0.span y.0.span,
      (
        λ x y. compared _ _ (the_depth g.row.S.Denot) _ true step member-InlineFragment x.0.item y.0.item
            && (spans.ghosts).eq x.0.span y.0.span,
        tt,
      ),
    ),
  )

  by_kind : (c d : Choice parts) → (selection.ghosts g.row.S g.S.PartialEq g.S.PartialEq-dict g.S.Destruct-dict).eq
      (the_make static_lft g.row.S c) (the_make static_lft g.row.S d) ≡ by false false parts each c d
  by_kind c d =
      is g.row.S g.S.PartialEq g.S.PartialEq-dict g.S.Destruct-dict (record { laws = g.met.S.PartialEq.laws }) _ _
      ∙ ap₂ (λ x y. by false false parts each x y) (the_beta static_lft g.row.S c) (the_beta static_lft g.row.S d)

  -- Their comparisons go by the same steps.
  to_field : step ≡ field.the_step g.row.S g.S.PartialEq g.S.PartialEq-dict g.S.Destruct-dict
  to_field = λ i r j. same r j i
    where
      same : (r : _) (j : _) → step r j ≡ field.the_step g.row.S g.S.PartialEq g.S.PartialEq-dict g.S.Destruct-dict r j
      same r member-Selection = refl
      same r member-Field = refl
      same r member-InlineFragment = refl

  to_inline : step ≡ inline.the_step g.row.S g.S.PartialEq g.S.PartialEq-dict g.S.Destruct-dict
  to_inline = λ i r j. same r j i
    where
      same : (r : _) (j : _) → step r j ≡ inline.the_step g.row.S g.S.PartialEq g.S.PartialEq-dict g.S.Destruct-dict r j
      same r member-Selection = refl
      same r member-Field = refl
      same r member-InlineFragment = refl

pub returns-clause-fields : goal.returns-clause-fields
returns-clause-fields g c a b =
    by_kind g (inl (a, tt)) (inl (b, tt))
    ∙ ap (λ step. compared _ _ (the_depth g.row.S.Denot) _ true step member-Field a.item b.item
    && (spans.ghosts).eq a.span b.span) (to_field g)

pub returns-clause-spreads : goal.returns-clause-spreads
returns-clause-spreads g c a b = by_kind g (inr (inl (a, tt))) (inr (inl (b, tt)))

pub returns-clause-inlines : goal.returns-clause-inlines
returns-clause-inlines g c a b =
    by_kind g (inr (inr (inl (a, tt)))) (inr (inr (inl (b, tt))))
    ∙ ap (λ step. compared _ _ (the_depth g.row.S.Denot) _ true step member-InlineFragment a.item b.item
    && (spans.ghosts).eq a.span b.span) (to_inline g)

pub returns-clause-field_and_spread : goal.returns-clause-field_and_spread
returns-clause-field_and_spread g c a b = by_kind g (inl (a, tt)) (inr (inl (b, tt)))

pub returns-clause-field_and_inline : goal.returns-clause-field_and_inline
returns-clause-field_and_inline g c a b = by_kind g (inl (a, tt)) (inr (inr (inl (b, tt))))

pub returns-clause-spread_and_inline : goal.returns-clause-spread_and_inline
returns-clause-spread_and_inline g c a b = by_kind g (inr (inl (a, tt))) (inr (inr (inl (b, tt))))
