-- What selections in a row count and spread.
use Rattle.std.proofs.Common.{◌≡◌, ◌<◌, ◌+◌, ℕ, List, [], ◌∷◌, ◌++◌, length, take, get_or, ap, sym, ◌∙◌}
use Rattle.std.proofs.Common.{append_assoc, append-nil, Option, Some, None}
use Rattle.juniper_tree.specs.declared.ast.Selection.{Selection}
use Rattle.std.specs.Global.{Vec}
use Rattle.juniper_tree.specs.View.{view_selection, view_selections, view_set}
use Rattle.juniper_values.specs.Scalar.{Content}
use Rattle.juniper_outlines.specs.Complexities.{plus}
use Rattle.juniper_complexity.specs.Gathered.{Gathers, GathersSelection}
use Rattle.juniper_complexity.specs.Parts.{spreads_of, spreads_of_optional, spreads_of_all}
use Rattle.juniper_complexity.specs.device.BySpreads.{own_of, own_of_optional, own_of_all}
use Rattle.juniper_complexity.specs.declared.outline_builder.OutlineBuilder.{OutlineBuilder}
use Rattle.juniper_complexity.proofs.Algebra.{plus_assoc, plus_nothing, nothing_plus}
use Rattle.juniper_outlines.proofs.Public.{take_next}
use Rattle.juniper_complexity.proofs.OutlineBuilders.{gathers_none, gathers_both, gathers_same}

module _ {S : Type 0} (content : S → Content) where
  -- the selections of a field, if it has some
  pub none_inside : (set : Option (Vec (Selection S))) (it : OutlineBuilder) → set ≡ None
      → Gathers it it (λ l. own_of_optional l (view_set content set))
      (λ l. spreads_of_optional l (view_set content set))
  unfolding own_of_optional spreads_of_optional
  none_inside set it e = rw e (gathers_none it)

  pub some_inside : (set : Option (Vec (Selection S))) (v : Vec (Selection S)) (old new : OutlineBuilder)
      → set ≡ Some v
      → Gathers old new (λ l. own_of_all l (view_selections content v.items))
      (λ l. spreads_of_all l (view_selections content v.items))
      → Gathers old new (λ l. own_of_optional l (view_set content set))
      (λ l. spreads_of_optional l (view_set content set))
  unfolding own_of_optional spreads_of_optional
  some_inside set v old new e g = rw e g

  own_more : (l : ℕ) (xs : List (Selection S)) (x : Selection S) → own_of_all l (view_selections content (xs ++ x ∷ []))
      ≡ plus (own_of_all l (view_selections content xs)) (own_of l (view_selection content x))
  unfolding own_of own_of_all own_of_optional
  own_more l [] x = plus_nothing (own_of l (view_selection content x))
      ∙ sym (nothing_plus (own_of l (view_selection content x)))
  own_more l (y ∷ ys) x =
      ap (λ c. plus (own_of l (view_selection content y)) c) (own_more l ys x)
      ∙ sym (plus_assoc (own_of l (view_selection content y)) (own_of_all l (view_selections content ys))
      (own_of l (view_selection content x)))

  spreads_more : (l : ℕ) (xs : List (Selection S)) (x : Selection S)
      → spreads_of_all l (view_selections content (xs ++ x ∷ []))
      ≡ spreads_of_all l (view_selections content xs) ++ spreads_of l (view_selection content x)
  unfolding spreads_of spreads_of_all spreads_of_optional
  spreads_more l [] x = append-nil (spreads_of l (view_selection content x))
  spreads_more l (y ∷ ys) x =
      ap (λ c. spreads_of l (view_selection content y) ++ c) (spreads_more l ys x)
      ∙ sym (append_assoc (spreads_of l (view_selection content y)) (spreads_of_all l (view_selections content ys))
      (spreads_of l (view_selection content x)))

  -- the builder has gathered the first i selections
  abbrev pub GathersFirst : OutlineBuilder → OutlineBuilder → List (Selection S) → ℕ → Type 0
  GathersFirst old now xs i =
      Gathers old now (λ l. own_of_all l (view_selections content (take i xs)))
      (λ l. spreads_of_all l (view_selections content (take i xs)))

  pub none_yet : (it : OutlineBuilder) (xs : List (Selection S)) → GathersFirst it it xs 0
  unfolding own_of_all spreads_of_all
  none_yet it xs = gathers_none it

  pub one_more : (old now new : OutlineBuilder) (xs : List (Selection S)) (i : ℕ) (x : Selection S)
      → i < length xs → x ≡ get_or xs i x → GathersFirst old now xs i
      → GathersSelection now new tt (view_selection content x) → GathersFirst old new xs (i + 1)
  one_more old now new xs i x lt r first gathers =
      let longer = take_next xs i x lt r in
      gathers_same old new
      (λ l. plus (own_of_all l (view_selections content (take i xs))) (own_of l (view_selection content x)))
      (λ l. own_of_all l (view_selections content (take (i + 1) xs)))
      (λ l. spreads_of_all l (view_selections content (take i xs)) ++ spreads_of l (view_selection content x))
      (λ l. spreads_of_all l (view_selections content (take (i + 1) xs)))
      (λ l. ap (λ ys. own_of_all l (view_selections content ys)) longer ∙ own_more l (take i xs) x)
      (λ l. ap (λ ys. spreads_of_all l (view_selections content ys)) longer ∙ spreads_more l (take i xs) x)
      (gathers_both old now new _ _ _ _ first gathers)
