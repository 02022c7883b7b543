-- The names of fields, selection by selection.
use Rattle.std.proofs.Common.{◌≡◌, ℕ, List, [], ◌∷◌, ◌++◌, map, Some, None, Vec, Global, refl, sym, ap, ◌∙◌, append_assoc, append-nil}
use Rattle.std.specs.Borrow.{Bor}
use Rattle.std.specs.Str.{chars}
use Rattle.std.proofs.lemmas.List.{map-append}
use Rattle.graphql_grammar.specs.Tokens.{Text}
use Rattle.juniper_tokens.specs.declared.span.Spanning.{Spanning}
use Rattle.juniper_tree.specs.declared.ast.Field.{Field}
use Rattle.juniper_tree.specs.declared.ast.InlineFragment.{InlineFragment}
use Rattle.juniper_tree.specs.declared.ast.Selection.{Selection}
use Rattle.juniper_tree.specs.declared.ast.Selection.TheVariants as V
use Rattle.juniper_tree.specs.declared.ast.Definition.{Definition}
use Rattle.juniper_tree.specs.View.{view_word, view_selection, view_selections, view_field, view_definition}
use Rattle.juniper_tree.specs.Cases.{SeesSelections}
use Rattle.guide.specs.Fields.{texts, fields_of, fields_within, fields_among, fields_in, field_names}

-- names that grow by some and then by others
pub grown : (old mid new xs ys : List Text) → mid ≡ old ++ xs → new ≡ mid ++ ys → new ≡ old ++ (xs ++ ys)
grown old mid new xs ys p q = q ∙ rw (p, append_assoc) refl

-- a name that is pushed is noted after the others
pub noted : (old new : List (Bor (List ℕ))) (name : Bor (List ℕ)) → new ≡ old ++ name ∷ []
    → texts new ≡ texts old ++ chars name.now ∷ []
noted old new name e = rw (e, map-append) refl

module _ {S C : Type 0} (content : S → C) where
  -- a field alone
  pub field_alone : (f : Spanning (Field S)) → f.item.selection_set ≡ None
      → fields_of (view_field content f) ≡ (view_word f.item.name).item ∷ []
  unfolding fields_of fields_within fields_among
  field_alone f e = rw e refl

  -- a field above others
  pub field_above : (f : Spanning (Field S)) (v : Vec (Selection S) Global) → f.item.selection_set ≡ Some v
      → fields_of (view_field content f) ≡ (view_word f.item.name).item ∷ fields_among (view_selections content v.items)
  unfolding fields_of fields_within fields_among
  field_above f v e = rw e refl

  -- the fields within an inline fragment
  pub inline_above : SeesSelections content → (f : Spanning (InlineFragment S))
      → fields_of (view_selection content (V.InlineFragment f))
      ≡ fields_among (view_selections content f.item.selection_set.items)
  unfolding fields_of fields_within fields_among
  inline_above sees f = ap fields_of (sees.inline_fragment f)

  -- one selection's names go over from what is left to what is noted
  pub next_selection : (old new : List Text) (x : Selection S) (xs left : List (Selection S)) → left ≡ x ∷ xs
      → new ≡ old ++ fields_of (view_selection content x)
      → old ++ fields_among (view_selections content left) ≡ new ++ fields_among (view_selections content xs)
  unfolding fields_of fields_within fields_among
  next_selection old new x xs left e h = rw (e, h) (sym (append_assoc old _ _))

  pub no_selection : (old : List Text) (left : List (Selection S)) → left ≡ []
      → old ++ fields_among (view_selections content left) ≡ old
  unfolding fields_of fields_within fields_among
  no_selection old left e = rw e (append-nil old)

  -- the same of definitions
  pub next_definition : (old new : List Text) (x : Definition S) (xs left : List (Definition S)) → left ≡ x ∷ xs
      → new ≡ old ++ fields_in (view_definition content x)
      → old ++ field_names (map (view_definition content) left) ≡ new ++ field_names (map (view_definition content) xs)
  unfolding field_names
  next_definition old new x xs left e h = rw (e, h) (sym (append_assoc old _ _))

  pub no_definition : (old : List Text) (left : List (Definition S)) → left ≡ []
      → old ++ field_names (map (view_definition content) left) ≡ old
  unfolding field_names
  no_definition old left e = rw e (append-nil old)
