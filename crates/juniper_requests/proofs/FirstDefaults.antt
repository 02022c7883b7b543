-- Values with defaults, definition by definition.
use Rattle.std.proofs.Common.{◌≡◌, Bool, true, false, not, ◌||◌, List, [], ◌∷◌, ◌++◌, map, Option, Some, None}
use Rattle.std.proofs.Common.{option_map, if◌then◌else◌, refl, ap, sym, ◌∙◌, true≢false}
use Rattle.std.specs.List.{find, list_any}
use Rattle.std.specs.Option.{is_some, option_or}
use Rattle.std.proofs.lemmas.Cmp.{nat_list_eq_equiv}
use Rattle.std.proofs.lemmas.List.Folds.{find-append}
use Rattle.graphql_grammar.specs.Tokens.{Text}
use Rattle.graphql_grammar.specs.Tree.{Value, VariableDefinition}
use Rattle.juniper_values.specs.Resolve.{Values}
use Rattle.juniper_values.specs.Text.{same_text}
use Rattle.juniper_tokens.specs.declared.span.Spanning.{Spanning}
use Rattle.juniper_values.specs.View.{view}
use Rattle.juniper_values.specs.declared.input_value.InputValue.{InputValue}
use Rattle.juniper_tree.specs.View.{view_value}
use Rattle.juniper_requests.specs.Defaults.{defines, default_in, given_or, WithDefaults}
use Rattle.juniper_requests.proofs.Variables.{equal_texts}

pub seen_before : (b : Bool) → false ≡ not b → b ≡ true
seen_before true e = refl
seen_before false e = absurd (true≢false (sym e))

pub not_seen_before : (b : Bool) → true ≡ not b → b ≡ false
not_seen_before true e = absurd (true≢false e)
not_seen_before false e = refl

module _ {C : Type 0} where
  abbrev pub names : List (VariableDefinition C) → List Text
  names = map (λ d. d.name.item)

  -- a name is among those of definitions where one of them defines it
  among_names : (t : Text) (ds : List (VariableDefinition C))
      → list_any (same_text t) (names ds) ≡ is_some (find (defines t) ds)
  among_names t [] = refl
  among_names t (d ∷ ds) =
      ap (λ b. b || list_any (same_text t) (names ds)) (nat_list_eq_equiv.symm t d.name.item)
      ∙ by_test (defines t d) (among_names t ds)
    where
      by_test : (b : Bool) → list_any (same_text t) (names ds) ≡ is_some (find (defines t) ds)
          → (b || list_any (same_text t) (names ds)) ≡ is_some (if b then Some d else find (defines t) ds)
      by_test true e = refl
      by_test false e = e

  -- whether a text that the definition defines was defined before
  was_defined : (ds : List (VariableDefinition C)) (d : VariableDefinition C) (t : Text) (b : Bool)
      → list_any (same_text d.name.item) (names ds) ≡ b → defines t d ≡ true → is_some (find (defines t) ds) ≡ b
  was_defined ds d t b e h =
      sym (among_names t ds) ∙ ap (λ s. list_any (same_text s) (names ds)) (sym (equal_texts d.name.item t h)) ∙ e

  earlier_wins : (o : Option (VariableDefinition C)) (b : Bool) (d : VariableDefinition C)
      → (b ≡ true → is_some o ≡ true) → o ≡ option_or o (if b then Some d else None)
  earlier_wins (Some e) b d h = refl
  earlier_wins None true d h = absurd (true≢false (sym (h refl)))
  earlier_wins None false d h = refl

  first_of : (g : Option (Value C)) (o : Option (VariableDefinition C)) (b : Bool) (d : VariableDefinition C)
      → (b ≡ true → is_some o ≡ false)
      → (if b then given_or (given_or g (default_in o)) (default_in (Some d)) else given_or g (default_in o))
      ≡ given_or g (default_in (option_or o (if b then Some d else None)))
  first_of g (Some e) true d h = absurd (true≢false (h refl))
  first_of (Some v) None true d h = refl
  first_of None None true d h = refl
  first_of g (Some e) false d h = refl
  first_of g None false d h = refl

  module _ (ds : List (VariableDefinition C)) (d : VariableDefinition C) (given now : Values C)
      (so_far : WithDefaults ds given now) where
    -- a definition of a name that was defined before
    pub defined_again : list_any (same_text d.name.item) (names ds) ≡ true → WithDefaults (ds ++ d ∷ []) given now
    defined_again e t =
        so_far t
        ∙ ap (λ o. given_or (given t) (default_in o))
        (earlier_wins (find (defines t) ds) (defines t d) d (was_defined ds d t true e)
        ∙ sym (find-append (defines t) ds (d ∷ [])))

    -- the first definition of a name
    pub defined_first : (new : Values C) → list_any (same_text d.name.item) (names ds) ≡ false
        → ((t : Text) → new t ≡ (if same_text d.name.item t then given_or (now t) (default_in (Some d)) else now t))
        → WithDefaults (ds ++ d ∷ []) given new
    defined_first new e added t =
        added t
        ∙ ap (λ v. if same_text d.name.item t then given_or v (default_in (Some d)) else v) (so_far t)
        ∙ first_of (given t) (find (defines t) ds) (defines t d) d (was_defined ds d t false e)
        ∙ ap (λ o. given_or (given t) (default_in o)) (sym (find-append (defines t) ds (d ∷ [])))

-- where nothing is defined, what is given is all
pub given_alone : {C : Type 0} (given : Values C) → WithDefaults [] given given
given_alone {C = C} given t = by_cases (given t)
  where
    by_cases : (g : Option (Value C)) → g ≡ given_or g None
    by_cases (Some v) = refl
    by_cases None = refl

-- the default of a definition of the code, as the grammar sees it
pub default_seen : {S C : Type 0} (content : S → C) (default : Option (Spanning (InputValue S)))
    → option_map (λ v. view content v.item) default ≡ option_map (λ v. v.item) (option_map (view_value content) default)
default_seen content (Some v) = refl
default_seen content None = refl
