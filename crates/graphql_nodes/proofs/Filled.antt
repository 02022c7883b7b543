-- In a document's tree no list of directives and no selection set that may be absent is empty.
use Rattle.std.proofs.Common.{◌∷◌, [], List, Option, Some, None, inl, inr, refl, subst, sym}
use Rattle.std.specs.List.{AllByRecursion}
use Rattle.graphql_lexical.specs.declared.kind.Kind.{Kind}
use Rattle.graphql_lexical.specs.Cutting.{Lexeme}
use Rattle.graphql_grammar.specs.Tree as tree
use Rattle.graphql_grammar.specs.Tree.{Scalars, Directives, VariableDefinition, Variables, Selection, Selections, no_selections, selection, OptionalSelections, absent, present, Definition}
use Rattle.graphql_grammar.specs.Grammar.{Each, Optional, Several, Listed, IsDirectives, IsVariableDefinition, IsVariables, IsSelection, IsOptionalSelectionSet, IsSelectionSet, AreSelections, IsDefinition, IsDocument}

abbrev pub IfPresent : {A : Type 0} → (A → Type 0) → Option A → Type 0
IfPresent P None = Unit {0}
IfPresent P (Some x) = P x

module _ {C : Type 0} where
  abbrev pub FilledDirectives : Directives C → Type 0
  FilledDirectives None = Unit {0}
  FilledDirectives (Some []) = ⊥
  FilledDirectives (Some (d ∷ ds)) = Unit {0}

  abbrev pub FilledVariable : VariableDefinition C → Type 0
  FilledVariable v = FilledDirectives v.directives

  abbrev pub FilledVariables : Variables C → Type 0
  FilledVariables v = AllByRecursion FilledVariable v.item

  abbrev mutual
    pub FilledSelection : Selection C → Type 0
    FilledSelection (tree.Field alias name arguments directives ss p) = FilledDirectives directives × FilledOptional ss
    FilledSelection (tree.FragmentSpread name directives p) = FilledDirectives directives
    FilledSelection (tree.InlineFragment condition directives ss p) = FilledDirectives directives × FilledSelections ss

    pub FilledOptional : OptionalSelections C → Type 0
    FilledOptional absent = Unit {0}
    FilledOptional (present no_selections) = ⊥
    FilledOptional (present (selection s ss)) = FilledSelection s × FilledSelections ss

    pub FilledSelections : Selections C → Type 0
    FilledSelections no_selections = Unit {0}
    FilledSelections (selection s ss) = FilledSelection s × FilledSelections ss

  abbrev pub FilledDefinition : Definition C → Type 0
  FilledDefinition (tree.Operation type name variables directives ss p) =
      IfPresent FilledVariables variables × FilledDirectives directives × FilledSelections ss
  FilledDefinition (tree.Fragment name condition directives ss p) =
      FilledDirectives directives × FilledSelections ss

-- ---- parts in a row

each_filled : {A : Type 0} (R : A → List Lexeme → Type 0) (P : A → Type 0)
    → ((ts : List Lexeme) (x : A) → R x ts → P x)
    → (ts : List Lexeme) (xs : List A) → Each R xs ts → AllByRecursion P xs
each_filled R P f ts [] h = tt
each_filled R P f ts (x ∷ xs) h = (f h.front x h.first, each_filled R P f h.back xs h.second)

several_filled : {A : Type 0} (R : A → List Lexeme → Type 0) (P : A → Type 0)
    → ((ts : List Lexeme) (x : A) → R x ts → P x)
    → (ts : List Lexeme) (xs : List A) → Several R xs ts → AllByRecursion P xs
several_filled R P f ts xs h = each_filled R P f ts xs h.0

listed_filled : {A : Type 0} (opening closing : Kind) (R : A → List Lexeme → Type 0) (P : A → Type 0)
    → ((ts : List Lexeme) (x : A) → R x ts → P x)
    → (ts : List Lexeme) (xs : List A) → Listed opening closing R xs ts → AllByRecursion P xs
listed_filled opening closing R P f ts xs h = several_filled R P f h.second.front xs h.second.first

optional_filled : {A : Type 0} (R : A → List Lexeme → Type 0) (P : A → Type 0)
    → ((ts : List Lexeme) (x : A) → R x ts → P x)
    → (ts : List Lexeme) (a : Option A) → Optional R a ts → IfPresent P a
optional_filled R P f ts None h = tt
optional_filled R P f ts (Some x) h = f ts x h

module _ {C F : Type 0} (S : Scalars C F) where
  directives_filled : (ts : List Lexeme) (ds : Directives C) → IsDirectives S ds ts → FilledDirectives ds
  directives_filled ts None h = tt
  directives_filled ts (Some []) h = absurd (h.1 refl)
  directives_filled ts (Some (d ∷ ds)) h = tt

  variable_filled : (ts : List Lexeme) (v : VariableDefinition C) → IsVariableDefinition S v ts → FilledVariable v
  variable_filled ts v h = let rest = h.second.second.second in directives_filled rest.back v.directives rest.second

  variables_filled : (ts : List Lexeme) (v : Variables C) → IsVariables S v ts → FilledVariables v
  variables_filled ts v h = listed_filled _ _ (IsVariableDefinition S) FilledVariable variable_filled ts v.item h.0

  mutual
    selection_filled : (ts : List Lexeme) (s : Selection C) → IsSelection S s ts → FilledSelection s
    selection_filled ts (tree.Field alias name arguments directives ss p) h =
        let body = h.0.second.second.second in
        (directives_filled body.front directives body.first, optional_set_filled body.back ss body.second)
    selection_filled ts (tree.FragmentSpread name directives p) h =
        directives_filled h.0.second.back directives h.0.second.second
    selection_filled ts (tree.InlineFragment condition directives ss p) h =
        let body = h.0.second.second in
        (directives_filled body.front directives body.first, set_filled body.back ss body.second)

    optional_set_filled : (ts : List Lexeme) (ss : OptionalSelections C) → IsOptionalSelectionSet S ss ts
        → FilledOptional ss
    optional_set_filled ts absent h = tt
    optional_set_filled ts (present no_selections) h = h
    optional_set_filled ts (present (selection s ss)) h = set_filled ts (selection s ss) h

    set_filled : (ts : List Lexeme) (ss : Selections C) → IsSelectionSet S ss ts → FilledSelections ss
    set_filled ts no_selections h = absurd h
    set_filled ts (selection s ss) h =
        let inner = h.second in let others = inner.second in
        (selection_filled inner.front s inner.first, selections_filled others.front ss others.first)

    selections_filled : (ts : List Lexeme) (ss : Selections C) → AreSelections S ss ts → FilledSelections ss
    selections_filled ts no_selections h = tt
    selections_filled ts (selection s ss) h =
        (selection_filled h.front s h.first, selections_filled h.back ss h.second)

  definition_filled : (ts : List Lexeme) (d : Definition C) → IsDefinition S d ts → FilledDefinition d
  definition_filled ts (tree.Operation type name variables directives ss p) (inl (h, t, n, v, d), q) =
      (subst (IfPresent FilledVariables) (sym v) tt, subst FilledDirectives (sym d) tt, set_filled ts ss h)
  definition_filled ts (tree.Operation type name variables directives ss p) (inr h, q) =
      let rest = h.second.second in let body = rest.second in (
        optional_filled (IsVariables S) FilledVariables variables_filled rest.front variables rest.first,
        directives_filled body.front directives body.first,
        set_filled body.back ss body.second,
      )
  definition_filled ts (tree.Fragment name condition directives ss p) h =
      let body = h.0.second.second.second in
      (directives_filled body.front directives body.first, set_filled body.back ss body.second)

  pub document_filled : (ts : List Lexeme) (ds : List (Definition C)) → IsDocument S ds ts
      → AllByRecursion FilledDefinition ds
  document_filled ts ds h =
      several_filled (IsDefinition S) FilledDefinition definition_filled h.front ds h.first
