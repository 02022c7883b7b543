-- The nodes of each part of a document tell it, whatever stands after them.
use Rattle.std.proofs.Common.{◌≡◌, ◌∷◌, [], List, ◌++◌, Option, Some, None, refl, sym, ap, ap₂, ◌∙◌, append_assoc}
use Rattle.std.specs.List.{AllByRecursion}
use Rattle.graphql_lexical.specs.Place.{Span}
use Rattle.graphql_lexical.specs.Cutting.{Lexeme}
use Rattle.graphql_grammar.specs.Tokens.{Located, Word}
use Rattle.graphql_grammar.specs.Tree as tree
use Rattle.graphql_grammar.specs.Tree.{Scalars, TypeRef, Value, Argument, Arguments, Directive, Directives, VariableDefinition, Variables, Selection, Selections, no_selections, selection, OptionalSelections, absent, present, Definition}
use Rattle.graphql_grammar.specs.declared.operation.OperationType.{OperationType}
use Rattle.graphql_grammar.specs.declared.operation.OperationType.TheVariants as operation
use Rattle.graphql_grammar.specs.Grammar.{IsDocument}
use Rattle.graphql_grammar.proofs.Public.{all_each}
use Rattle.graphql_nodes.specs.declared.kind.NodeKind.TheVariants as kind
use Rattle.graphql_nodes.specs.Nodes.{Node, Named, OnType, Typed, name_of, over, if_present, each, value_nodes, argument_nodes, arguments_nodes, directive_nodes, directives_nodes, variable_nodes, variables_nodes, alias_nodes, selection_nodes, optional_nodes, selections_nodes, definition_nodes, document_nodes, operation_kind}
use Rattle.graphql_nodes.proofs.Splits.{shares}
use Rattle.graphql_nodes.proofs.Heads.{no_first, Avoids, Apart, no_part, another_kind, first_kind, value_first, value_no_directive, kind_of_value, argument_first, arguments_first, directive_first, variable_first, variables_first, alias_first, selection_first, kind_of_selection, definition_first, if_present_avoids, directives_avoid, selections_avoid, optional_avoid}
use Rattle.graphql_nodes.proofs.Filled.{IfPresent, FilledDirectives, FilledVariable, FilledVariables, FilledSelection, FilledOptional, FilledSelections, FilledDefinition, document_filled}
use Rattle.graphql_nodes.proofs.DeterminedValues.{value_determined}
use Rattle.graphql_nodes.proofs.DeterminedParts.{present_determined, each_determined, all_determined}

-- ---- labels

named_determined : (a b : Word) → Named a ≡ Named b → a ≡ b
named_determined a b e = cc

name_determined : (a b : Option Word) → name_of a ≡ name_of b → a ≡ b
name_determined None None e = refl
name_determined None (Some b) e = absurd (cc)
name_determined (Some a) None e = absurd (cc)
name_determined (Some a) (Some b) e = cc

typed_determined : (a b : TypeRef) → Typed a ≡ Typed b → a ≡ b
typed_determined a b e = cc

on_type_determined : (a b c d : Word) → OnType a c ≡ OnType b d → (a ≡ b) × (c ≡ d)
on_type_determined a b c d e = (cc, cc)

operation_determined : (a b : OperationType) → operation_kind a ≡ operation_kind b → a ≡ b
operation_determined operation.Query operation.Query e = refl
operation_determined operation.Mutation operation.Mutation e = refl
operation_determined operation.Subscription operation.Subscription e = refl
operation_determined a b e = absurd (cc)

no_fragment : (a : OperationType) → operation_kind a ≡ kind.FragmentDefinition → ⊥
no_fragment operation.Query e = absurd (cc)
no_fragment operation.Mutation e = absurd (cc)
no_fragment operation.Subscription e = absurd (cc)

same_place : {A : Type 0} (a b : Located A) → a.item ≡ b.item → a.span ≡ b.span → a ≡ b
same_place a b x p = ap₂ (λ x p. record { item = x; span = p }) x p

-- what asks for nothing
abbrev Any : {A : Type 0} → A → Type 0
Any x = Unit {0}

all_any : {A : Type 0} (xs : List A) → AllByRecursion Any xs
all_any xs = all_each Any (λ x. tt) xs

any_present : {A : Type 0} (a : Option A) → IfPresent Any a
any_present None = tt
any_present (Some x) = tt

module _ {C : Type 0} where
  -- ---- parts with the same parts

  same_directive : (d f : Directive C) → d.name ≡ f.name → d.arguments ≡ f.arguments → d ≡ f
  same_directive d f n a = ap₂ (λ n a. record { name = n; arguments = a }) n a

  same_variable : (v w : VariableDefinition C) → v.name ≡ w.name → v.of_type ≡ w.of_type → v.default ≡ w.default
      → v.directives ≡ w.directives → v ≡ w
  same_variable v w n t d ds =
      ap₂ (λ n t. record { name = n; of_type = t; default = v.default; directives = v.directives }) n t
      ∙ ap₂ (λ d ds. record { name = w.name; of_type = w.of_type; default = d; directives = ds }) d ds

  same_field : (a b : Option Word) (n m : Word) (c d : Option (Arguments C)) (ds fs : Directives C)
      (ss us : OptionalSelections C) (p q : Span)
      → a ≡ b → n ≡ m → c ≡ d → ds ≡ fs → ss ≡ us → p ≡ q → tree.Field a n c ds ss p ≡ tree.Field b m d fs us q
  same_field a b n m c d ds fs ss us p q ab nm cd df su pq = cc

  same_spread : (n m : Word) (ds fs : Directives C) (p q : Span) → n ≡ m → ds ≡ fs → p ≡ q
      → tree.FragmentSpread n ds p ≡ tree.FragmentSpread m fs q
  same_spread n m ds fs p q nm df pq = cc

  same_inline : (a b : Option Word) (ds fs : Directives C) (ss us : Selections C) (p q : Span)
      → a ≡ b → ds ≡ fs → ss ≡ us → p ≡ q → tree.InlineFragment a ds ss p ≡ tree.InlineFragment b fs us q
  same_inline a b ds fs ss us p q ab df su pq = cc

  same_operation : (t u : OperationType) (n m : Option Word) (v w : Option (Variables C)) (ds fs : Directives C)
      (ss us : Selections C) (p q : Span)
      → t ≡ u → n ≡ m → v ≡ w → ds ≡ fs → ss ≡ us → p ≡ q → tree.Operation t n v ds ss p ≡ tree.Operation u m w fs us q
  same_operation t u n m v w ds fs ss us p q tu nm vw df su pq = cc

  same_fragment : (n m : Word) (a b : Word) (ds fs : Directives C) (ss us : Selections C) (p q : Span)
      → n ≡ m → a ≡ b → ds ≡ fs → ss ≡ us → p ≡ q → tree.Fragment n a ds ss p ≡ tree.Fragment m b fs us q
  same_fragment n m a b ds fs ss us p q nm ab df su pq = cc

  -- with nothing after
  nothing_after : (us vs : List (Node C)) → us ≡ vs → us ++ [] ≡ vs ++ []
  nothing_after us vs e = ap (λ l. l ++ []) e

  -- ---- arguments and directives

  argument_determined : (a b : Argument C) → Any a → Any b → (r s : List (Node C))
      → argument_nodes a ++ r ≡ argument_nodes b ++ s → (a ≡ b) × (r ≡ s)
  unfolding argument_nodes
  argument_determined a b h k r s e =
      let t = shares _ _ _ _ _ _ (value_nodes a.value) (value_nodes b.value) r s e in
      let value = (value_determined a.value b.value [] [] (nothing_after _ _ t.inner)).0 in
      (ap₂ (λ n v. record { name = n; value = v }) (named_determined a.name b.name t.label) value, t.rest)

  arguments_determined : (a b : Arguments C) → Any a → Any b → (r s : List (Node C))
      → arguments_nodes a ++ r ≡ arguments_nodes b ++ s → (a ≡ b) × (r ≡ s)
  unfolding arguments_nodes
  arguments_determined a b h k r s e =
      let t = shares _ _ _ _ _ _ (each argument_nodes a.item) (each argument_nodes b.item) r s e in
      let items = all_determined argument_nodes Any argument_determined a.item b.item (all_any a.item) (all_any b.item)
      (no_part argument_nodes _ argument_first) t.inner in
      (same_place a b items t.span, t.rest)

  -- of a part that may have some
  if_arguments_determined : (a b : Option (Arguments C)) (r s : List (Node C)) → Avoids kind.Arguments r
      → Avoids kind.Arguments s
      → if_present arguments_nodes a ++ r ≡ if_present arguments_nodes b ++ s → (a ≡ b) × (r ≡ s)
  if_arguments_determined a b r s h k e =
      present_determined arguments_nodes Any arguments_determined a b (any_present a) (any_present b) r s
      (another_kind arguments_nodes _ arguments_first r h) (another_kind arguments_nodes _ arguments_first s k) e

  directive_determined : (d f : Located (Directive C)) → Any d → Any f → (r s : List (Node C))
      → directive_nodes d ++ r ≡ directive_nodes f ++ s → (d ≡ f) × (r ≡ s)
  unfolding directive_nodes
  directive_determined d f h k r s e =
      let t = shares _ _ _ _ _ _ (if_present arguments_nodes d.item.arguments)
      (if_present arguments_nodes f.item.arguments) r s
      e in
      let arguments = (if_arguments_determined d.item.arguments f.item.arguments [] [] (no_first kind.Arguments)
      (no_first kind.Arguments) (nothing_after _ _ t.inner)).0 in (
        same_place d f (same_directive d.item f.item (named_determined d.item.name f.item.name t.label) arguments)
            t.span,
        t.rest,
      )

  directives_determined : (ds fs : Directives C) → FilledDirectives ds → FilledDirectives fs → (r s : List (Node C))
      → Avoids kind.Directive r → Avoids kind.Directive s
      → directives_nodes ds ++ r ≡ directives_nodes fs ++ s → (ds ≡ fs) × (r ≡ s)
  unfolding directives_nodes each
  directives_determined ds fs h k r s none none' e = cases ds fs h k e
    where
      rows : (ds fs : List (Located (Directive C))) → each directive_nodes ds ++ r ≡ each directive_nodes fs ++ s
          → (ds ≡ fs) × (r ≡ s)
      rows ds fs e = each_determined directive_nodes Any directive_determined ds fs (all_any ds) (all_any fs) r s
          (another_kind directive_nodes _ directive_first r none)
          (another_kind directive_nodes _ directive_first s none') e

      none_of : (d : Located (Directive C)) (ds : List (Located (Directive C))) → [] ≡ d ∷ ds → ⊥
      none_of d ds e = cc

      cases : (ds fs : Directives C) → FilledDirectives ds → FilledDirectives fs
          → directives_nodes ds ++ r ≡ directives_nodes fs ++ s → (ds ≡ fs) × (r ≡ s)
      cases None None h k e = (refl, e)
      cases (Some []) fs h k e = absurd h
      cases None (Some []) h k e = absurd k
      cases None (Some (f ∷ fs)) h k e = absurd (none_of f fs (rows [] (f ∷ fs) e).0)
      cases (Some (d ∷ ds)) (Some []) h k e = absurd k
      cases (Some (d ∷ ds)) None h k e = absurd (none_of d ds (sym (rows (d ∷ ds) [] e).0))
      cases (Some (d ∷ ds)) (Some (f ∷ fs)) h k e = let t = rows (d ∷ ds) (f ∷ fs) e in (ap Some t.0, t.1)

  -- with nothing after
  lone_directives_determined : (ds fs : Directives C) → FilledDirectives ds → FilledDirectives fs
      → directives_nodes ds ≡ directives_nodes fs → ds ≡ fs
  lone_directives_determined ds fs h k e =
      (directives_determined ds fs h k [] [] (no_first kind.Directive) (no_first kind.Directive)
      (nothing_after _ _ e)).0

  -- ---- variable definitions

  value_any : (v w : Located (Value C)) → Any v → Any w → (r s : List (Node C))
      → value_nodes v ++ r ≡ value_nodes w ++ s → (v ≡ w) × (r ≡ s)
  value_any v w h k = value_determined v w

  no_default : (ds : Directives C) → Apart value_nodes (directives_nodes ds)
  no_default ds v us e =
      directives_avoid (kind_of_value v.item) (λ k. value_no_directive v.item (sym k)) ds []
      (no_first (kind_of_value v.item))
      (ap (λ l. first_kind (l ++ [])) (sym e) ∙ ap first_kind (append_assoc (value_nodes v) us [])
      ∙ value_first v.item v.span (us ++ []))

  -- what stands after a variable's type
  abbrev after_type : VariableDefinition C → List (Node C)
  after_type v = if_present value_nodes v.default ++ directives_nodes v.directives

  variable_determined : (v w : VariableDefinition C) → FilledVariable v → FilledVariable w → (r s : List (Node C))
      → variable_nodes v ++ r ≡ variable_nodes w ++ s → (v ≡ w) × (r ≡ s)
  unfolding variable_nodes
  variable_determined v w h k r s e =
      let t = shares _ _ _ _ _ _ (over kind.Type v.of_type.span (Typed v.of_type.item) [] ++ after_type v)
      (over kind.Type w.of_type.span (Typed w.of_type.item) [] ++ after_type w) r s e in
      let type = shares _ _ _ _ _ _ [] [] (after_type v) (after_type w) t.inner in
      let default = present_determined value_nodes Any value_any v.default w.default (any_present v.default)
      (any_present w.default) (directives_nodes v.directives) (directives_nodes w.directives)
      (no_default v.directives) (no_default w.directives) type.rest in
      let directives = lone_directives_determined v.directives w.directives h k default.1 in (
        same_variable v w (named_determined v.name w.name t.label)
            (same_place v.of_type w.of_type (typed_determined v.of_type.item w.of_type.item type.label) type.span)
            default.0 directives,
        t.rest,
      )

  variables_determined : (a b : Variables C) → FilledVariables a → FilledVariables b → (r s : List (Node C))
      → variables_nodes a ++ r ≡ variables_nodes b ++ s → (a ≡ b) × (r ≡ s)
  unfolding variables_nodes
  variables_determined a b h k r s e =
      let t = shares _ _ _ _ _ _ (each variable_nodes a.item) (each variable_nodes b.item) r s e in
      let items = all_determined variable_nodes FilledVariable variable_determined a.item b.item h k
      (no_part variable_nodes _ variable_first) t.inner in
      (same_place a b items t.span, t.rest)

  -- ---- selections

  alias_determined : (a b : Word) → Any a → Any b → (r s : List (Node C)) → alias_nodes a ++ r ≡ alias_nodes b ++ s
      → (a ≡ b) × (r ≡ s)
  unfolding alias_nodes
  alias_determined a b h k r s e = let t = shares _ _ _ _ _ _ [] [] r s e in (named_determined a b t.label, t.rest)

  -- what stands after a field's alias, and after its arguments
  abbrev after_arguments : Directives C → OptionalSelections C → List (Node C)
  after_arguments ds ss = directives_nodes ds ++ optional_nodes ss

  abbrev after_alias : Option (Arguments C) → Directives C → OptionalSelections C → List (Node C)
  after_alias a ds ss = if_present arguments_nodes a ++ after_arguments ds ss

  no_more_arguments : (ds : Directives C) (ss : OptionalSelections C) → Avoids kind.Arguments (after_arguments ds ss)
  no_more_arguments ds ss =
      directives_avoid kind.Arguments (λ e. cc) ds _ (optional_avoid kind.Arguments (λ e. cc) (λ e. cc) (λ e. cc) ss)

  no_more_aliases : (a : Option (Arguments C)) (ds : Directives C) (ss : OptionalSelections C)
      → Apart alias_nodes (after_alias a ds ss)
  no_more_aliases a ds ss =
      another_kind alias_nodes _ alias_first _
      (if_present_avoids arguments_nodes kind.Arguments kind.Alias arguments_first (λ e. cc) a _
      (directives_avoid kind.Alias (λ e. cc) ds _ (optional_avoid kind.Alias (λ e. cc) (λ e. cc) (λ e. cc) ss)))

  optional_no_directive : (ss : OptionalSelections C) → Avoids kind.Directive (optional_nodes ss)
  optional_no_directive = optional_avoid kind.Directive (λ e. cc) (λ e. cc) (λ e. cc)

  selections_no_directive : (ss : Selections C) → Avoids kind.Directive (selections_nodes ss)
  selections_no_directive = selections_avoid kind.Directive (λ e. cc) (λ e. cc) (λ e. cc)

  -- directives, and the selection set after them
  before_set_determined : (ds ds' : Directives C) (ss ss' : Selections C) → FilledDirectives ds → FilledDirectives ds'
      → directives_nodes ds ++ selections_nodes ss ≡ directives_nodes ds' ++ selections_nodes ss'
      → (ds ≡ ds') × (selections_nodes ss ≡ selections_nodes ss')
  before_set_determined ds ds' ss ss' h k e =
      directives_determined ds ds' h k (selections_nodes ss) (selections_nodes ss') (selections_no_directive ss)
      (selections_no_directive ss') e

  some_selection : (s : Selection C) (r : List (Node C)) → [] ≡ selection_nodes s ++ r → ⊥
  some_selection s r e = no_part selection_nodes _ selection_first s r (sym e)

  mutual
    unfolding selection_nodes

    selection_determined : (a b : Selection C) → FilledSelection a → FilledSelection b → (r s : List (Node C))
        → selection_nodes a ++ r ≡ selection_nodes b ++ s → (a ≡ b) × (r ≡ s)
    selection_determined (tree.Field a n c ds ss p) (tree.Field a' n' c' ds' ss' p') h k r s e =
        let t = shares _ _ _ _ _ _ (if_present alias_nodes a ++ after_alias c ds ss)
        (if_present alias_nodes a' ++ after_alias c' ds' ss') r s e in
        let alias = present_determined alias_nodes Any alias_determined a a' (any_present a) (any_present a')
        (after_alias c ds ss) (after_alias c' ds' ss') (no_more_aliases c ds ss) (no_more_aliases c' ds' ss')
        t.inner in
        let arguments = if_arguments_determined c c' (after_arguments ds ss) (after_arguments ds' ss')
        (no_more_arguments ds ss) (no_more_arguments ds' ss') alias.1 in
        let directives = directives_determined ds ds' h.0 k.0 (optional_nodes ss) (optional_nodes ss')
        (optional_no_directive ss) (optional_no_directive ss') arguments.1 in
        let selections = optional_determined ss ss' h.1 k.1 directives.1 in (
          same_field a a' n n' c c' ds ds' ss ss' p p' alias.0 (named_determined n n' t.label) arguments.0 directives.0
              selections t.span,
          t.rest,
        )
    selection_determined (tree.FragmentSpread name ds p) (tree.FragmentSpread name' ds' p') h k r s e =
        let t = shares _ _ _ _ _ _ (directives_nodes ds) (directives_nodes ds') r s e in
        let d = lone_directives_determined ds ds' h k t.inner in
        (same_spread name name' ds ds' p p' (named_determined name name' t.label) d t.span, t.rest)
    selection_determined (tree.InlineFragment condition ds ss p) (tree.InlineFragment condition' ds' ss' p') h k r s e =
        let t = shares _ _ _ _ _ _ (directives_nodes ds ++ selections_nodes ss)
        (directives_nodes ds' ++ selections_nodes ss') r s e in
        let d = before_set_determined ds ds' ss ss' h.0 k.0 t.inner in
        let selections = selections_determined ss ss' h.1 k.1 d.1 in (
          same_inline condition condition' ds ds' ss ss' p p'
              (name_determined condition condition' t.label) d.0 selections
              t.span,
          t.rest,
        )
    selection_determined a b h k r s e =
        let kinds : Some (kind_of_selection a) ≡ Some (kind_of_selection b) =
        sym (selection_first a r) ∙ (ap first_kind e ∙ selection_first b s) in
        absurd (cc)

    optional_determined : (ss ss' : OptionalSelections C) → FilledOptional ss → FilledOptional ss'
        → optional_nodes ss ≡ optional_nodes ss' → ss ≡ ss'
    optional_determined absent absent h k e = refl
    optional_determined (present no_selections) ss' h k e = absurd h
    optional_determined absent (present no_selections) h k e = absurd k
    optional_determined absent (present (selection s ss)) h k e = absurd (some_selection s (selections_nodes ss) e)
    optional_determined (present (selection s ss)) absent h k e = absurd
        (some_selection s (selections_nodes ss) (sym e))
    optional_determined (present (selection s ss)) (present no_selections) h k e = absurd k
    optional_determined (present (selection s ss)) (present (selection s' ss')) h k e =
        ap present (selections_determined (selection s ss) (selection s' ss') h k e)

    selections_determined : (ss ss' : Selections C) → FilledSelections ss → FilledSelections ss'
        → selections_nodes ss ≡ selections_nodes ss' → ss ≡ ss'
    selections_determined no_selections no_selections h k e = refl
    selections_determined no_selections (selection s ss) h k e = absurd (some_selection s (selections_nodes ss) e)
    selections_determined (selection s ss) no_selections h k e = absurd (some_selection s (selections_nodes ss) (sym e))
    selections_determined (selection s ss) (selection s' ss') h k e =
        let t = selection_determined s s' h.0 k.0 (selections_nodes ss) (selections_nodes ss') e in
        ap₂ selection t.0 (selections_determined ss ss' h.1 k.1 t.1)

  -- ---- documents

  -- what stands after an operation's variable definitions
  abbrev after_variables : Directives C → Selections C → List (Node C)
  after_variables ds ss = directives_nodes ds ++ selections_nodes ss

  no_more_variables : (ds : Directives C) (ss : Selections C) → Apart variables_nodes (after_variables ds ss)
  no_more_variables ds ss =
      another_kind variables_nodes _ variables_first _
      (directives_avoid kind.VariableDefinitions (λ e. cc) ds _
      (selections_avoid kind.VariableDefinitions (λ e. cc) (λ e. cc) (λ e. cc) ss))

  definition_determined : (a b : Definition C) → FilledDefinition a → FilledDefinition b → (r s : List (Node C))
      → definition_nodes a ++ r ≡ definition_nodes b ++ s → (a ≡ b) × (r ≡ s)
  unfolding definition_nodes
  definition_determined (tree.Operation t n v ds ss p) (tree.Operation t' n' v' ds' ss' p') h k r s e =
      let same = shares _ _ _ _ _ _ (if_present variables_nodes v ++ after_variables ds ss)
      (if_present variables_nodes v' ++ after_variables ds' ss') r s e in
      let variables = present_determined variables_nodes FilledVariables variables_determined v v' h.0 k.0
      (after_variables ds ss)
      (after_variables ds' ss') (no_more_variables ds ss) (no_more_variables ds' ss') same.inner in
      let directives = before_set_determined ds ds' ss ss' h.1 k.1 variables.1 in
      let selections = selections_determined ss ss' h.2 k.2 directives.1 in (
        same_operation t t' n n' v v' ds ds' ss ss' p p' (operation_determined t t' same.kind)
            (name_determined n n' same.label)
            variables.0 directives.0 selections same.span,
        same.rest,
      )
  definition_determined (tree.Operation t n v ds ss p) (tree.Fragment n' c' ds' ss' p') h k r s e =
      let same = shares _ _ _ _ _ _ (if_present variables_nodes v ++ after_variables ds ss) (after_variables ds' ss')
      r s e in
      absurd (no_fragment t same.kind)
  definition_determined (tree.Fragment n c ds ss p) (tree.Operation t' n' v' ds' ss' p') h k r s e =
      let same = shares _ _ _ _ _ _ (after_variables ds ss)
      (if_present variables_nodes v' ++ after_variables ds' ss') r s e in
      absurd (no_fragment t' (sym same.kind))
  definition_determined (tree.Fragment n c ds ss p) (tree.Fragment n' c' ds' ss' p') h k r s e =
      let same = shares _ _ _ _ _ _ (after_variables ds ss) (after_variables ds' ss') r s e in
      let words = on_type_determined n n' c c' same.label in
      let directives = before_set_determined ds ds' ss ss' h.0 k.0 same.inner in
      let selections = selections_determined ss ss' h.1 k.1 directives.1 in
      (same_fragment n n' c c' ds ds' ss ss' p p' words.0 words.1 directives.0 selections same.span, same.rest)

  pub document_determined : {F G : Type 0} (S : Scalars C F) (T : Scalars C G) (ts us : List Lexeme)
      (a b : List (Definition C)) → IsDocument S a ts → IsDocument T b us → document_nodes a ≡ document_nodes b → a ≡ b
  unfolding document_nodes
  document_determined S T ts us a b h k e =
      all_determined definition_nodes FilledDefinition definition_determined a b (document_filled S ts a h)
      (document_filled T us b k) (no_part definition_nodes _ definition_first) e
