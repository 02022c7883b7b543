-- What is counted of a document's nodes is no more than what is counted of its tokens, where this holds of each node
-- and the tokens that are its own.
use Rattle.std.proofs.Common.{ℕ, Bool, true, false, ◌≡◌, ◌≤◌, ◌∷◌, [], List, ◌++◌, Option, Some, None, Ok, inl, inr, sym, ap, ◌∙◌, subst, arith, rules}
use Rattle.std.specs.List.{sum_by}
use Rattle.std.proofs.lemmas.List.Sums.{sum_by-cons, sum_by-append}
use Rattle.graphql_lexical.specs.declared.kind.Kind.{Kind}
use Rattle.graphql_lexical.specs.declared.kind.Kind.TheVariants.{Name, Dollar, At, CurlyOpen, Ellipsis}
use Rattle.graphql_lexical.specs.Place.{Span}
use Rattle.graphql_lexical.specs.Cutting.{Lexeme}
use Rattle.graphql_grammar.specs.Tokens.{Text, Located, Word}
use Rattle.graphql_grammar.specs.Tree as tree
use Rattle.graphql_grammar.specs.Tree.{Scalars, TypeRef, Value, Items, no_items, item, ObjectFields, no_fields, object_field, Argument, Arguments, Directive, Directives, VariableDefinition, Variables, Selection, Selections, no_selections, selection, OptionalSelections, absent, present, Definition}
use Rattle.graphql_lexical.specs.Parts.{◌·◌}
use Rattle.graphql_grammar.specs.Grammar.{IsLocated, Token, Is, IsWord, Says, IsScalarKind, IsValue, AreItems, AreFields, Each, Optional, Several, Listed, IsType, IsArgument, IsArguments, IsDirective, IsDirectives, IsDefault, IsVariableDefinition, IsVariables, IsAlias, IsSelection, IsOptionalSelectionSet, IsSelectionSet, AreSelections, IsDefinition}
use Rattle.graphql_grammar.proofs.Public.{token_in, name_in, row_front, row_right}
use Rattle.graphql_nodes.specs.declared.kind.NodeKind.{NodeKind}
use Rattle.graphql_nodes.specs.declared.kind.NodeKind.TheVariants as kind
use Rattle.graphql_nodes.specs.Nodes.{Node, Label, Unnamed, Named, OnType, Typed, name_of, over, scalar_node, if_present, each, value_nodes, items_nodes, fields_nodes, argument_nodes, arguments_nodes, directive_nodes, directives_nodes, variable_nodes, variables_nodes, alias_nodes, selection_nodes, optional_nodes, selections_nodes, definition_nodes, document_nodes, nodes_at, type_nodes}
use Rattle.graphql_nodes.proofs.Splits.{node_over}

abbrev pub IsUntyped : Label → Type 0
IsUntyped Unnamed = Unit {0}
IsUntyped (Named word) = Unit {0}
IsUntyped (OnType name condition) = Unit {0}
IsUntyped (Typed type) = ⊥

untyped_name : (name : Option Word) → IsUntyped (name_of name)
untyped_name None = tt
untyped_name (Some word) = tt

-- A node measures at most what the tokens weigh that are its own: of a type all of its tokens, of each other node one.
pub record Weighs {C F : Type 0} (S : Scalars C F) (measure : Node C → ℕ) (weight : Lexeme → ℕ) : Type 0 where
  pub types : (ts : List Lexeme) (type : TypeRef) (span : Span) → IsType type ts
      → measure (node_over kind.Type span (Typed type) []) ≤ sum_by weight ts
  pub scalars : (t : Lexeme) (content : C) (span : Span) → IsScalarKind t.kind → S.read t.kind t.text ≡ Ok content
      → measure (scalar_node content span) ≤ weight t
  pub truths : (t : Lexeme) (b : Bool) (span : Span) → measure (scalar_node (S.of_bool b) span) ≤ weight t
  pub others : (t : Lexeme) (k : NodeKind) (span : Span) (label : Label) (inner : List (Node C)) → IsUntyped label
      → measure (node_over k span label inner) ≤ weight t

module _ {C F : Type 0} (S : Scalars C F) (measure : Node C → ℕ) (weight : Lexeme → ℕ)
    (weighs : Weighs S measure weight) where
  -- the nodes measure at most what the tokens weigh
  pub record Within (ts : List Lexeme) (ns : List (Node C)) : Type 0 where
    pub le : sum_by measure ns ≤ sum_by weight ts

  -- ---- tokens and nodes in a row

  nothing : Within [] []
  nothing = record { le = search rules }

  join : (us vs : List Lexeme) (ms ns : List (Node C)) → Within us ms → Within vs ns → Within (us ++ vs) (ms ++ ns)
  join us vs ms ns h k = record
      { le = omega (arith, h.le, k.le, sum_by-append weight us vs, sum_by-append measure ms ns) }

  -- tokens that have no node
  none : (ts : List Lexeme) → Within ts []
  none ts = record { le = omega (arith, nothing.le) }

  -- a token and its node
  node : (t : Lexeme) (ts : List Lexeme) (k : NodeKind) (p : Span) (l : Label) (inner : List (Node C)) → IsUntyped l
      → Within ts inner
      → Within (t ∷ ts) (over k p l inner)
  node t ts k p l inner u h = record {
    le = omega (
      arith,
      h.le,
      weighs.others t k p l inner u,
      sum_by-cons weight t ts,
      sum_by-cons measure
          (node_over k p l inner) inner,
    );
  }

  -- Each list that is a P is one token.
  abbrev AreOne : (List Lexeme → Type 0) → Type 0
  AreOne P = (ts : List Lexeme) → P ts → (t : Lexeme) × (ts ≡ t ∷ [])

  is_one : (kind : Kind) → AreOne (Is kind)
  is_one kind ts h = (token_in kind ts h, h.2)

  says_one : (text : Text) → AreOne (Says text)
  says_one text ts h = (name_in text ts h, h.1)

  word_one : (w : Word) → AreOne (λ ts. IsWord w ts)
  word_one w ts h = (record { kind = Name; text = w.item; span = w.span }, h)

  one_token : (ts : List Lexeme) (t : Lexeme) (n : NodeKind) (p : Span) (l : Label) → IsUntyped l → ts ≡ t ∷ []
      → Within ts (over n p l [])
  one_token ts t n p l u e = subst (λ ts. Within ts (over n p l [])) (sym e) (node t [] n p l [] u nothing)

  module _ {P Q : List Lexeme → Type 0} (ts : List Lexeme) (h : (P · Q) ts) where
    -- both parts have nodes
    joined : (ms ns : List (Node C)) → (P h.front → Within h.front ms) → (Q h.back → Within h.back ns)
        → Within ts (ms ++ ns)
    joined ms ns f g = subst (λ ts. Within ts (ms ++ ns)) (sym h.whole)
        (join h.front h.back ms ns (f h.first) (g h.second))

    -- the second part alone has nodes
    after : (ns : List (Node C)) → (Q h.back → Within h.back ns) → Within ts ns
    after ns g = joined [] ns (λ p. none h.front) g

    -- the first part alone has nodes
    before : (ns : List (Node C)) → (P h.front → Within h.front ns) → Within ts ns
    before ns f = subst (λ ts. Within ts ns) (sym h.whole)
        (record { le = omega (arith, (f h.first).le, sum_by-append weight h.front h.back) })

    -- the first part is the token of the node over the second one's
    headed : AreOne P → (k : NodeKind) (p : Span) (l : Label) (inner : List (Node C)) → IsUntyped l
        → (Q h.back → Within h.back inner) → Within ts (over k p l inner)
    headed one k p l inner u g = let t = one h.front h.first in
        subst (λ ts. Within ts (over k p l inner)) (sym (h.whole ∙ ap (λ us. us ++ h.back) t.1))
        (node t.0 h.back k p l inner u (g h.second))

  -- in brackets, of which the first is the node's
  bracketed : {P : List Lexeme → Type 0} (opening closing : Kind) (ts : List Lexeme) (k : NodeKind) (p : Span)
      (inner : List (Node C)) → ((us : List Lexeme) → P us → Within us inner)
      → (Is opening · P · Is closing) ts → Within ts (over k p Unnamed inner)
  bracketed opening closing ts k p inner f h =
      headed ts h (is_one opening) k p Unnamed inner tt (λ q. before h.back q inner (f q.front))

  -- the first part is the token of a node over the first nodes of the second one's
  headed_before : {P Q : List Lexeme → Type 0} (ts : List Lexeme) (h : (P · Q) ts) → AreOne P → (k : NodeKind)
      (p : Span) (l : Label) (inner ns : List (Node C)) → IsUntyped l → (Q h.back → Within h.back (inner ++ ns))
      → Within ts (over k p l inner ++ ns)
  headed_before ts h one k p l inner ns u g = let t = one h.front h.first in let w = g h.second in
      subst (λ ts. Within ts (over k p l inner ++ ns)) (sym (h.whole ∙ ap (λ us. us ++ h.back) t.1)) (record {
        le = omega (
          arith,
          w.le,
          weighs.others t.0 k p l inner u,
          sum_by-cons weight t.0 h.back,
          sum_by-cons measure (node_over k p l inner) (inner ++ ns),
        );
      })

  each_within : {A : Type 0} (R : A → List Lexeme → Type 0) (nodes : A → List (Node C))
      → ((ts : List Lexeme) (x : A) → R x ts → Within ts (nodes x))
      → (ts : List Lexeme) (xs : List A) → Each R xs ts → Within ts (each nodes xs)
  unfolding each
  each_within R nodes f ts [] h = subst (λ ts. Within ts []) (sym h) nothing
  each_within R nodes f ts (x ∷ xs) h =
      joined ts h (nodes x) (each nodes xs) (f h.front x) (each_within R nodes f h.back xs)

  several_within : {A : Type 0} (R : A → List Lexeme → Type 0) (nodes : A → List (Node C))
      → ((ts : List Lexeme) (x : A) → R x ts → Within ts (nodes x))
      → (ts : List Lexeme) (xs : List A) → Several R xs ts → Within ts (each nodes xs)
  several_within R nodes f ts xs h = each_within R nodes f ts xs h.0

  optional_within : {A : Type 0} (R : A → List Lexeme → Type 0) (nodes : A → List (Node C))
      → ((ts : List Lexeme) (x : A) → R x ts → Within ts (nodes x))
      → (ts : List Lexeme) (a : Option A) → Optional R a ts → Within ts (if_present nodes a)
  optional_within R nodes f ts None h = subst (λ ts. Within ts []) (sym h) nothing
  optional_within R nodes f ts (Some x) h = f ts x h

  listed_within : {A : Type 0} (opening closing : Kind) (R : A → List Lexeme → Type 0) (nodes : A → List (Node C))
      → ((ts : List Lexeme) (x : A) → R x ts → Within ts (nodes x))
      → (k : NodeKind) (p : Span) (ts : List Lexeme) (xs : List A) → Listed opening closing R xs ts
      → Within ts (over k p Unnamed (each nodes xs))
  listed_within opening closing R nodes f k p ts xs h =
      bracketed opening closing ts k p _ (λ us. several_within R nodes f us xs) h

  -- ---- values

  scalar_within : (t : Lexeme) (c : C) (p : Span) → measure (scalar_node c p) ≤ weight t
      → Within (t ∷ []) (scalar_node c p ∷ [])
  scalar_within t c p h = record {
    le = omega (arith, h, nothing.le, sum_by-cons weight t [], sum_by-cons measure (scalar_node c p) []);
  }

  truth_within : (ts : List Lexeme) (t : Lexeme) (b : Bool) (c : C) (p : Span) → ts ≡ t ∷ [] → c ≡ S.of_bool b
      → Within ts (scalar_node c p ∷ [])
  truth_within ts t b c p h e = subst (λ ts. Within ts (scalar_node c p ∷ [])) (sym h)
      (scalar_within t c p (subst (λ c. measure (scalar_node c p) ≤ weight t) (sym e) (weighs.truths t b p)))

  read_within : (ts : List Lexeme) (k : Kind) (w : Text) (c : C) (p q : Span) → Token k w q ts → IsScalarKind k
      → S.read k w ≡ Ok c
      → Within ts (scalar_node c p ∷ [])
  read_within ts k w c p q h s e = let t : Lexeme = record { kind = k; text = w; span = q } in
      subst (λ ts. Within ts (scalar_node c p ∷ [])) (sym h) (scalar_within t c p (weighs.scalars t c p s e))

  mutual
    unfolding nodes_at

    within_at : (free : Bool) (ts : List Lexeme) (v : Value C) (p : Span) → IsValue S free v ts
        → Within ts (nodes_at v p)
    within_at free ts tree.Null p h = one_token ts _ _ p _ tt h.1
    within_at free ts (tree.Scalar c) p (inl (k, w, q, h, s, e)) = read_within ts k w c p q h s e
    within_at free ts (tree.Scalar c) p (inr (inl h)) = truth_within ts _ true c p h.0.1 h.1
    within_at free ts (tree.Scalar c) p (inr (inr h)) = truth_within ts _ false c p h.0.1 h.1
    within_at free ts (tree.Enum w) p h = one_token ts _ _ p _ tt h.0.1
    within_at free ts (tree.Variable w) p h =
        headed ts h.1 (is_one Dollar) _ _ _ [] tt (λ q. none h.1.back)
    within_at free ts (tree.ListOf vs) p h =
        bracketed _ _ ts _ p (items_nodes vs) (λ us. items_within free us vs) h
    within_at free ts (tree.Object fs) p h =
        bracketed _ _ ts _ p (fields_nodes fs) (λ us. fields_within free us fs) h

    items_within : (free : Bool) (ts : List Lexeme) (vs : Items C) → AreItems S free vs ts → Within ts (items_nodes vs)
    items_within free ts no_items h = none ts
    items_within free ts (item v p vs) h = joined ts h (nodes_at v p) (items_nodes vs)
        (λ k. within_at free h.front v p k.0) (items_within free h.back vs)

    fields_within : (free : Bool) (ts : List Lexeme) (fs : ObjectFields C) → AreFields S free fs ts
        → Within ts (fields_nodes fs)
    fields_within free ts no_fields h = none ts
    fields_within free ts (object_field w v p fs) h =
        headed_before ts h (word_one _) kind.ObjectField w.span _ (nodes_at v p) (fields_nodes fs) tt
        (λ q. after h.back q _ (λ r. joined q.back r (nodes_at v p) (fields_nodes fs)
        (λ k. within_at free r.front v p k.0) (fields_within free r.back fs)))

  pub value_within : (free : Bool) (ts : List Lexeme) (v : Located (Value C)) → IsLocated (IsValue S free) v ts
      → Within ts (value_nodes v)
  value_within free ts v h = within_at free ts v.item v.span h.0

  -- ---- arguments and directives

  argument_within : (ts : List Lexeme) (a : Argument C) → IsArgument S a ts → Within ts (argument_nodes a)
  unfolding argument_nodes
  argument_within ts a h = headed ts h (word_one a.name) _ _ _ (value_nodes a.value) tt
      (λ q. after h.back q (value_nodes a.value) (value_within true q.back a.value))

  arguments_within : (ts : List Lexeme) (a : Arguments C) → IsArguments S a ts → Within ts (arguments_nodes a)
  unfolding arguments_nodes
  arguments_within ts a h = listed_within _ _ (IsArgument S) argument_nodes argument_within _ _ ts a.item h.0

  directive_within : (ts : List Lexeme) (d : Located (Directive C)) → IsLocated (IsDirective S) d ts
      → Within ts (directive_nodes d)
  unfolding directive_nodes
  directive_within ts d h = headed ts h.0 (is_one At) _ _ _ _ tt (λ q. after h.0.back q _
      (optional_within (IsArguments S) arguments_nodes arguments_within q.back d.item.arguments))

  directives_within : (ts : List Lexeme) (ds : Directives C) → IsDirectives S ds ts → Within ts (directives_nodes ds)
  unfolding directives_nodes
  directives_within = optional_within (Several (IsLocated (IsDirective S))) (each directive_nodes)
      (several_within (IsLocated (IsDirective S)) directive_nodes directive_within)

  -- ---- variable definitions

  pub type_within : (ts : List Lexeme) (type : Located TypeRef) → IsLocated IsType type ts → Within ts (type_nodes type)
  type_within ts type h = record {
    le = omega (
      arith,
      weighs.types ts type.item type.span h.0,
      nothing.le,
      sum_by-cons measure
          (node_over kind.Type type.span (Typed type.item) []) [],
    );
  }

  default_within : (ts : List Lexeme) (v : Located (Value C)) → IsDefault S v ts → Within ts (value_nodes v)
  default_within ts v h = after ts h (value_nodes v) (value_within false h.back v)

  variable_within : (ts : List Lexeme) (v : VariableDefinition C) → IsVariableDefinition S v ts
      → Within ts (variable_nodes v)
  unfolding variable_nodes
  variable_within ts v h =
      let dollar = row_right ts (row_front (λ us k. k.0) ts h) in
      headed ts dollar (is_one Dollar) _ _ _ _ tt (λ name. after dollar.back name _ (λ colon. after name.back colon _
      (λ type. joined colon.back type _ _ (λ t. type_within type.front v.of_type t)
      (λ rest. joined type.back rest _ _
      (optional_within (IsDefault S) value_nodes default_within rest.front v.default)
      (directives_within rest.back v.directives)))))

  variables_within : (ts : List Lexeme) (v : Variables C) → IsVariables S v ts → Within ts (variables_nodes v)
  unfolding variables_nodes
  variables_within ts v h =
      listed_within _ _ (IsVariableDefinition S) variable_nodes variable_within _ _ ts v.item h.0

  -- ---- selections

  alias_within : (ts : List Lexeme) (w : Word) → IsAlias S w ts → Within ts (alias_nodes w)
  unfolding alias_nodes
  alias_within ts w h = headed ts h (word_one w) _ _ _ [] tt (λ q. none h.back)

  -- a field's node is its name's
  field_within : {P W Q : List Lexeme → Type 0} (ts : List Lexeme) (h : (P · W · Q) ts) → AreOne W
      → (k : NodeKind) (p : Span) (l : Label) (ms ns : List (Node C)) → IsUntyped l
      → (P h.front → Within h.front ms) → (Q h.second.back → Within h.second.back ns)
      → Within ts (over k p l (ms ++ ns))
  field_within ts h one k p l ms ns u f g =
      let named = h.second in
      let t = one named.front named.first in
      let a = f h.first in
      let b = g named.second in
      let whole = h.whole ∙ ap (λ us. h.front ++ us) (named.whole ∙ ap (λ us. us ++ named.back) t.1) in
      subst (λ ts. Within ts (over k p l (ms ++ ns))) (sym whole) (record {
        le = omega (
          arith,
          a.le,
          b.le,
          weighs.others t.0 k p l (ms ++ ns) u,
          sum_by-append weight h.front (t.0 ∷ named.back),
          sum_by-cons weight t.0 named.back,
          sum_by-append measure ms ns,
          sum_by-cons measure (node_over k p l (ms ++ ns)) (ms ++ ns),
        );
      })

  mutual
    unfolding selection_nodes

    selection_within : (ts : List Lexeme) (s : Selection C) → IsSelection S s ts → Within ts (selection_nodes s)
    selection_within ts (tree.Field alias name arguments ds ss p) h = field_within ts h.0 (word_one name) _ _ _ _ _ tt
        (optional_within (IsAlias S) alias_nodes alias_within h.0.front alias)
        (λ q. joined h.0.second.back q _ _
        (optional_within (IsArguments S) arguments_nodes arguments_within q.front arguments)
        (λ r. joined q.back r _ _ (directives_within r.front ds) (optional_set_within r.back ss)))
    selection_within ts (tree.FragmentSpread name ds p) h = headed ts h.0 (is_one Ellipsis) _ _ _ _ tt
        (λ q. after h.0.back q _ (directives_within q.back ds))
    selection_within ts (tree.InlineFragment condition ds ss p) h =
        headed ts h.0 (is_one Ellipsis) _ _ _ _ (untyped_name condition) (λ q. after h.0.back q _
        (λ r. joined q.back r _ _ (directives_within r.front ds) (set_within r.back ss)))

    optional_set_within : (ts : List Lexeme) (ss : OptionalSelections C) → IsOptionalSelectionSet S ss ts
        → Within ts (optional_nodes ss)
    optional_set_within ts absent h = none ts
    optional_set_within ts (present ss) h = set_within ts ss h

    set_within : (ts : List Lexeme) (ss : Selections C) → IsSelectionSet S ss ts → Within ts (selections_nodes ss)
    set_within ts no_selections h = absurd h
    set_within ts (selection s ss) h = after ts h _ (λ q. joined h.back q _ _ (selection_within q.front s)
        (λ r. before q.back r _ (selections_within r.front ss)))

    selections_within : (ts : List Lexeme) (ss : Selections C) → AreSelections S ss ts
        → Within ts (selections_nodes ss)
    selections_within ts no_selections h = none ts
    selections_within ts (selection s ss) h =
        joined ts h _ _ (selection_within h.front s) (selections_within h.back ss)

  -- ---- definitions

  -- the opening bracket is a node's
  set_over : (ts : List Lexeme) (ss : Selections C) (k : NodeKind) (p : Span) (l : Label) → IsUntyped l
      → IsSelectionSet S ss ts → Within ts (over k p l (selections_nodes ss))
  unfolding selection_nodes
  set_over ts no_selections k p l u h = absurd h
  set_over ts (selection s ss) k p l u h = headed ts h (is_one CurlyOpen) k p l _ u
      (λ q. joined h.back q _ _ (selection_within q.front s) (λ r. before q.back r _ (selections_within r.front ss)))

  -- A query in short has no words: its node is the opening bracket's.
  definition_within : (ts : List Lexeme) (d : Definition C) → IsDefinition S d ts → Within ts (definition_nodes d)
  unfolding definition_nodes directives_nodes
  definition_within ts (tree.Operation type name variables ds ss p) (inl (h, t, n, v, d), q) =
      subst (λ vs. Within ts (definition_nodes (tree.Operation type name vs ds ss p))) (sym v)
      (subst (λ ds. Within ts (definition_nodes (tree.Operation type name None ds ss p))) (sym d)
      (set_over ts ss _ _ _ (untyped_name name) h))
  definition_within ts (tree.Operation type name variables ds ss p) (inr h, q) =
      headed ts h (says_one _) _ _ _ _ (untyped_name name) (λ named. after h.back named _ (λ r. joined named.back r _ _
      (optional_within (IsVariables S) variables_nodes variables_within r.front variables)
      (λ body. joined r.back body _ _ (directives_within body.front ds) (set_within body.back ss))))
  definition_within ts (tree.Fragment name condition ds ss p) h =
      headed ts h.0 (says_one _) _ _ _ _ tt (λ named. after h.0.back named _ (λ typed. after named.back typed _
      (λ body. joined typed.back body _ _ (directives_within body.front ds) (set_within body.back ss))))

  pub definitions_within : (ts : List Lexeme) (ds : List (Definition C)) → Several (IsDefinition S) ds ts
      → Within ts (document_nodes ds)
  unfolding document_nodes
  definitions_within = several_within (IsDefinition S) definition_nodes definition_within
