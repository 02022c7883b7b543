-- Each node of a document lies in the source in which its tokens lie.
use Rattle.std.proofs.Common.{ℕ, Bool, true, false, ◌≡◌, ◌∷◌, [], List, ◌++◌, Option, Some, None, inl, inr, sym, ap, subst, refl, arith, zero-le, zero, suc, ◌+◌, length, take}
use Rattle.std.specs.List.{AllByRecursion}
use Rattle.graphql_lexical.specs.declared.kind.Kind.{Kind}
use Rattle.std.proofs.lemmas.List.{length-take}
use Rattle.graphql_lexical.specs.Kinds.{LexicalError}
use Rattle.graphql_lexical.specs.Place.{Place, Span, place, origin}
use Rattle.graphql_lexical.specs.Cutting.{Lexeme, last_of, Cut}
use Rattle.graphql_lexical.specs.device.Indexed.{BreaksFrom, here, later as past}
use Rattle.graphql_lexical.specs.laws.Laws.{AreSlicesFrom}
use Rattle.graphql_lexical.proofs.Public.{steps_by_characters, slices_in_order, place_after}
use Rattle.graphql_grammar.specs.Tokens.{Text, Located, Word, span_of}
use Rattle.graphql_grammar.specs.Tree as tree
use Rattle.graphql_grammar.specs.Tree.{Scalars, TypeRef, Value, Items, no_items, item, ObjectFields, no_fields, object_field, Argument, Arguments, Directive, Directives, VariableDefinition, Variables, Selection, Selections, no_selections, selection, OptionalSelections, absent, present, Definition}
use Rattle.graphql_lexical.specs.Parts.{◌·◌}
use Rattle.graphql_grammar.specs.Grammar.{IsLocated, Token, Is, IsValue, AreItems, AreFields, Each, Optional, Several, Listed, IsArgument, IsArguments, IsDirective, IsDirectives, IsDefault, IsVariableDefinition, IsVariables, IsAlias, IsSelection, IsOptionalSelectionSet, IsSelectionSet, AreSelections, IsDefinition, IsType, Over}
use Rattle.graphql_nodes.specs.declared.kind.NodeKind.{NodeKind}
use Rattle.graphql_nodes.specs.declared.kind.NodeKind.TheVariants as kind
use Rattle.graphql_nodes.specs.Nodes.{Node, Label, Typed, over, if_present, each, value_nodes, items_nodes, fields_nodes, argument_nodes, arguments_nodes, directive_nodes, directives_nodes, variable_nodes, variables_nodes, alias_nodes, selection_nodes, optional_nodes, selections_nodes, definition_nodes, document_nodes, nodes_at, type_nodes}
use Rattle.graphql_nodes.specs.laws.SpanLaws.{IsPlaceOf, LiesIn, NodesLieIn}
use Rattle.graphql_lexical.proofs.Public.{last_next}

module _ {A : Type 0} (P : A → Type 0) where
  all_of_both : (xs ys : List A) → AllByRecursion P xs → AllByRecursion P ys → AllByRecursion P (xs ++ ys)
  all_of_both [] ys h k = k
  all_of_both (x ∷ xs) ys h k = (h.0, all_of_both xs ys h.1 k)

  all_of_each : (xs ys : List A) → AllByRecursion P (xs ++ ys) → AllByRecursion P xs × AllByRecursion P ys
  all_of_each [] ys h = (tt, h)
  all_of_each (x ∷ xs) ys h = let k = all_of_each xs ys h.1 in ((h.0, k.0), k.1)

take_taken : (m : ℕ) (xs : List ℕ) → take (length (take m xs)) xs ≡ take m xs
take_taken zero xs = refl
take_taken (suc m) [] = refl
take_taken (suc m) (x ∷ xs) = ap (λ ys. x ∷ ys) (take_taken m xs)

module _ (source : List ℕ) where
  -- these tokens lie in the source
  abbrev pub Lie : List Lexeme → Type 0
  Lie = AllByRecursion (λ t. LiesIn source t.span)

  sliced : (k : ℕ) (ts : List Lexeme) → AreSlicesFrom source k ts → Lie ts
  sliced k [] h = tt
  sliced k (t ∷ ts) h =
      let s = h.0 in (
        record {
          start = record { within = omega (arith, s.forward, s.within); is = s.start };
          end = record { within = s.within; is = s.end };
        },
        sliced t.span.end.index ts h.1,
      )

  pub tokens_lie : (ts : List Lexeme) → Cut source ts → Lie ts
  tokens_lie ts c = sliced 0 ts (slices_in_order source ts c)

  -- one of some tokens
  pub token_among : (ts before after : List Lexeme) (t : Lexeme) → ts ≡ before ++ t ∷ after → Lie ts
      → LiesIn source t.span
  token_among ts before after t e h =
      (all_of_each (λ t. LiesIn source t.span) before (t ∷ after) (subst Lie e h)).1.0

  pub origin_lies : IsPlaceOf source origin
  origin_lies = record { within = zero-le; is = sym (steps_by_characters source).first }

  -- the place after any number of characters, all of them where there are no more
  any_place : (m : ℕ) → IsPlaceOf source (place source m)
  any_place m = record { within = omega (arith, length-take m source); is = ap place_after (sym (take_taken m source)) }

  pub broken_lies : {k : ℕ} {error : LexicalError} {at : Place} → BreaksFrom source k error at → IsPlaceOf source at
  broken_lies {k} (here {ignored = ignored} {size = size} g f) = any_place ((k + ignored) + size)
  broken_lies (past s e b) = broken_lies b

  last_lies : (t : Lexeme) (ts : List Lexeme) → Lie (t ∷ ts) → LiesIn source (last_of t ts).span
  last_lies t [] h = h.0
  last_lies t (u ∷ us) h =
      subst (λ (x : Lexeme). LiesIn source x.span) (sym (last_next t u us)) (last_lies u us h.1)

  -- from the start of the first token to the end of the last
  span_lies : (ts : List Lexeme) → Lie ts → LiesIn source (span_of ts)
  span_lies [] h = record { start = origin_lies; end = origin_lies }
  span_lies (t ∷ ts) h = record { start = h.0.start; end = (last_lies t ts h).end }

  module _ (ts : List Lexeme) (span : Span) where
    whole_lies : span ≡ span_of ts → Lie ts → LiesIn source span
    whole_lies e h = subst (LiesIn source) (sym e) (span_lies ts h)

    token_lies : (kind : Kind) (text : Text) → Token kind text span ts → Lie ts → LiesIn source span
    token_lies kind text e h = (subst Lie e h).0

  module _ {P Q : List Lexeme → Type 0} (ts : List Lexeme) (h : (P · Q) ts) (lie : Lie ts) where
    parts_lie : Lie h.front × Lie h.back
    parts_lie = all_of_each (λ t. LiesIn source t.span) h.front h.back (subst Lie h.whole lie)

    pub front_lies : Lie h.front
    front_lies = parts_lie.0

module _ {C F : Type 0} (S : Scalars C F) (source : List ℕ) where
  -- the nodes lie in the source if the tokens do
  pub record Within (ts : List Lexeme) (ns : List (Node C)) : Type 0 where
    pub lie : Lie source ts → NodesLieIn source ns

  -- tokens that have no node
  none : (ts : List Lexeme) → Within ts []
  none ts = record { lie = λ l. tt }

  -- a node over those of the parts in it
  above : (ts : List Lexeme) (k : NodeKind) (p : Span) (l : Label) (inner : List (Node C))
      → (Lie source ts → LiesIn source p) → Within ts inner → Within ts (over k p l inner)
  above ts k p l inner f h = record { lie = λ m. (f m, h.lie m) }

  module _ {P Q : List Lexeme → Type 0} (ts : List Lexeme) (h : (P · Q) ts) where
    -- both parts have nodes
    joined : (ms ns : List (Node C)) → (P h.front → Within h.front ms) → (Q h.back → Within h.back ns)
        → Within ts (ms ++ ns)
    joined ms ns f g = record {
      lie = λ l.
          let parts = parts_lie source ts h l in
          all_of_both (λ n. LiesIn source n.span) ms ns ((f h.first).lie parts.0) ((g h.second).lie parts.1);
    }

    -- the second part alone has nodes
    after : (ns : List (Node C)) → (Q h.back → Within h.back ns) → Within ts ns
    after ns g = joined [] ns (λ p. none h.front) g

    -- the first part alone has nodes
    before : (ns : List (Node C)) → (P h.front → Within h.front ns) → Within ts ns
    before ns f = record { lie = λ l. (f h.first).lie (parts_lie source ts h l).0 }

  -- in brackets
  bracketed : {P : List Lexeme → Type 0} (opening closing : Kind) (ts : List Lexeme) (ns : List (Node C))
      → ((us : List Lexeme) → P us → Within us ns) → (Is opening · P · Is closing) ts → Within ts ns
  bracketed opening closing ts ns f h = after ts h ns (λ q. before h.back q ns (f q.front))

  each_lies : {A : Type 0} (R : A → List Lexeme → Type 0) (nodes : A → List (Node C))
      → ((ts : List Lexeme) (x : A) → R x ts → Within ts (nodes x))
      → (ts : List Lexeme) (xs : List A) → Each R xs ts → Within ts (each nodes xs)
  unfolding each
  each_lies R nodes f ts [] h = none ts
  each_lies R nodes f ts (x ∷ xs) h =
      joined ts h (nodes x) (each nodes xs) (f h.front x) (each_lies R nodes f h.back xs)

  several_lie : {A : Type 0} (R : A → List Lexeme → Type 0) (nodes : A → List (Node C))
      → ((ts : List Lexeme) (x : A) → R x ts → Within ts (nodes x))
      → (ts : List Lexeme) (xs : List A) → Several R xs ts → Within ts (each nodes xs)
  several_lie R nodes f ts xs h = each_lies R nodes f ts xs h.0

  optional_lies : {A : Type 0} (R : A → List Lexeme → Type 0) (nodes : A → List (Node C))
      → ((ts : List Lexeme) (x : A) → R x ts → Within ts (nodes x))
      → (ts : List Lexeme) (a : Option A) → Optional R a ts → Within ts (if_present nodes a)
  optional_lies R nodes f ts None h = none ts
  optional_lies R nodes f ts (Some x) h = f ts x h

  listed_lie : {A : Type 0} (opening closing : Kind) (R : A → List Lexeme → Type 0) (nodes : A → List (Node C))
      → ((ts : List Lexeme) (x : A) → R x ts → Within ts (nodes x))
      → (ts : List Lexeme) (xs : List A) → Listed opening closing R xs ts → Within ts (each nodes xs)
  listed_lie opening closing R nodes f ts xs h =
      bracketed opening closing ts (each nodes xs) (λ us. several_lie R nodes f us xs) h

  -- ---- values

  -- a node over no other
  leaf : (ts : List Lexeme) (k : NodeKind) (p : Span) (l : Label) → p ≡ span_of ts → Within ts (over k p l [])
  leaf ts k p l e = above ts k p l [] (whole_lies source ts p e) (none ts)

  mutual
    unfolding nodes_at

    lies_at : (free : Bool) (ts : List Lexeme) (v : Value C) (p : Span) → Over p (IsValue S free v) ts
        → Within ts (nodes_at v p)
    lies_at free ts tree.Null p h = leaf ts _ p _ h.1
    lies_at free ts (tree.Scalar c) p h = record { lie = λ l. (whole_lies source ts p h.1 l, tt) }
    lies_at free ts (tree.Enum w) p h = leaf ts _ p _ h.1
    lies_at free ts (tree.Variable w) p h = leaf ts _ p _ h.1
    lies_at free ts (tree.ListOf vs) p h = above ts _ p _ (items_nodes vs) (whole_lies source ts p h.1)
        (bracketed _ _ ts (items_nodes vs) (λ us. items_lie free us vs) h.0)
    lies_at free ts (tree.Object fs) p h = above ts _ p _ (fields_nodes fs) (whole_lies source ts p h.1)
        (bracketed _ _ ts (fields_nodes fs) (λ us. fields_lie free us fs) h.0)

    items_lie : (free : Bool) (ts : List Lexeme) (vs : Items C) → AreItems S free vs ts → Within ts (items_nodes vs)
    items_lie free ts no_items h = none ts
    items_lie free ts (item v p vs) h =
        joined ts h (nodes_at v p) (items_nodes vs) (lies_at free h.front v p) (items_lie free h.back vs)

    fields_lie : (free : Bool) (ts : List Lexeme) (fs : ObjectFields C) → AreFields S free fs ts
        → Within ts (fields_nodes fs)
    fields_lie free ts no_fields h = none ts
    fields_lie free ts (object_field w v p fs) h =
        let inner = after ts h _ (λ q. after h.back q _ (λ r. joined q.back r (nodes_at v p) (fields_nodes fs)
        (lies_at free r.front v p) (fields_lie free r.back fs))) in
        record {
          lie = λ l. (token_lies source h.front w.span _ w.item h.first (front_lies source ts h l), inner.lie l);
        }

  pub value_lies : (free : Bool) (ts : List Lexeme) (v : Located (Value C)) → IsLocated (IsValue S free) v ts
      → Within ts (value_nodes v)
  value_lies free ts v h = lies_at free ts v.item v.span h

  -- ---- arguments and directives

  argument_lies : (ts : List Lexeme) (a : Argument C) → IsArgument S a ts → Within ts (argument_nodes a)
  unfolding argument_nodes
  argument_lies ts a h =
      above ts _ a.name.span _ (value_nodes a.value) (λ l. token_lies source h.front a.name.span _ a.name.item h.first
      (front_lies source ts h l)) (after ts h _ (λ q. after h.back q _ (value_lies true q.back a.value)))

  arguments_lie : (ts : List Lexeme) (a : Arguments C) → IsArguments S a ts → Within ts (arguments_nodes a)
  unfolding arguments_nodes
  arguments_lie ts a h = above ts _ a.span _ _ (whole_lies source ts a.span h.1)
      (listed_lie _ _ (IsArgument S) argument_nodes argument_lies ts a.item h.0)

  directive_lies : (ts : List Lexeme) (d : Located (Directive C)) → IsLocated (IsDirective S) d ts
      → Within ts (directive_nodes d)
  unfolding directive_nodes
  directive_lies ts d h = above ts _ d.span _ _ (whole_lies source ts d.span h.1)
      (after ts h.0 _ (λ q. after h.0.back q _
      (optional_lies (IsArguments S) arguments_nodes arguments_lie q.back d.item.arguments)))

  directives_lie : (ts : List Lexeme) (ds : Directives C) → IsDirectives S ds ts → Within ts (directives_nodes ds)
  unfolding directives_nodes
  directives_lie = optional_lies (Several (IsLocated (IsDirective S))) (each directive_nodes)
      (several_lie (IsLocated (IsDirective S)) directive_nodes directive_lies)

  -- ---- variable definitions

  pub type_lies : (ts : List Lexeme) (type : Located TypeRef) → IsLocated IsType type ts → Within ts (type_nodes type)
  type_lies ts type h = leaf ts kind.Type type.span (Typed type.item) h.1

  default_lies : (ts : List Lexeme) (v : Located (Value C)) → IsDefault S v ts → Within ts (value_nodes v)
  default_lies ts v h = after ts h (value_nodes v) (value_lies false h.back v)

  variable_lies : (ts : List Lexeme) (v : VariableDefinition C) → IsVariableDefinition S v ts
      → Within ts (variable_nodes v)
  unfolding variable_nodes
  variable_lies ts v h =
      let types = type_nodes v.of_type in
      let others = if_present value_nodes v.default ++ directives_nodes v.directives in
      above ts _ v.name.span _ (types ++ others)
      (λ l. whole_lies source h.front v.name.span h.first.1 (front_lies source ts h l))
      (after ts h _ (λ colon. after h.back colon _ (λ type. joined colon.back type types others
      (λ t. type_lies type.front v.of_type t)
      (λ rest. joined type.back rest _ _
      (optional_lies (IsDefault S) value_nodes default_lies rest.front v.default)
      (directives_lie rest.back v.directives)))))

  variables_lie : (ts : List Lexeme) (v : Variables C) → IsVariables S v ts → Within ts (variables_nodes v)
  unfolding variables_nodes
  variables_lie ts v h = above ts _ v.span _ _ (whole_lies source ts v.span h.1)
      (listed_lie _ _ (IsVariableDefinition S) variable_nodes variable_lies ts v.item h.0)

  -- ---- selections

  alias_lies : (ts : List Lexeme) (w : Word) → IsAlias S w ts → Within ts (alias_nodes w)
  unfolding alias_nodes
  alias_lies ts w h = above ts _ w.span _ [] (λ l. token_lies source h.front w.span _ w.item h.first
      (front_lies source ts h l)) (none ts)

  mutual
    unfolding selection_nodes

    selection_lies : (ts : List Lexeme) (s : Selection C) → IsSelection S s ts → Within ts (selection_nodes s)
    selection_lies ts (tree.Field alias name arguments ds ss p) h = above ts _ p _ _ (whole_lies source ts p h.1)
        (joined ts h.0 _ _ (optional_lies (IsAlias S) alias_nodes alias_lies h.0.front alias)
        (λ named. after h.0.back named _ (λ q. joined named.back q _ _
        (optional_lies (IsArguments S) arguments_nodes arguments_lie q.front arguments)
        (λ r. joined q.back r _ _ (directives_lie r.front ds) (optional_set_lies r.back ss)))))
    selection_lies ts (tree.FragmentSpread name ds p) h = above ts _ p _ _ (whole_lies source ts p h.1)
        (after ts h.0 _ (λ q. after h.0.back q _ (directives_lie q.back ds)))
    selection_lies ts (tree.InlineFragment condition ds ss p) h = above ts _ p _ _ (whole_lies source ts p h.1)
        (after ts h.0 _ (λ q. after h.0.back q _
        (λ r. joined q.back r _ _ (directives_lie r.front ds) (set_lies r.back ss))))

    optional_set_lies : (ts : List Lexeme) (ss : OptionalSelections C) → IsOptionalSelectionSet S ss ts
        → Within ts (optional_nodes ss)
    optional_set_lies ts absent h = none ts
    optional_set_lies ts (present ss) h = set_lies ts ss h

    set_lies : (ts : List Lexeme) (ss : Selections C) → IsSelectionSet S ss ts → Within ts (selections_nodes ss)
    set_lies ts no_selections h = absurd h
    set_lies ts (selection s ss) h = after ts h _ (λ q. joined h.back q _ _ (selection_lies q.front s)
        (λ r. before q.back r _ (selections_lie r.front ss)))

    selections_lie : (ts : List Lexeme) (ss : Selections C) → AreSelections S ss ts
        → Within ts (selections_nodes ss)
    selections_lie ts no_selections h = none ts
    selections_lie ts (selection s ss) h =
        joined ts h _ _ (selection_lies h.front s) (selections_lie h.back ss)

  -- ---- definitions

  definition_lies : (ts : List Lexeme) (d : Definition C) → IsDefinition S d ts → Within ts (definition_nodes d)
  unfolding definition_nodes directives_nodes
  definition_lies ts (tree.Operation type name variables ds ss p) (inl (h, t, n, v, d), e) =
      subst (λ vs. Within ts (definition_nodes (tree.Operation type name vs ds ss p))) (sym v)
      (subst (λ ds. Within ts (definition_nodes (tree.Operation type name None ds ss p))) (sym d)
      (above ts _ p _ _ (whole_lies source ts p e) (set_lies ts ss h)))
  definition_lies ts (tree.Operation type name variables ds ss p) (inr h, e) =
      above ts _ p _ _ (whole_lies source ts p e)
      (after ts h _ (λ named. after h.back named _ (λ r. joined named.back r _ _
      (optional_lies (IsVariables S) variables_nodes variables_lie r.front variables)
      (λ body. joined r.back body _ _ (directives_lie body.front ds) (set_lies body.back ss)))))
  definition_lies ts (tree.Fragment name condition ds ss p) h =
      above ts _ p _ _ (whole_lies source ts p h.1) (after ts h.0 _ (λ named. after h.0.back named _
      (λ typed. after named.back typed _
      (λ body. joined typed.back body _ _ (directives_lie body.front ds) (set_lies body.back ss)))))

  pub definitions_lie : (ts : List Lexeme) (ds : List (Definition C)) → Several (IsDefinition S) ds ts
      → Within ts (document_nodes ds)
  unfolding document_nodes
  definitions_lie = several_lie (IsDefinition S) definition_nodes definition_lies
