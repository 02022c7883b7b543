-- The grammar sees no span: a list of tokens without spans has the tree without spans.
use Rattle.std.proofs.Common.{Bool, ◌≡◌, ◌∷◌, [], List, refl, sym, ap, ap₂, ◌∙◌, inl, inr, Option, Some, None, map, true, false}
use Rattle.std.specs.List.{AllZip}
use Rattle.std.proofs.lemmas.List.{map-append}
use Rattle.graphql_lexical.specs.declared.kind.Kind.{Kind}
use Rattle.graphql_lexical.specs.declared.kind.Kind.TheVariants.{Name, ExclamationMark, Dollar, ParenOpen, ParenClose, BracketOpen, BracketClose, CurlyOpen, CurlyClose, Ellipsis, Colon, Equals, At, EndOfFile}
use Rattle.graphql_lexical.specs.Place.{Span}
use Rattle.graphql_lexical.specs.Cutting.{Lexeme, last_of}
use Rattle.graphql_lexical.specs.laws.Alike.{Alike}
use Rattle.graphql_grammar.specs.Tokens.{Text, Located, Word, nowhere, span_of}
use Rattle.graphql_grammar.specs.Tree.{Scalars, Value, Null, Scalar, Enum, Variable, ListOf, Object, Items, no_items, item, ObjectFields, no_fields, object_field, TypeRef, NamedType, ListType, NonNullType, Argument, Arguments, Directive, Directives, VariableDefinition, Variables, Selection, Field, FragmentSpread, InlineFragment, Selections, no_selections, selection, OptionalSelections, absent, present, Definition, Operation, Fragment}
use Rattle.graphql_lexical.specs.Parts.{◌·◌}
use Rattle.graphql_grammar.specs.Grammar.{IsLocated, Token, Is, IsVariable, IsValue, AreItems, AreFields, Each, Optional, Several, IsWord, Says, Listed, IsType, IsArgument, IsArguments, IsDirective, IsDirectives, IsDefault, IsVariableDefinition, IsVariables, IsAlias, IsTypeCondition, IsFragmentName, IsSelection, IsOptionalSelectionSet, IsSelectionSet, AreSelections, IsDefinition, IsDocument, Over}
use Rattle.graphql_grammar.specs.Unlocated.{if_some, unlocated_word, unlocated_value, unlocated_items, unlocated_fields, unlocated_argument, unlocated_arguments, unlocated_directive, unlocated_directives, unlocated_variable, unlocated_variables, unlocated_selection, unlocated_selections, unlocated_optional, unlocated_definition, unlocated}
use Rattle.graphql_lexical.proofs.Public.{last_next}

-- a token without its span
abbrev pub bare : Lexeme → Lexeme
bare t = record { kind = t.kind; text = t.text; span = nowhere }

abbrev pub all_bare : List Lexeme → List Lexeme
all_bare ts = map bare ts

pub alike_bare : (ts us : List Lexeme) → AllZip Alike ts us → all_bare ts ≡ all_bare us
alike_bare [] [] h = refl
alike_bare [] (u ∷ us) h = absurd h
alike_bare (t ∷ ts) [] h = absurd h
alike_bare (t ∷ ts) (u ∷ us) h = ap₂ (λ a b. a ∷ b) (ap₂ (λ k w. record { kind = k; text = w; span = nowhere }) h.0.kind
    h.0.text) (alike_bare ts us h.1)

last_bare : (t : Lexeme) (ts : List Lexeme) → (last_of (bare t) (all_bare ts)).span ≡ nowhere
last_bare t [] = refl
last_bare t (u ∷ us) =
    ap (λ (x : Lexeme). x.span) (last_next (bare t) (bare u) (all_bare us)) ∙ last_bare u us

span_bare : (ts : List Lexeme) → span_of (all_bare ts) ≡ nowhere
span_bare [] = refl
span_bare (t ∷ ts) = ap (λ (p : Span). record { start = nowhere.start; end = p.end }) (last_bare t ts)

-- What is an A is a B without its spans.
abbrev Bares : (A B : List Lexeme → Type 0) → Type 0
Bares A B = (ts : List Lexeme) → A ts → B (all_bare ts)

-- ---- tokens and parts in a row

token : (kind : Kind) (text : Text) (span : Span)
    → Bares (λ ts. Token kind text span ts) (λ ts. Token kind text nowhere ts)
token kind text span ts h = ap all_bare h

is : (kind : Kind) → Bares (Is kind) (Is kind)
is kind ts h = (h.0, nowhere, ap all_bare h.2)

says : (text : Text) → Bares (Says text) (Says text)
says text ts h = (nowhere, ap all_bare h.1)

word : (w : Word) → Bares (IsWord w) (IsWord (unlocated_word w))
word w = token Name w.item w.span

both : {A B A' B' : List Lexeme → Type 0} → Bares A A' → Bares B B' → Bares (A · B) (A' · B')
both f g ts h = record {
  front = all_bare h.front;
  back = all_bare h.back;
  whole = ap all_bare h.whole ∙ map-append bare h.front h.back;
  first = f h.front h.first;
  second = g h.back h.second;
}

spanned : {A B A' B' : List Lexeme → Type 0} {p : Span} → Bares (A · B) (A' · B')
    → Bares (λ ts. (A · B) ts × (p ≡ span_of ts)) (λ ts. (A' · B') ts × (nowhere ≡ span_of ts))
spanned f ts h = (f ts h.0, sym (span_bare ts))

located : {A : List Lexeme → Type 0} {p : Span} (B : List Lexeme → Type 0) → Bares A B
    → Bares (Over p A) (Over nowhere B)
located B f ts h = (f ts h.0, sym (span_bare ts))

enclosed : {A B : List Lexeme → Type 0} (opening closing : Kind) → Bares A B
    → Bares (Is opening · A · Is closing) (Is opening · B · Is closing)
enclosed opening closing f = both (is opening) (both f (is closing))

module _ {A : Type 0} {R : A → List Lexeme → Type 0} (g : A → A) (f : (x : A) → Bares (R x) (R (g x))) where
  each : (xs : List A) → Bares (Each R xs) (Each R (map g xs))
  each [] ts h = ap all_bare h
  each (x ∷ xs) ts h = both (f x) (each xs) ts h

  optional : (x : Option A) → Bares (Optional R x) (Optional R (if_some g x))
  optional None ts h = ap all_bare h
  optional (Some x) ts h = f x ts h

  several : (xs : List A) → Bares (Several R xs) (Several R (map g xs))
  several [] ts h = absurd (h.1 refl)
  several (x ∷ xs) ts h = (each (x ∷ xs) ts h.0, λ e. absurd (cc))

  listed : (xs : List A) → Bares (Listed ParenOpen ParenClose R xs) (Listed ParenOpen ParenClose R (map g xs))
  listed xs = enclosed ParenOpen ParenClose (several xs)

-- ---- types

type : (x : TypeRef) → Bares (IsType x) (IsType x)
type (NamedType w) ts h = says w ts h
type (ListType size x) ts h = (enclosed BracketOpen BracketClose (type x) ts h.0, h.1)
type (NonNullType x) ts h = (both (type x) (is ExclamationMark) ts h.0, h.1)

module _ {C F : Type 0} (S : Scalars C F) where
  -- ---- values

  variable_name : (w : Text) → Bares (IsVariable w) (IsVariable w)
  variable_name w = both (is Dollar) (says w)

  mutual
    pub value_bare : (free : Bool) (v : Value C) → Bares (IsValue S free v) (IsValue S free (unlocated_value v))
    value_bare free Null ts h = says _ ts h
    value_bare free (Scalar c) ts (inl (k, w, p, h, s, e)) = inl (k, w, nowhere, token k w p ts h, s, e)
    value_bare free (Scalar c) ts (inr (inl h)) = inr (inl (says _ ts h.0, h.1))
    value_bare free (Scalar c) ts (inr (inr h)) = inr (inr (says _ ts h.0, h.1))
    value_bare free (Enum w) ts h = (says w ts h.0, h.1)
    value_bare free (Variable w) ts h = (h.0, variable_name w ts h.1)
    value_bare free (ListOf vs) ts h = enclosed BracketOpen BracketClose (items free vs) ts h
    value_bare free (Object fs) ts h = enclosed CurlyOpen CurlyClose (fields free fs) ts h

    items : (free : Bool) (vs : Items C) → Bares (AreItems S free vs) (AreItems S free (unlocated_items vs))
    items free no_items ts h = ap all_bare h
    items free (item v p vs) ts h =
        both (located (IsValue S free (unlocated_value v)) (value_bare free v)) (items free vs) ts h

    fields : (free : Bool) (fs : ObjectFields C)
        → Bares (AreFields S free fs) (AreFields S free (unlocated_fields fs))
    fields free no_fields ts h = ap all_bare h
    fields free (object_field w v p fs) ts h =
        both (word w) (both (is Colon) (both (located (IsValue S free (unlocated_value v)) (value_bare free v))
        (fields free fs))) ts h

  -- ---- arguments, directives and variable definitions

  argument : (a : Argument C) → Bares (IsArgument S a) (IsArgument S (unlocated_argument a))
  argument a = both (word a.name) (both (is Colon)
      (located (IsValue S true (unlocated_value a.value.item)) (value_bare true a.value.item)))

  arguments : (a : Arguments C) → Bares (IsArguments S a) (IsArguments S (unlocated_arguments a))
  arguments a ts h = (listed unlocated_argument argument a.item ts h.0, sym (span_bare ts))

  directive : (d : Located (Directive C)) → Bares (IsLocated (IsDirective S) d) (IsLocated (IsDirective S) (unlocated_directive d))
  directive d = spanned (both (is At) (both (word d.item.name) (optional unlocated_arguments arguments d.item.arguments)))

  directives : (ds : Directives C) → Bares (IsDirectives S ds) (IsDirectives S (unlocated_directives ds))
  directives = optional (map unlocated_directive) (several unlocated_directive directive)

  default : (v : Located (Value C)) → Bares (IsDefault S v) (IsDefault S (unlocated unlocated_value v))
  default v = both (is Equals) (located (IsValue S false (unlocated_value v.item)) (value_bare false v.item))

  variable : (v : VariableDefinition C)
      → Bares (IsVariableDefinition S v) (IsVariableDefinition S (unlocated_variable v))
  variable v = both (spanned (variable_name v.name.item)) (both (is Colon)
      (both (λ ts h. (type v.of_type.item ts h.0, sym (span_bare ts)))
      (both (optional (unlocated unlocated_value) default v.default) (directives v.directives))))

  variables : (a : Variables C) → Bares (IsVariables S a) (IsVariables S (unlocated_variables a))
  variables a ts h = (listed unlocated_variable variable a.item ts h.0, sym (span_bare ts))

  -- ---- selections

  alias_of : (w : Word) → Bares (IsAlias S w) (IsAlias S (unlocated_word w))
  alias_of w = both (word w) (is Colon)

  condition : (w : Word) → Bares (IsTypeCondition S w) (IsTypeCondition S (unlocated_word w))
  condition w = both (says _) (word w)

  fragment_name : (w : Word) → Bares (IsFragmentName S w) (IsFragmentName S (unlocated_word w))
  fragment_name w ts h = (word w ts h.0, h.1)

  mutual
    selection_of : (s : Selection C) → Bares (IsSelection S s) (IsSelection S (unlocated_selection s))
    selection_of (Field alias name args ds ss p) ts h =
        spanned (both (optional unlocated_word alias_of alias) (both (word name)
        (both (optional unlocated_arguments arguments args) (both (directives ds) (may_select ss))))) ts h
    selection_of (FragmentSpread name ds p) ts h =
        spanned (both (is Ellipsis) (both (fragment_name name) (directives ds))) ts h
    selection_of (InlineFragment on_type ds ss p) ts h = spanned (both (is Ellipsis)
        (both (optional unlocated_word condition on_type) (both (directives ds) (selection_set ss)))) ts h

    may_select : (ss : OptionalSelections C)
        → Bares (IsOptionalSelectionSet S ss) (IsOptionalSelectionSet S (unlocated_optional ss))
    may_select absent ts h = ap all_bare h
    may_select (present ss) ts h = selection_set ss ts h

    selection_set : (ss : Selections C) → Bares (IsSelectionSet S ss) (IsSelectionSet S (unlocated_selections ss))
    selection_set no_selections ts h = absurd h
    selection_set (selection s ss) ts h =
        both (is CurlyOpen) (both (selection_of s) (both (selections ss) (is CurlyClose))) ts h

    selections : (ss : Selections C) → Bares (AreSelections S ss) (AreSelections S (unlocated_selections ss))
    selections no_selections ts h = ap all_bare h
    selections (selection s ss) ts h = both (selection_of s) (selections ss) ts h

  -- ---- documents

  definition : (d : Definition C) → Bares (IsDefinition S d) (IsDefinition S (unlocated_definition d))
  definition (Operation kind name vars ds ss p) ts (inl (h, a, b, c, e), q) = (
    inl (
      selection_set ss ts h,
      a,
      ap (if_some unlocated_word) b,
      ap (if_some unlocated_variables) c,
      ap unlocated_directives e,
    ),
    sym (span_bare ts),
  )
  definition (Operation kind name vars ds ss p) ts (inr h, q) = (
    inr (both (says _) (both (optional unlocated_word word name)
        (both (optional unlocated_variables variables vars) (both (directives ds) (selection_set ss)))) ts h),
    sym (span_bare ts),
  )
  definition (Fragment name on_type ds ss p) ts h = spanned (both (says _) (both (fragment_name name)
      (both (condition on_type) (both (directives ds) (selection_set ss))))) ts h

  pub document_bare : (ts : List Lexeme) (ds : List (Definition C)) → IsDocument S ds ts
      → IsDocument S (map unlocated_definition ds) (all_bare ts)
  document_bare ts ds h = both (several unlocated_definition definition ds) (is EndOfFile) ts h
