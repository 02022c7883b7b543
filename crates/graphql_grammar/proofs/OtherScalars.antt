-- A document of one scalar type is one of another type that reads its scalar tokens as that does.
use Rattle.std.proofs.Common.{Bool, true, false, ◌≡◌, ◌∷◌, [], List, ap, ◌∙◌, subst, inl, inr, Option, Some, None}
use Rattle.std.specs.List.{AllByRecursion}
use Rattle.graphql_lexical.specs.declared.kind.Kind.TheVariants.{ParenOpen, ParenClose}
use Rattle.graphql_lexical.specs.Cutting.{Lexeme}
use Rattle.graphql_lexical.specs.Place.{Span}
use Rattle.graphql_grammar.specs.Tokens.{Located, span_of}
use Rattle.graphql_grammar.specs.Tree.{Scalars, Value, Null, Scalar, Enum, Variable, ListOf, Object, Items, no_items, item, ObjectFields, no_fields, object_field, Argument, Arguments, Directive, VariableDefinition, Variables, Selection, Field, FragmentSpread, InlineFragment, Selections, no_selections, selection, Definition, Operation, Fragment, Directives, OptionalSelections, absent, present}
use Rattle.graphql_lexical.specs.Parts.{◌·◌}
use Rattle.graphql_grammar.specs.Grammar.{IsLocated, AreItems, AreFields, IsValue, Each, Optional, Several, Listed, IsArgument, IsArguments, IsDirective, IsDirectives, IsDefault, IsVariableDefinition, IsVariables, IsSelection, IsOptionalSelectionSet, IsSelectionSet, AreSelections, IsDefinition, IsDocument}
use Rattle.graphql_grammar.specs.ScalarTokens.{IsReadAlso}
use Rattle.graphql_grammar.proofs.Elements.{all_front, all_back}

module _ {C F : Type 0} (S T : Scalars C F) (truths : S.of_bool ≡ T.of_bool) where
  abbrev Also : List Lexeme → Type 0
  Also = AllByRecursion (IsReadAlso S T)

  -- What is an A is a B, too, if T reads its scalar tokens as S does.
  abbrev Carries : (A B : List Lexeme → Type 0) → Type 0
  Carries A B = (ts : List Lexeme) → Also ts → A ts → B ts

  -- ---- parts in a row

  both : {A B A' B' : List Lexeme → Type 0} → Carries A A' → Carries B B' → Carries (A · B) (A' · B')
  both f g ts a h =
      let b = subst Also h.whole a in
      record {
        front = h.front;
        back = h.back;
        whole = h.whole;
        first = f h.front (all_front (IsReadAlso S T) h.front h.back b) h.first;
        second = g h.back (all_back (IsReadAlso S T) h.front h.back b) h.second;
      }

  spanned : {A B : List Lexeme → Type 0} {p : Span} → Carries A B
      → Carries (λ ts. A ts × (p ≡ span_of ts)) (λ ts. B ts × (p ≡ span_of ts))
  spanned f ts a h = (f ts a h.0, h.1)

  -- after or before a part that has no values
  after : {A B P : List Lexeme → Type 0} → Carries A B → Carries (P · A) (P · B)
  after f = both (λ ts a h. h) f

  before : {A B P : List Lexeme → Type 0} → Carries A B → Carries (A · P) (B · P)
  before f = both f (λ ts a h. h)

  module _ {A : Type 0} {R Q : A → List Lexeme → Type 0} (f : (x : A) → Carries (R x) (Q x)) where
    each : (xs : List A) → Carries (Each R xs) (Each Q xs)
    each [] ts a h = h
    each (x ∷ xs) ts a h = both (f x) (each xs) ts a h

    optional : (x : Option A) → Carries (Optional R x) (Optional Q x)
    optional None ts a h = h
    optional (Some x) ts a h = f x ts a h

    several : (xs : List A) → Carries (Several R xs) (Several Q xs)
    several xs ts a h = (each xs ts a h.0, h.1)

    listed : (xs : List A) → Carries (Listed ParenOpen ParenClose R xs) (Listed ParenOpen ParenClose Q xs)
    listed xs = after (before (several xs))

  -- ---- values

  mutual
    value : (free : Bool) (v : Value C) → Carries (IsValue S free v) (IsValue T free v)
    value free Null ts a h = h
    value free (Scalar c) ts a (inl (k, w, p, h, s, e)) = inl (k, w, p, h, s, (subst Also h a).0 c s e)
    value free (Scalar c) ts a (inr (inl h)) = inr (inl (h.0, h.1 ∙ ap (λ (f : Bool → C). f true) truths))
    value free (Scalar c) ts a (inr (inr h)) = inr (inr (h.0, h.1 ∙ ap (λ (f : Bool → C). f false) truths))
    value free (Enum w) ts a h = h
    value free (Variable w) ts a h = h
    value free (ListOf vs) ts a h = after (before (items free vs)) ts a h
    value free (Object fs) ts a h = after (before (fields free fs)) ts a h

    items : (free : Bool) (vs : Items C) → Carries (AreItems S free vs) (AreItems T free vs)
    items free no_items ts a h = h
    items free (item v p vs) ts a h = both (spanned (value free v)) (items free vs) ts a h

    fields : (free : Bool) (fs : ObjectFields C) → Carries (AreFields S free fs) (AreFields T free fs)
    fields free no_fields ts a h = h
    fields free (object_field w v p fs) ts a h = after (after (both (spanned (value free v)) (fields free fs))) ts a h

  -- ---- arguments, directives and variable definitions

  argument : (x : Argument C) → Carries (IsArgument S x) (IsArgument T x)
  argument x = after (after (spanned (value true x.value.item)))

  arguments : (x : Arguments C) → Carries (IsArguments S x) (IsArguments T x)
  arguments x = spanned (listed argument x.item)

  directive : (d : Located (Directive C)) → Carries (IsLocated (IsDirective S) d) (IsLocated (IsDirective T) d)
  directive d = spanned (after (after (optional arguments d.item.arguments)))

  directives : (ds : Directives C) → Carries (IsDirectives S ds) (IsDirectives T ds)
  directives = optional (several directive)

  default : (v : Located (Value C)) → Carries (IsDefault S v) (IsDefault T v)
  default v = after (spanned (value false v.item))

  variable : (v : VariableDefinition C) → Carries (IsVariableDefinition S v) (IsVariableDefinition T v)
  variable v = after (after (after (both (optional default v.default) (directives v.directives))))

  variables : (x : Variables C) → Carries (IsVariables S x) (IsVariables T x)
  variables x = spanned (listed variable x.item)

  -- ---- selections

  mutual
    selection_of : (s : Selection C) → Carries (IsSelection S s) (IsSelection T s)
    selection_of (Field alias name args ds ss p) ts a h =
        spanned (after (after (both (optional arguments args) (both (directives ds) (may_select ss))))) ts a h
    selection_of (FragmentSpread name ds p) ts a h = spanned (after (after (directives ds))) ts a h
    selection_of (InlineFragment on_type ds ss p) ts a h =
        spanned (after (after (both (directives ds) (selection_set ss)))) ts a h

    may_select : (ss : OptionalSelections C)
        → Carries (IsOptionalSelectionSet S ss) (IsOptionalSelectionSet T ss)
    may_select absent ts a h = h
    may_select (present ss) ts a h = selection_set ss ts a h

    selection_set : (ss : Selections C) → Carries (IsSelectionSet S ss) (IsSelectionSet T ss)
    selection_set no_selections ts a h = h
    selection_set (selection s ss) ts a h = after (both (selection_of s) (before (selections ss))) ts a h

    selections : (ss : Selections C) → Carries (AreSelections S ss) (AreSelections T ss)
    selections no_selections ts a h = h
    selections (selection s ss) ts a h = both (selection_of s) (selections ss) ts a h

  -- ---- documents

  definition : (d : Definition C) → Carries (IsDefinition S d) (IsDefinition T d)
  definition (Operation kind name vars ds ss p) ts a (inl (h, i, j, k, l), q) =
      (inl (selection_set ss ts a h, i, j, k, l), q)
  definition (Operation kind name vars ds ss p) ts a (inr h, q) = (
    inr (after (after (both (optional variables vars) (both (directives ds) (selection_set ss)))) ts a h),
    q,
  )
  definition (Fragment name on_type ds ss p) ts a h =
      spanned (after (after (after (both (directives ds) (selection_set ss))))) ts a h

  pub document : (ts : List Lexeme) (ds : List (Definition C)) → AllByRecursion (IsReadAlso S T) ts → IsDocument S ds ts
      → IsDocument T ds ts
  document ts ds a h = before (several definition ds) ts a h
