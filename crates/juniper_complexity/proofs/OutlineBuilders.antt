-- Outlines that are gathered while a document is parsed.
use Rattle.std.proofs.Common.{◌≡◌, ℕ, ◌+◌, suc, List, [], ◌∷◌, ◌++◌, map, length, Option, Some, None, refl, ap, sym}
use Rattle.std.proofs.Common.{subst, ◌∙◌, arith, append_assoc, append-nil}
use Rattle.std.proofs.lemmas.List.{map-append, length-replicate}
use Rattle.std.specs.Global.{Vec}
use Rattle.std.specs.Str.{chars}
use Rattle.graphql_lexical.specs.Place as places
use Rattle.graphql_grammar.specs.Tokens.{Word}
use Rattle.graphql_grammar.specs.Tree as tree
use Rattle.graphql_grammar.specs.Tree.{Arguments, Directives, Selection, Selections, selections_of, OptionalSelections}
use Rattle.graphql_grammar.specs.Tree.{absent, present, Variables}
use Rattle.juniper_parser.specs.Building.{BuildsEach, BuildsOptional}
use Rattle.juniper_tokens.specs.Spans.{view_span}
use Rattle.juniper_tokens.specs.declared.span.Span as code
use Rattle.juniper_values.specs.Scalar.{Content}
use Rattle.juniper_outlines.specs.Complexities.{nothing, plus, capped, capped_complexity}
use Rattle.juniper_complexity.specs.Parts.{Reference, directives_complexity, field_complexity, spreads_of}
use Rattle.juniper_complexity.specs.Parts.{directive_count, only_directives, operation_directives}
use Rattle.juniper_complexity.specs.Parts.{spreads_of_optional, spreads_of_all, variable_directive_count}
use Rattle.juniper_complexity.specs.Gathered.{seen_spread, capped_reference, Gathers, OpensField, OpensSpread, Begins}
use Rattle.juniper_complexity.specs.Gathered.{Keeps, GathersSelection, gathered, counted_directives, KeepsDirectives}
use Rattle.juniper_complexity.specs.Gathered.{GathersSet, GathersOptionalSet}
use Rattle.juniper_complexity.specs.device.BySpreads.{own_of, own_of_optional, own_of_all}
use Rattle.juniper_outlines.specs.Sums.{at_level, plus_capped}
use Rattle.juniper_outlines.specs.declared.complexity.Complexity.{Complexity}
use Rattle.juniper_outlines.specs.declared.outline.NamedSpread.{NamedSpread}
use Rattle.juniper_complexity.specs.declared.outline_builder.OutlineBuilder.{OutlineBuilder}
use Rattle.juniper_complexity.specs.declared.outline_builder.PartCount.{PartCount}
use Rattle.juniper_complexity.proofs.Algebra.{same_complexity, plus_assoc, plus_nothing, capped_plus}

-- ---- parts without selections

module _ {B X A : Type 0} where
  pub kept_each : (a b : B) (xs : List X) (ps : List A) → BuildsEach Keeps a b xs ps → a ≡ b
  kept_each a b [] [] same = same
  kept_each a b [] (p ∷ ps) some = absurd some
  kept_each a b (x ∷ xs) [] some = absurd some
  kept_each a b (x ∷ xs) (p ∷ ps) some = some.1 ∙ kept_each some.0 b xs ps some.2

  as_many_parts : (a b : B) (xs : List X) (ps : List A) → BuildsEach Keeps a b xs ps
      → length xs ≡ length ps
  as_many_parts a b [] [] same = refl
  as_many_parts a b [] (p ∷ ps) some = absurd some
  as_many_parts a b (x ∷ xs) [] some = absurd some
  as_many_parts a b (x ∷ xs) (p ∷ ps) some = ap suc (as_many_parts some.0 b xs ps some.2)

  pub kept_optional : (a b : B) (x : Option X) (p : Option A) → BuildsOptional Keeps a b x p → a ≡ b
  kept_optional a b None None same = same
  kept_optional a b None (Some p) some = absurd some
  kept_optional a b (Some x) None some = absurd some
  kept_optional a b (Some x) (Some p) one = one

pub kept_directives : {B : Type 0} (a b : B) (x : Option PartCount) (ds : Directives Content)
    → KeepsDirectives a b x ds → a ≡ b
kept_directives a b None None same = same
kept_directives a b None (Some ds) some = absurd some
kept_directives a b (Some x) None some = absurd some
kept_directives a b (Some x) (Some ds) each = kept_each a b (gathered x) ds each

-- those that were read are counted
pub directives_counted : {B : Type 0} (a b : B) (x : Option PartCount) (ds : Directives Content)
    → KeepsDirectives a b x ds → counted_directives x ≡ directives_complexity ds
directives_counted a b None None same = refl
directives_counted a b None (Some ds) some = absurd some
directives_counted a b (Some x) None some = absurd some
directives_counted a b (Some x) (Some ds) each =
    let many = as_many_parts a b (gathered x) ds each in
    let count = length-replicate x.count (tt {0}) in
    same_complexity _ _ refl refl (omega (arith, many, count)) refl refl

-- ---- selections

pub gathers_none : (it : OutlineBuilder) → Gathers it it (λ _. nothing) (λ _. [])
gathers_none it = record {
  own_complexity = λ l x _ e. e ∙ ap capped_complexity (sym (plus_nothing x));
  own_spreads = λ l _. sym (append-nil (map seen_spread it.spreads.items));
  same_level = refl;
}

pub gathers_both : (a b c : OutlineBuilder) (own_one own_two : ℕ → Complexity) (one two : ℕ → List Reference)
    → Gathers a b own_one one → Gathers b c own_two two
    → Gathers a c (λ l. plus (own_one l) (own_two l)) (λ l. one l ++ two l)
gathers_both a b c own_one own_two one two g h = record {
  own_complexity = λ l x k e. h.own_complexity l (plus x (own_one l)) (g.same_level ∙ k) (g.own_complexity l x k e)
      ∙ ap capped_complexity (plus_assoc x (own_one l) (own_two l));
  own_spreads = λ l k.
      h.own_spreads l (g.same_level ∙ k) ∙ (ap (λ ss. ss ++ map capped_reference (two l)) (g.own_spreads l k)
      ∙ (append_assoc (map seen_spread a.spreads.items) (map capped_reference (one l)) (map capped_reference (two l))
      ∙ ap (λ ss. map seen_spread a.spreads.items ++ ss) (sym (map-append capped_reference (one l) (two l)))));
  same_level = h.same_level ∙ g.same_level;
}

pub gathers_same : (old new : OutlineBuilder) (own own_too : ℕ → Complexity) (spreads spreads_too : ℕ → List Reference)
    → ((l : ℕ) → own_too l ≡ own l) → ((l : ℕ) → spreads_too l ≡ spreads l) → Gathers old new own spreads
    → Gathers old new own_too spreads_too
gathers_same old new own own_too spreads spreads_too e f g = record {
  own_complexity = λ l x k h. g.own_complexity l x k h ∙ ap (λ y. capped_complexity (plus x y)) (sym (e l));
  own_spreads = λ l k. g.own_spreads l k
      ∙ ap (λ y. map seen_spread old.spreads.items ++ map capped_reference y) (sym (f l));
  same_level = g.same_level;
}

gathers_each : (a b : OutlineBuilder) (xs : List (Unit {0})) (ss : List (Selection Content))
    → BuildsEach GathersSelection a b xs ss
    → Gathers a b (λ l. own_of_all l (selections_of ss)) (λ l. spreads_of_all l (selections_of ss))
unfolding own_of own_of_optional own_of_all spreads_of spreads_of_optional spreads_of_all
gathers_each a b [] [] same =
    subst (λ (z : OutlineBuilder). Gathers a z (λ _. nothing) (λ _. [])) same (gathers_none a)
gathers_each a b [] (s ∷ ss) some = absurd some
gathers_each a b (x ∷ xs) [] some = absurd some
gathers_each a b (x ∷ xs) (s ∷ ss) some =
    gathers_both a some.0 b (λ l. own_of l s) (λ l. own_of_all l (selections_of ss)) (λ l. spreads_of l s)
    (λ l. spreads_of_all l (selections_of ss)) some.1 (gathers_each some.0 b xs ss some.2)

pub gathers_set : (a b : OutlineBuilder) (parts : PartCount) (set : Selections Content) → GathersSet a b parts set
    → Gathers a b (λ l. own_of_all l set) (λ l. spreads_of_all l set)
gathers_set a b parts set h =
    subst (λ (z : Selections Content). Gathers a b (λ l. own_of_all l z) (λ l. spreads_of_all l z)) h.are
    (gathers_each a b (gathered parts) h.selections h.are_built)

pub gathers_optional_set : (a b : OutlineBuilder) (parts : Option PartCount) (set : OptionalSelections Content)
    → GathersOptionalSet a b parts set
    → Gathers a b (λ l. own_of_optional l set) (λ l. spreads_of_optional l set)
unfolding own_of own_of_optional own_of_all spreads_of spreads_of_optional spreads_of_all
gathers_optional_set a b None absent same =
    subst (λ (z : OutlineBuilder). Gathers a z (λ _. nothing) (λ _. [])) same (gathers_none a)
gathers_optional_set a b None (present set) some = absurd some
gathers_optional_set a b (Some parts) absent some = absurd some
gathers_optional_set a b (Some parts) (present set) h = gathers_set a b parts set h

-- ---- the end of a part

-- directives come last in the code
last_of_field : (x f o d : Complexity) → plus (plus (plus x f) o) d ≡ plus x (plus (plus f d) o)
last_of_field x f o d = same_complexity _ _ (omega arith) (omega arith) (omega arith) (omega arith) (omega arith)

last_of_inline : (x o d : Complexity) → plus (plus x o) d ≡ plus x (plus d o)
last_of_inline x o d = same_complexity _ _ (omega arith) (omega arith) (omega arith) (omega arith) (omega arith)

last_of_operation : (v n : ℕ) (o : Complexity) → plus (plus nothing (plus (only_directives v) o)) (only_directives n)
    ≡ plus (only_directives (v + n)) o
last_of_operation v n o =
    same_complexity _ _ (omega arith) (omega arith) (omega arith) (omega arith) (omega arith)

last_of_definition : (o d : Complexity) → plus (plus nothing o) d ≡ plus d o
last_of_definition o d = same_complexity _ _ (omega arith) (omega arith) (omega arith) (omega arith) (omega arith)

-- a sum and directives, with the numbers of the code
sum_counted : (own old sum counted is whole : Complexity) → own ≡ plus_capped old (capped_complexity counted)
    → old ≡ capped_complexity sum → counted ≡ is → plus sum is ≡ whole → own ≡ capped_complexity whole
sum_counted own old sum counted is whole e f k same =
    e ∙ (ap (λ y. plus_capped y (capped_complexity counted)) f
    ∙ (capped_plus sum counted ∙ ap capped_complexity (ap (plus sum) k ∙ same)))

module _ (counted : Complexity) (ds : Directives Content) (are : counted ≡ directives_complexity ds) where
  pub gathers_field : (first opened old new : OutlineBuilder) (around : ℕ) (alias : Option Word) (name : Word)
      (xs : Option (Arguments Content)) (set : OptionalSelections Content) (span : places.Span)
      → around ≡ first.level → OpensField first opened alias
      → Gathers opened old (λ l. own_of_optional l set) (λ l. spreads_of_optional l set)
      → new.own ≡ plus_capped old.own (capped_complexity counted) → new.spreads ≡ old.spreads → new.level ≡ around
      → GathersSelection first new tt (tree.Field alias name xs ds set span)
  unfolding own_of spreads_of
  gathers_field first opened old new around alias name xs set span at o g e same level = record {
    own_complexity = λ l x k f.
        let own = at_level l (field_complexity alias) in
        let inner = own_of_optional (suc l) set in
        sum_counted new.own old.own (plus (plus x own) inner) counted (directives_complexity ds) _ e
        (g.own_complexity (suc l) (plus x own) (o.deeper l k) (o.own_complexity l x k f)) are
        (last_of_field x own inner (directives_complexity ds));
    own_spreads = λ l k.
        ap (λ (v : Vec NamedSpread). map seen_spread v.items) same
        ∙ (g.own_spreads (suc l) (o.deeper l k)
        ∙ ap (λ (v : Vec NamedSpread). map seen_spread v.items ++ map capped_reference
        (spreads_of_optional (suc l) set))
        o.same_spreads);
    same_level = level ∙ at;
  }

  pub gathers_inline : (first old new : OutlineBuilder) (condition : Option Word) (set : Selections Content)
      (span : places.Span) → Gathers first old (λ l. own_of_all l set) (λ l. spreads_of_all l set)
      → new.own ≡ plus_capped old.own (capped_complexity counted) → new.spreads ≡ old.spreads → new.level ≡ old.level
      → GathersSelection first new tt (tree.InlineFragment condition ds set span)
  unfolding own_of spreads_of
  gathers_inline first old new condition set span g e same level = record {
    own_complexity = λ l x k f.
        sum_counted new.own old.own (plus x (own_of_all l set)) counted (directives_complexity ds) _ e
        (g.own_complexity l x k f) are (last_of_inline x (own_of_all l set) (directives_complexity ds));
    own_spreads = λ l k. ap (λ (v : Vec NamedSpread). map seen_spread v.items) same ∙ g.own_spreads l k;
    same_level = level ∙ g.same_level;
  }

  pub gathers_directives : (old new : OutlineBuilder) → new.own ≡ plus_capped old.own (capped_complexity counted)
      → new.spreads ≡ old.spreads → new.level ≡ old.level
      → Gathers old new (λ _. directives_complexity ds) (λ _. [])
  gathers_directives old new e same level = record {
    own_complexity = λ l x k f. sum_counted new.own old.own x counted (directives_complexity ds) _ e f are refl;
    own_spreads = λ l k. ap (λ (v : Vec NamedSpread). map seen_spread v.items) same
        ∙ sym (append-nil (map seen_spread old.spreads.items));
    same_level = level;
  }

  same_reference : (s : NamedSpread) (name : Word) (span : code.Span) (level l : ℕ) → chars s.name.now ≡ name.item
      → s.fields_around ≡ level → level ≡ capped l
      → ◌≡◌ {A = Reference} (record { name = chars s.name.now; fields_around = s.fields_around; span = view_span span })
      (record { name = name.item; fields_around = capped l; span = view_span span })
  same_reference s name span level l e f k = rw (e, f, k) refl

  pub gathers_spread : (first opened old new : OutlineBuilder) (name : Word) (span : code.Span)
      (o : OpensSpread first opened name) → opened ≡ old
      → new.own ≡ plus_capped old.own (capped_complexity counted) → new.level ≡ old.level
      → new.spreads.items ≡ first.spreads.items ++ record o.spread { span = span } ∷ []
      → GathersSelection first new tt (tree.FragmentSpread name ds (view_span span))
  unfolding own_of spreads_of
  gathers_spread first opened old new name span o kept e level more = record {
    own_complexity = λ l x k f.
        sum_counted new.own old.own x counted (directives_complexity ds) _ e
        (ap (λ (z : OutlineBuilder). z.own) (sym kept) ∙ (o.same_own ∙ f)) are refl;
    own_spreads = λ l k.
        ap (map seen_spread) more
        ∙ (map-append seen_spread first.spreads.items (record o.spread { span = span } ∷ [])
        ∙ ap (λ (r : Reference). map seen_spread first.spreads.items ++ r ∷ [])
        (same_reference o.spread name span first.level l o.name_is o.around k));
    same_level = level ∙ (ap (λ (z : OutlineBuilder). z.level) (sym kept) ∙ o.same_level);
  }

  -- what a definition has at its end
  pub gathers_definition : (opened old : OutlineBuilder) (set : Selections Content) (own : Complexity)
      → Begins opened → Gathers opened old (λ l. own_of_all l set) (λ l. spreads_of_all l set)
      → own ≡ plus_capped old.own (capped_complexity counted)
      → (own ≡ capped_complexity (plus (directives_complexity ds) (own_of_all 0 set)))
      × (map seen_spread old.spreads.items ≡ map capped_reference (spreads_of_all 0 set))
  gathers_definition opened old set own b g e = (
    sum_counted own old.own (plus nothing (own_of_all 0 set)) counted (directives_complexity ds) _ e
        (g.own_complexity 0 nothing b.no_field b.no_complexity) are
        (last_of_definition (own_of_all 0 set) (directives_complexity ds)),
    g.own_spreads 0 b.no_field
        ∙ ap (λ (ss : List NamedSpread). map seen_spread ss ++ map capped_reference (spreads_of_all 0 set)) b.no_spread,
  )

  -- what an operation has at its end: first its variable definitions, and then its selections were read
  pub gathers_operation : (opened begun old : OutlineBuilder) (vs : Option (Variables Content))
      (set : Selections Content) (own : Complexity) → Begins opened
      → Gathers opened begun (λ _. only_directives (variable_directive_count vs)) (λ _. [])
      → Gathers begun old (λ l. own_of_all l set) (λ l. spreads_of_all l set)
      → own ≡ plus_capped old.own (capped_complexity counted)
      → (own ≡ capped_complexity (plus (operation_directives vs ds) (own_of_all 0 set)))
      × (map seen_spread old.spreads.items ≡ map capped_reference (spreads_of_all 0 set))
  gathers_operation opened begun old vs set own b v g e =
      let count = variable_directive_count vs in
      let both = gathers_both opened begun old _ _ _ _ v g in (
        sum_counted own old.own (plus nothing (plus (only_directives count) (own_of_all 0 set))) counted
            (directives_complexity ds) _ e (both.own_complexity 0 nothing b.no_field b.no_complexity) are
            (last_of_operation count (directive_count ds) (own_of_all 0 set)),
        both.own_spreads 0 b.no_field
            ∙ ap (λ (ss : List NamedSpread). map seen_spread ss ++ map capped_reference (spreads_of_all 0 set))
            b.no_spread,
      )
