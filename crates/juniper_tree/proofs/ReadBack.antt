-- What is written is read back.
use Rattle.std.proofs.Common.{◌≡◌, refl, ap, ap₂, ◌∙◌, subst, ◌⊎◌, inl, inr, true, false, List, [], ◌∷◌, ◌++◌, Some, None}
use Rattle.std.specs.Prelude.{codes}
use Rattle.graphql_lexical.specs.declared.kind.Kind.{Kind}
use Rattle.graphql_lexical.specs.Place.{Span}
use Rattle.graphql_lexical.specs.declared.kind.Kind.TheVariants.{Name, String, Int, ExclamationMark, Dollar, BracketOpen, BracketClose, CurlyOpen, CurlyClose, Colon}
use Rattle.graphql_lexical.specs.Cutting.{Lexeme, Cut}
use Rattle.graphql_lexical.specs.Tokens.{IsName}
use Rattle.graphql_lexical.specs.laws.Written.{Bare, AreOf}
use Rattle.graphql_grammar.specs.Tokens.{Text, nowhere, span_of}
use Rattle.graphql_grammar.specs.Tree.{Value, Null, Scalar, Enum, Variable, ListOf, Object, Items, no_items, item, ObjectFields, no_fields, object_field, TypeRef, NamedType, ListType, NonNullType}
use Rattle.graphql_lexical.specs.Parts.{◌·◌}
use Rattle.graphql_grammar.specs.Grammar.{Token, Is, IsValue, AreItems, AreFields, IsType}
use Rattle.graphql_grammar.specs.Unlocated.{unlocated_value, unlocated_items, unlocated_fields}
use Rattle.graphql_grammar.proofs.Public.{IsNullable, name_nullable, list_nullable, row, row_as, row_map, row_front, row_back, token_is}
use Rattle.juniper_values.specs.Scalar.{Content, integer, text, boolean, custom}
use Rattle.juniper_values.specs.Default.{default_content, default_shown, plain_shown, text_in}
use Rattle.juniper_values.specs.ScalarDisplay.{scalar_display}
use Rattle.juniper_values.specs.View.{view}
use Rattle.juniper_values.specs.declared.default_scalar.DefaultScalarValue.{DefaultScalarValue}
use Rattle.juniper_values.specs.declared.input_value.InputValue.{InputValue}
use Rattle.juniper_values.proofs.Public.{view-replaced, text_replaced, integer_read_back, type_is_cut, value_is_cut, plain_unescaped}
use Rattle.juniper_values.specs.Display.{value_text}
use Rattle.juniper_values.specs.TypeLiteral.{type_text}
use Rattle.juniper_values.specs.ReadBack.{token, punctuation, opening_tokens, closing_tokens, wrapped_tokens, scalar_token, value_tokens, items_tokens, fields_tokens, IsPlainScalar, IsPlain, ArePlainItems, ArePlainFields}
use Rattle.juniper_values.specs.declared.type_literal.TypeModifier.{TypeModifier}
use Rattle.juniper_values.specs.declared.type_literal.TypeModifier.TheVariants.{NonNull, List as ListModifier}
use Rattle.juniper_tree.specs.View.{wrapped}
use Rattle.juniper_tree.specs.Scalars.{default_scalars}
use Rattle.juniper_tree.specs.ReadBack.{BeginsUnmarked, AreWritable, IsReadAsType, type_of, IsReadBack}

-- ---- parts of a list of tokens

abbrev AreTokens : List Bare → List Lexeme → Type 0
AreTokens bs ts = AreOf ts bs

-- tokens of a row of two parts
parted : (bs cs : List Bare) (ts : List Lexeme) → AreOf ts (bs ++ cs) → (AreTokens bs · AreTokens cs) ts
parted [] cs ts a = row [] ts tt a
parted (b ∷ bs) cs [] a = absurd a
parted (b ∷ bs) cs (t ∷ ts) a =
    let p = parted bs cs ts a.2 in
    record {
      front = t ∷ p.front;
      back = p.back;
      whole = ap (λ (us : List Lexeme). t ∷ us) p.whole;
      first = (a.0, a.1, p.first);
      second = p.second;
    }

-- one token, wherever it stands
one : (b : Bare) (ts : List Lexeme) → AreOf ts (b ∷ []) → (span : Span) × Token b.kind b.text span ts
one b [] a = absurd a
one b (t ∷ []) a = (t.span, token_is b.kind b.text t a.0 a.1)
one b (t ∷ u ∷ ts) a = absurd a.2

mark : (kind : Kind) (ts : List Lexeme) → AreOf ts (punctuation kind ∷ []) → Is kind ts
mark kind ts a = let o = one (punctuation kind) ts a in ((punctuation kind).text, o.0, o.1)

-- tokens between an opening and a closing one
between : (opening closing : Kind) (bs : List Bare) (ts : List Lexeme)
    → AreOf ts (punctuation opening ∷ (bs ++ punctuation closing ∷ []))
    → (Is opening · AreTokens bs · Is closing) ts
between opening closing bs ts a = row_map (mark opening)
    (λ us h. row_back (mark closing) us (parted bs (punctuation closing ∷ []) us h)) ts
    (parted (punctuation opening ∷ []) (bs ++ punctuation closing ∷ []) ts a)

-- ---- types

-- whatever has these tokens is this type
abbrev Mean : List Bare → TypeRef → Type 0
Mean bs type = (ts : List Lexeme) → AreOf ts bs → IsType type ts

named : (name : Text) → Mean (token Name name ∷ []) (NamedType name)
named name ts a = one (token Name name) ts a

marked : (bs : List Bare) (type : TypeRef) → IsNullable type → Mean bs type
    → Mean (bs ++ closing_tokens NonNull) (NonNullType type)
marked bs type n m ts a = (row_map m (mark ExclamationMark) ts (parted bs (closing_tokens NonNull) ts a), n)

listed : (bs : List Bare) (type : TypeRef) → Mean bs type
    → Mean (opening_tokens (ListModifier None) ++ (bs ++ closing_tokens (ListModifier None))) (ListType None type)
listed bs type m ts a =
    (row_back (row_front m) ts (between BracketOpen BracketClose bs ts a), refl)

-- an exclamation mark may follow, or does not
abbrev MayMark : TypeRef → List TypeModifier → Type 0
MayMark type ms = IsNullable type ⊎ BeginsUnmarked ms

means_type : (ms : List TypeModifier) (bs : List Bare) (type : TypeRef) → AreWritable ms → MayMark type ms
    → Mean bs type → Mean (wrapped_tokens bs ms) (wrapped type ms)
means_type [] bs type w may m = m
means_type (NonNull ∷ ms) bs type w (inl n) m =
    means_type ms (bs ++ closing_tokens NonNull) (NonNullType type) w.1 (inr w.0) (marked bs type n m)
means_type (NonNull ∷ ms) bs type w (inr n) m = absurd n
means_type (ListModifier None ∷ ms) bs type w may m =
    means_type ms (opening_tokens (ListModifier None) ++ (bs ++ closing_tokens (ListModifier None)))
    (ListType None type) w (inl (list_nullable None type)) (listed bs type m)
means_type (ListModifier (Some size) ∷ ms) bs type w may m = absurd w

pub type_read_back : (name : Text) (ms : List TypeModifier) → IsName name → AreWritable ms
    → IsReadAsType (type_text name ms) (type_of name ms)
type_read_back name ms n w =
    let c = type_is_cut name ms n in
    record {
      lexemes = c.lexemes;
      end = c.end;
      cut = c.cut;
      means = means_type ms (token Name name ∷ []) (NamedType name) w (inl (name_nullable name)) (named name)
          c.lexemes c.are;
    }

-- ---- values

-- the part between two tokens, taken for another one
inside : {O P R P' : List Lexeme → Type 0} {ts : List Lexeme} (h : (O · P · R) ts)
    → P' h.second.front → (O · P' · R) ts
inside h p = row_as h h.first (row_as h.second p h.second.second)

record IsBack (ts : List Lexeme) (v : Value Content) : Type 0 where
  tree : Value Content
  means : IsValue default_scalars true tree ts
  same : unlocated_value tree ≡ unlocated_value v

record AreItemsBack (ts : List Lexeme) (xs : Items Content) : Type 0 where
  trees : Items Content
  means : AreItems default_scalars true trees ts
  same : unlocated_items trees ≡ unlocated_items xs

record AreFieldsBack (ts : List Lexeme) (fs : ObjectFields Content) : Type 0 where
  trees : ObjectFields Content
  means : AreFields default_scalars true trees ts
  same : unlocated_fields trees ≡ unlocated_fields fs

scalar_back : (ts : List Lexeme) (s : Content) → IsPlainScalar s → AreOf ts (scalar_token s ∷ [])
    → IsValue default_scalars true (Scalar s) ts
scalar_back ts (integer n) h a = let o = one (scalar_token (integer n)) ts a in
    inl (Int, _, o.0, o.1, inr (inr (inr refl)), integer_read_back n h)
scalar_back ts (text t) h a = let o = one (scalar_token (text t)) ts a in
    inl (String, t, o.0, o.1, inl refl, rw (plain_unescaped t h) refl)
scalar_back ts (boolean true) h a = inr (inl (one (scalar_token (boolean true)) ts a, refl))
scalar_back ts (boolean false) h a = inr (inr (one (scalar_token (boolean false)) ts a, refl))
scalar_back ts (custom ns) h a = absurd h

mutual
  value_back : (v : Value Content) (ts : List Lexeme) → IsPlain v → AreOf ts (value_tokens v) → IsBack ts v
  value_back Null ts h a = record { tree = Null; means = one (token Name (codes "null")) ts a; same = refl }
  value_back (Scalar s) ts h a = record { tree = Scalar s; means = scalar_back ts s h a; same = refl }
  value_back (Enum t) ts h a = record {
    tree = Enum t;
    means = (one (token Name t) ts a, (h.not_true, h.not_false, h.not_null));
    same = refl;
  }
  value_back (Variable t) ts h a = record {
    tree = Variable t;
    means = (
      refl,
      row_map (mark Dollar) (one (token Name t)) ts (parted (punctuation Dollar ∷ []) (token Name t ∷ []) ts a),
    );
    same = refl;
  }
  value_back (ListOf xs) ts h a =
      let e = between BracketOpen BracketClose (items_tokens xs) ts a in
      let b = items_back xs e.second.front h e.second.first in
      record { tree = ListOf b.trees; means = inside e b.means; same = ap ListOf b.same }
  value_back (Object fs) ts h a =
      let e = between CurlyOpen CurlyClose (fields_tokens fs) ts a in
      let b = fields_back fs e.second.front h e.second.first in
      record { tree = Object b.trees; means = inside e b.means; same = ap Object b.same }

  items_back : (xs : Items Content) (ts : List Lexeme) → ArePlainItems xs → AreOf ts (items_tokens xs)
      → AreItemsBack ts xs
  items_back no_items [] h a = record { trees = no_items; means = refl; same = refl }
  items_back no_items (t ∷ ts) h a = absurd a
  items_back (item v s xs) ts h a =
      let p = parted (value_tokens v) (items_tokens xs) ts a in
      let b = value_back v p.front h.0 p.first in
      let m = items_back xs p.back h.1 p.second in
      record {
        trees = item b.tree (span_of p.front) m.trees;
        means = row_as p (b.means, refl) m.means;
        same = ap₂ (λ x xs. item x nowhere xs) b.same m.same;
      }

  fields_back : (fs : ObjectFields Content) (ts : List Lexeme) → ArePlainFields fs → AreOf ts (fields_tokens fs)
      → AreFieldsBack ts fs
  fields_back no_fields [] h a = record { trees = no_fields; means = refl; same = refl }
  fields_back no_fields (t ∷ ts) h a = absurd a
  fields_back (object_field k v s fs) ts h a =
      let f = parted (token Name k.item ∷ []) (punctuation Colon ∷ (value_tokens v ++ fields_tokens fs)) ts a in
      let g = parted (punctuation Colon ∷ []) (value_tokens v ++ fields_tokens fs) f.back f.second in
      let p = parted (value_tokens v) (fields_tokens fs) g.back g.second in
      let key = one (token Name k.item) f.front f.first in
      let b = value_back v p.front h.1 p.first in
      let m = fields_back fs p.back h.2 p.second in
      record {
        trees = object_field (record { item = k.item; span = key.0 }) b.tree (span_of p.front) m.trees;
        means = row_as f key.1 (row_as g (mark Colon g.front g.first) (row_as p (b.means, refl) m.means));
        same = ap₂ (λ x fs. object_field (record { item = k.item; span = nowhere }) x nowhere fs) b.same m.same;
      }

-- the display of an input value, by the contents of its scalars
shown_by_content : (v : InputValue DefaultScalarValue)
    → value_text plain_shown (view default_content v)
    ≡ value_text (scalar_display default_content text_in default_shown) (view (λ s. s) v)
shown_by_content v = ap (value_text plain_shown) (view-replaced default_content v)
    ∙ text_replaced default_content plain_shown (view (λ s. s) v)

pub value_read_back : (v : InputValue DefaultScalarValue) → IsPlain (view default_content v) → IsReadBack v
value_read_back v h =
    let seen : Value Content = view default_content v in
    let c = value_is_cut seen h in
    let b = value_back seen c.lexemes h c.are in
    record {
      lexemes = c.lexemes;
      end = c.end;
      tree = b.tree;
      cut = subst (λ (t : Text). Cut t (c.lexemes ++ c.end ∷ [])) (shown_by_content v) c.cut;
      means = b.means;
      same = b.same;
    }
