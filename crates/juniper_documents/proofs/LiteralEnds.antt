-- How a literal ends, and that its tokens have one meaning.
use Rattle.std.specs.Prelude.{◌≢◌, codes}
use Rattle.std.proofs.Common.{◌≡◌, ℕ, Bool, false, List, [], ◌∷◌, ◌++◌, length, refl, sym, ap, ap₂, ◌∙◌, subst, arith}
use Rattle.std.proofs.Common.{inl, inr, append_assoc, append-nil, length-append}
use Rattle.graphql_lexical.specs.declared.kind.Kind.{Kind}
use Rattle.graphql_lexical.specs.declared.kind.Kind.TheVariants.{BracketOpen, BracketClose, CurlyOpen, CurlyClose}
use Rattle.graphql_lexical.specs.declared.kind.Kind.TheVariants.{EndOfFile, ExclamationMark}
use Rattle.graphql_lexical.specs.Cutting.{Lexeme}
use Rattle.graphql_lexical.specs.Nesting.{is_opening}
use Rattle.graphql_lexical.specs.Parts.{◌·◌}
use Rattle.graphql_lexical.specs.Place.{Span}
use Rattle.graphql_grammar.specs.Tokens.{Text, Located}
use Rattle.graphql_grammar.specs.Tree.{Scalars, Value, Null, Scalar, Enum, Variable, ListOf, Object, TypeRef, NamedType}
use Rattle.graphql_grammar.specs.Tree.{ListType, NonNullType}
use Rattle.graphql_grammar.specs.Grammar.{Is, Says, IsScalarKind, IsLocated, IsValue, AreItems, AreFields, IsType}
use Rattle.graphql_grammar.specs.device.Productions.{symbol_at}
use Rattle.graphql_grammar.specs.device.Reading.{a_value, Took}
use Rattle.graphql_grammar.proofs.Public.{name_in, token_in, value_found}
use Rattle.juniper_documents.proofs.LiteralTokens.{same_last}
use Rattle.juniper_documents.proofs.TypePrefixes.{types_nested}

-- ---- the last token

-- the last token of a list is this one
last_is : (before ts : List Lexeme) (t u : Lexeme) → before ++ t ∷ [] ≡ ts → ts ≡ u ∷ [] → t ≡ u
last_is before ts t u e h = (same_last before [] t u (e ∙ h)).1

-- a literal may end in a token of this kind: it opens nothing and isn't the end
abbrev pub MayEnd : Kind → Type 0
MayEnd kind = (is_opening kind ≡ false) × (kind ≢ EndOfFile)

may_end : (t u : Lexeme) → t ≡ u → MayEnd u.kind → MayEnd t.kind
may_end t u e h = subst (λ (x : Lexeme). MayEnd x.kind) (sym e) h

says_last : (text : Text) (before : List Lexeme) (t : Lexeme) → Says text (before ++ t ∷ []) → MayEnd t.kind
says_last text before t h =
    may_end t (name_in text (before ++ t ∷ []) h) (last_is before _ t _ refl h.1) (refl, λ k. absurd (cc k))

-- the last of two parts is one token
part_last : (before : List Lexeme) (t u : Lexeme) (front back : List Lexeme)
    → before ++ t ∷ [] ≡ front ++ back → back ≡ u ∷ [] → t ≡ u
part_last before t u front back e h = (same_last before front t u (e ∙ ap (λ (l : List Lexeme). front ++ l) h)).1

-- the last of three
closing_last : (P Q : List Lexeme → Type 0) (kind : Kind) (before : List Lexeme) (t : Lexeme)
    → (P · Q · Is kind) (before ++ t ∷ []) → t.kind ≡ kind
closing_last P Q kind before t h =
    let c = token_in kind h.second.back h.second.second in
    ap (λ (x : Lexeme). x.kind)
    (part_last before t c (h.front ++ h.second.front) h.second.back
    (h.whole ∙ ap (λ (l : List Lexeme). h.front ++ l) h.second.whole
    ∙ sym (append_assoc h.front h.second.front h.second.back))
    h.second.second.2)

scalar_ends : (k : Kind) → IsScalarKind k → MayEnd k
scalar_ends k (inl e) = subst MayEnd (sym e) (refl, λ k. absurd (cc k))
scalar_ends k (inr (inl e)) = subst MayEnd (sym e) (refl, λ k. absurd (cc k))
scalar_ends k (inr (inr (inl e))) = subst MayEnd (sym e) (refl, λ k. absurd (cc k))
scalar_ends k (inr (inr (inr e))) = subst MayEnd (sym e) (refl, λ k. absurd (cc k))

-- the closing token of a list, an object or a list type
closes : (P Q : List Lexeme → Type 0) (kind : Kind) → MayEnd kind → (before : List Lexeme) (t : Lexeme)
    → (P · Q · Is kind) (before ++ t ∷ []) → MayEnd t.kind
closes P Q kind may before t h = subst MayEnd (sym (closing_last P Q kind before t h)) may

module _ {C F : Type 0} (S : Scalars C F) (free : Bool) where
  item_last : (before : List Lexeme) (t : Lexeme) (v : Value C) → IsValue S free v (before ++ t ∷ [])
      → MayEnd t.kind
  item_last before t Null h = says_last (codes "null") before t h
  item_last before t (Scalar c) (inl (kind, text, span, is, scalar, read)) =
      may_end t (record { kind = kind; text = text; span = span }) (last_is before _ t _ refl is)
      (scalar_ends kind scalar)
  item_last before t (Scalar c) (inr (inl h)) = says_last (codes "true") before t h.0
  item_last before t (Scalar c) (inr (inr h)) = says_last (codes "false") before t h.0
  item_last before t (Enum name) h = says_last name before t h.0
  item_last before t (Variable name) h =
      may_end t (name_in name h.1.back h.1.second)
      (part_last before t (name_in name h.1.back h.1.second) h.1.front h.1.back h.1.whole h.1.second.1)
      (refl, λ k. absurd (cc k))
  item_last before t (ListOf values) h =
      closes (Is BracketOpen) (AreItems S free values) BracketClose (refl, λ k. absurd (cc k)) before t h
  item_last before t (Object fields) h =
      closes (Is CurlyOpen) (AreFields S free fields) CurlyClose (refl, λ k. absurd (cc k)) before t h

  pub value_last : (before : List Lexeme) (t : Lexeme) (v : Located (Value C))
      → IsLocated (IsValue S free) v (before ++ t ∷ []) → MayEnd t.kind
  value_last before t v h = item_last before t v.item h.0

  -- ---- one meaning, and no longer one

  abbrev found : (n : ℕ) (ts rest : List Lexeme) (v : Located (Value C)) → Type 0
  found n ts rest v = symbol_at S n (Located (Value C)) (a_value free) (ts ++ rest) ≡ Took v rest

  found_here : (ts rest : List Lexeme) (v : Located (Value C)) → IsLocated (IsValue S free) v ts
      → found (length (ts ++ rest)) ts rest v
  found_here ts rest v h =
      value_found S free (length (ts ++ rest)) ts rest v (let l = length-append ts rest in omega (arith, l)) h

  pub one_value : (ts : List Lexeme) (v w : Located (Value C)) → IsLocated (IsValue S free) v ts
      → IsLocated (IsValue S free) w ts → v ≡ w
  one_value ts v w h k =
      let both : Took v [] ≡ Took w [] = sym (found_here ts [] v h) ∙ found_here ts [] w k in cc both

  pub no_longer_value : (taken more : List Lexeme) (t : Lexeme) (v w : Located (Value C))
      → IsLocated (IsValue S free) v taken → IsLocated (IsValue S free) w (taken ++ t ∷ more) → ⊥
  no_longer_value taken more t v w h k =
      let whole = taken ++ t ∷ more in
      let longer : symbol_at S (length (whole ++ [])) (Located (Value C)) (a_value free) (whole ++ [])
      ≡ symbol_at S (length whole) (Located (Value C)) (a_value free) whole =
      ap (λ (l : List Lexeme). symbol_at S (length l) (Located (Value C)) (a_value free) l) (append-nil whole) in
      let both : Took v (t ∷ more) ≡ Took w [] =
      sym (found_here taken (t ∷ more) v h) ∙ sym longer ∙ found_here whole [] w k in
      absurd (cc both)

-- ---- types

pub type_last : (before : List Lexeme) (t : Lexeme) (x : TypeRef) → IsType x (before ++ t ∷ []) → MayEnd t.kind
type_last before t (NamedType name) h = says_last name before t h
type_last before t (ListType size of_type) h =
    closes (Is BracketOpen) (IsType of_type) BracketClose (refl, λ k. absurd (cc k)) before t h.0
type_last before t (NonNullType of_type) h =
    let mark = token_in ExclamationMark h.0.back h.0.second in
    may_end t mark (part_last before t mark h.0.front h.0.back h.0.whole h.0.second.2) (refl, λ k. absurd (cc k))

same_length : (us vs : List Lexeme) (m : Lexeme) → us ≡ vs → vs ≡ us ++ m ∷ [] → ⊥
same_length us vs m e h =
    absurd (omega (arith, ap length e, ap length h, length-append us (m ∷ [])))

pub one_type : (ts : List Lexeme) (x y : TypeRef) → IsType x ts → IsType y ts → x ≡ y
one_type ts x y h k = elim (types_nested x y ts ts [] [] h k refl) [
  | inl same ↦ same.0
  | inr (inl (_, (m, _, longer))) ↦ absurd (same_length ts ts m refl longer)
  | inr (inr (_, (m, _, longer))) ↦ absurd (same_length ts ts m refl longer)
]

pub one_located_type : (ts : List Lexeme) (x y : Located TypeRef) → IsLocated IsType x ts → IsLocated IsType y ts
    → x ≡ y
one_located_type ts x y h k =
    ap₂ (λ (i : TypeRef) (s : Span). record { item = i; span = s }) (one_type ts x.item y.item h.0 k.0) (h.1 ∙ sym k.1)

-- a longer type has one token more
pub longer_type : (taken more : List Lexeme) (t : Lexeme) (x y : TypeRef) → IsType x taken
    → IsType y (taken ++ t ∷ more)
    → more ≡ []
longer_type taken more t x y h k =
    let whole : (taken ++ t ∷ more) ≡ taken ++ t ∷ more = refl in
    elim (types_nested x y taken (taken ++ t ∷ more) (t ∷ more) [] h k (sym (append-nil (taken ++ t ∷ more)))) [
      | inl (_, same) ↦ absurd (omega (arith, ap length same, length-append taken (t ∷ more)))
      | inr (inl (_, (m, _, longer))) ↦ no_more more
          (omega (arith, ap length longer, length-append taken (t ∷ more), length-append taken (m ∷ [])))
      | inr (inr (_, (m, _, longer))) ↦ absurd (omega (
        arith,
        ap length longer,
        length-append (taken ++ t ∷ more) (m ∷ []),
        length-append taken (t ∷ more),
      ))
    ]
  where
    no_more : (l : List Lexeme) → length l ≡ 0 → l ≡ []
    no_more [] e = refl
    no_more (u ∷ us) e = absurd (omega (arith, e))
