-- Of two types that begin one list of tokens, the longer one is the shorter one and `!`.
use Rattle.std.specs.Prelude.{Option, None}
use Rattle.std.proofs.Common.{◌≡◌, ◌⊎◌, ℕ, List, [], ◌∷◌, ◌++◌, refl, sym, ap, ap₂, ◌∙◌, subst, inl, inr, append_assoc}
use Rattle.std.proofs.lemmas.List.{append_cancel_left}
use Rattle.graphql_lexical.specs.declared.kind.Kind.{Kind}
use Rattle.graphql_lexical.specs.declared.kind.Kind.TheVariants.{Name, BracketOpen, BracketClose, ExclamationMark}
use Rattle.graphql_lexical.specs.Cutting.{Lexeme}
use Rattle.graphql_lexical.specs.Parts.{◌·◌}
use Rattle.graphql_lexical.specs.Place.{Span}
use Rattle.graphql_grammar.specs.Tree.{TypeRef, NamedType, ListType, NonNullType}
use Rattle.graphql_grammar.specs.Grammar.{Is, IsType}
use Rattle.graphql_grammar.proofs.Public.{token_in}

-- what two types that begin one list have to do with each other
abbrev pub AreNested : TypeRef → TypeRef → List Lexeme → List Lexeme → Type 0
AreNested y z us vs = ((y ≡ z) × (us ≡ vs))
    ⊎ (((z ≡ NonNullType y) × ((m : Lexeme) × (m.kind ≡ ExclamationMark) × (vs ≡ us ++ m ∷ [])))
    ⊎ ((y ≡ NonNullType z) × ((m : Lexeme) × (m.kind ≡ ExclamationMark) × (us ≡ vs ++ m ∷ []))))

-- the first tokens of two lists that are one list
same_first : (t u : Lexeme) (ts us : List Lexeme) → t ∷ ts ≡ u ∷ us → (t ≡ u) × (ts ≡ us)
same_first t u ts us e = (cc, cc)

-- a list and another one after a front that is the same
same_rest : (us vs as' bs : List Lexeme) → us ≡ vs → us ++ as' ≡ vs ++ bs → as' ≡ bs
same_rest us vs as' bs same e = append_cancel_left vs as' bs (subst (λ (l : List Lexeme). l ++ as' ≡ vs ++ bs) same e)

-- tokens of different kinds are different
kinds_differ : {X : Type 0} (t u : Lexeme) (k l : Kind) → t.kind ≡ k → u.kind ≡ l → (k ≡ l → ⊥) → t ≡ u → X
kinds_differ t u k l a b none same = absurd (none (sym a ∙ ap (λ (x : Lexeme). x.kind) same ∙ b))

-- the parts of a list type's tokens
record InBrackets (of_type : TypeRef) (ts : List Lexeme) : Type 0 where
  pub opening : Lexeme
  pub inner : List Lexeme
  pub closing : Lexeme
  pub whole : ts ≡ opening ∷ inner ++ closing ∷ []
  pub opens : opening.kind ≡ BracketOpen
  pub closes : closing.kind ≡ BracketClose
  pub is_type : IsType of_type inner

in_brackets : (of_type : TypeRef) (ts : List Lexeme) → (Is BracketOpen · IsType of_type · Is BracketClose) ts
    → InBrackets of_type ts
in_brackets of_type ts h =
    let o = token_in BracketOpen h.front h.first in
    let c = token_in BracketClose h.second.back h.second.second in
    record {
      opening = o;
      inner = h.second.front;
      closing = c;
      whole = h.whole ∙ ap₂ (λ (l m : List Lexeme). l ++ m) h.first.2
          (h.second.whole ∙ ap (λ (l : List Lexeme). h.second.front ++ l) h.second.second.2);
      opens = refl;
      closes = refl;
      is_type = h.second.first;
    }

-- the tokens of a non-null type
record BeforeMark (of_type : TypeRef) (ts : List Lexeme) : Type 0 where
  pub inner : List Lexeme
  pub mark : Lexeme
  pub whole : ts ≡ inner ++ mark ∷ []
  pub marks : mark.kind ≡ ExclamationMark
  pub is_type : IsType of_type inner

before_mark : (of_type : TypeRef) (ts : List Lexeme) → (IsType of_type · Is ExclamationMark) ts → BeforeMark of_type ts
before_mark of_type ts h = record {
  inner = h.front;
  mark = token_in ExclamationMark h.back h.second;
  whole = h.whole ∙ ap (λ (l : List Lexeme). h.front ++ l) h.second.2;
  marks = refl;
  is_type = h.first;
}

-- two list types, by their items' types
lists_nested : (y z : TypeRef) (us vs as' bs : List Lexeme) (p : InBrackets y us) (q : InBrackets z vs)
    → us ++ as' ≡ vs ++ bs
    → (p.inner ++ p.closing ∷ as' ≡ q.inner ++ q.closing ∷ bs → AreNested y z p.inner q.inner) → (y ≡ z) × (us ≡ vs)
lists_nested y z us vs as' bs p q e inner =
    let left : us ++ as' ≡ p.opening ∷ (p.inner ++ p.closing ∷ as') =
    ap (λ (l : List Lexeme). l ++ as') p.whole
    ∙ ap (λ (l : List Lexeme). p.opening ∷ l) (append_assoc p.inner (p.closing ∷ []) as') in
    let right : vs ++ bs ≡ q.opening ∷ (q.inner ++ q.closing ∷ bs) =
    ap (λ (l : List Lexeme). l ++ bs) q.whole
    ∙ ap (λ (l : List Lexeme). q.opening ∷ l) (append_assoc q.inner (q.closing ∷ []) bs) in
    let first = same_first p.opening q.opening (p.inner ++ p.closing ∷ as') (q.inner ++ q.closing ∷ bs)
    (sym left ∙ e ∙ right) in
    elim (inner first.1) [
      | inl (item, same) ↦ (
        item,
        (let rest = same_first p.closing q.closing as' bs
            (same_rest p.inner q.inner (p.closing ∷ as') (q.closing ∷ bs) same first.1) in
            p.whole
            ∙ ap₂ (λ (o : Lexeme) (l : List Lexeme). o ∷ l) first.0
            (ap₂ (λ (l : List Lexeme) (c : Lexeme). l ++ c ∷ []) same rest.0) ∙ sym q.whole),
      )
      | inr (inl (_, (m, marks, longer))) ↦
          (let rest = append_cancel_left p.inner (p.closing ∷ as') (m ∷ (q.closing ∷ bs))
          (first.1 ∙ ap (λ (l : List Lexeme). l ++ q.closing ∷ bs) longer
          ∙ append_assoc p.inner (m ∷ []) (q.closing ∷ bs)) in
          kinds_differ p.closing m BracketClose ExclamationMark p.closes marks (λ k. absurd (cc k))
          (same_first p.closing m as' (q.closing ∷ bs) rest).0)
      | inr (inr (_, (m, marks, longer))) ↦
          (let rest = append_cancel_left q.inner (q.closing ∷ bs) (m ∷ (p.closing ∷ as'))
          (sym first.1 ∙ ap (λ (l : List Lexeme). l ++ p.closing ∷ as') longer
          ∙ append_assoc q.inner (m ∷ []) (p.closing ∷ as')) in
          kinds_differ q.closing m BracketClose ExclamationMark q.closes marks (λ k. absurd (cc k))
          (same_first q.closing m bs (p.closing ∷ as') rest).0)
    ]

-- a list after a non-null type's tokens
after_mark : (y : TypeRef) (us as' : List Lexeme) (p : BeforeMark y us) → us ++ as' ≡ p.inner ++ p.mark ∷ as'
after_mark y us as' p = ap (λ (l : List Lexeme). l ++ as') p.whole ∙ append_assoc p.inner (p.mark ∷ []) as'

-- a type and a non-null one around a nullable one: that is the same, with `!` after it
marked : (y z : TypeRef) (us vs : List Lexeme) (q : BeforeMark z vs) → (y ≡ z) × (us ≡ q.inner)
    → AreNested y (NonNullType z) us vs
marked y z us vs q same = inr (inl (
  ap NonNullType (sym same.0),
  (q.mark, q.marks, q.whole ∙ ap (λ (l : List Lexeme). l ++ q.mark ∷ []) (sym same.1)),
))

-- the other way round
nested_other : (y z : TypeRef) (us vs : List Lexeme) → AreNested y z us vs → AreNested z y vs us
nested_other y z us vs (inl (item, same)) = inl (sym item, sym same)
nested_other y z us vs (inr (inl longer)) = inr (inr longer)
nested_other y z us vs (inr (inr longer)) = inr (inl longer)

-- a named type and a list type begin with different tokens
name_no_list : {X : Type 0} (text : List ℕ) (span : Span) (z : TypeRef) (us vs as' bs : List Lexeme)
    → us ≡ record { kind = Name; text = text; span = span } ∷ [] → InBrackets z vs → us ++ as' ≡ vs ++ bs → X
name_no_list text span z us vs as' bs is q e =
    let n : Lexeme = record { kind = Name; text = text; span = span } in
    let left : us ++ as' ≡ n ∷ as' = ap (λ (l : List Lexeme). l ++ as') is in
    let right : vs ++ bs ≡ q.opening ∷ ((q.inner ++ q.closing ∷ []) ++ bs) = ap (λ (l : List Lexeme). l ++ bs) q.whole
    in
    kinds_differ n q.opening Name BracketOpen refl q.opens (λ k. absurd (cc k))
    (same_first n q.opening as' ((q.inner ++ q.closing ∷ []) ++ bs) (sym left ∙ e ∙ right)).0

-- a named type and a nullable one
names_same : (a b : List ℕ) (us vs as' bs : List Lexeme) → IsType (NamedType a) us → IsType (NamedType b) vs
    → us ++ as' ≡ vs ++ bs → (NamedType a ≡ NamedType b) × (us ≡ vs)
names_same a b us vs as' bs p q e =
    let n : Lexeme = record { kind = Name; text = a; span = p.0 } in
    let m : Lexeme = record { kind = Name; text = b; span = q.0 } in
    let left : us ++ as' ≡ n ∷ as' = ap (λ (l : List Lexeme). l ++ as') p.1 in
    let right : vs ++ bs ≡ m ∷ bs = ap (λ (l : List Lexeme). l ++ bs) q.1 in
    let same = (same_first n m as' bs (sym left ∙ e ∙ right)).0 in
    (ap (λ (t : Lexeme). NamedType t.text) same, p.1 ∙ ap (λ (t : Lexeme). t ∷ []) same ∙ sym q.1)

-- a list type, whatever its size is said to be, has none
sizeless : (size : Option ℕ) (y z : TypeRef) (other : Option ℕ) → size ≡ None → other ≡ None → y ≡ z
    → ListType size y ≡ ListType other z
sizeless size y z other a b e = ap₂ ListType (a ∙ sym b) e

pub types_nested : (y z : TypeRef) (us vs as' bs : List Lexeme) → IsType y us → IsType z vs → us ++ as' ≡ vs ++ bs
    → AreNested y z us vs
types_nested (NamedType a) (NamedType b) us vs as' bs p q e = inl (names_same a b us vs as' bs p q e)
types_nested (NamedType a) (ListType s z) us vs as' bs p q e = name_no_list a p.0 z us vs as' bs p.1
    (in_brackets z vs q.0) e
types_nested (NamedType a) (NonNullType (NamedType b)) us vs as' bs p q e =
    let m = before_mark (NamedType b) vs q.0 in
    marked (NamedType a) (NamedType b) us vs m
    (names_same a b us m.inner as' (m.mark ∷ bs) p m.is_type (e ∙ after_mark (NamedType b) vs bs m))
types_nested (NamedType a) (NonNullType (ListType s z)) us vs as' bs p q e =
    let m = before_mark (ListType s z) vs q.0 in
    name_no_list a p.0 z us m.inner as' (m.mark ∷ bs) p.1 (in_brackets z m.inner m.is_type.0)
    (e ∙ after_mark (ListType s z) vs bs m)
types_nested (NamedType a) (NonNullType (NonNullType z)) us vs as' bs p q e = absurd (q.1 z refl)
types_nested (ListType s y) (NamedType b) us vs as' bs p q e =
    name_no_list b q.0 y vs us bs as' q.1 (in_brackets y us p.0) (sym e)
types_nested (ListType s y) (ListType r z) us vs as' bs p q e =
    let l = in_brackets y us p.0 in
    let m = in_brackets z vs q.0 in
    let same = lists_nested y z us vs as' bs l m e
    (λ i. types_nested y z l.inner m.inner (l.closing ∷ as') (m.closing ∷ bs) l.is_type m.is_type i) in
    inl (sizeless s y z r p.1 q.1 same.0, same.1)
types_nested (ListType s y) (NonNullType (NamedType b)) us vs as' bs p q e =
    let m = before_mark (NamedType b) vs q.0 in
    name_no_list b m.is_type.0 y m.inner us (m.mark ∷ bs) as' m.is_type.1 (in_brackets y us p.0)
    (sym (e ∙ after_mark (NamedType b) vs bs m))
types_nested (ListType s y) (NonNullType (ListType r z)) us vs as' bs p q e =
    let m = before_mark (ListType r z) vs q.0 in
    let l = in_brackets y us p.0 in
    let k = in_brackets z m.inner m.is_type.0 in
    let same = lists_nested y z us m.inner as' (m.mark ∷ bs) l k (e ∙ after_mark (ListType r z) vs bs m)
    (λ i. types_nested y z l.inner k.inner (l.closing ∷ as') (k.closing ∷ (m.mark ∷ bs)) l.is_type k.is_type i) in
    marked (ListType s y) (ListType r z) us vs m (sizeless s y z r p.1 m.is_type.1 same.0, same.1)
types_nested (ListType s y) (NonNullType (NonNullType z)) us vs as' bs p q e = absurd (q.1 z refl)
types_nested (NonNullType y) (NonNullType z) us vs as' bs p q e =
    let l = before_mark y us p.0 in
    let m = before_mark z vs q.0 in
    elim (types_nested y z l.inner m.inner (l.mark ∷ as') (m.mark ∷ bs) l.is_type m.is_type
    (sym (after_mark y us as' l) ∙ e ∙ after_mark z vs bs m)) [
      | inl (item, same) ↦ inl (
        ap NonNullType item,
        (let rest = same_rest l.inner m.inner (l.mark ∷ as') (m.mark ∷ bs) same
            (sym (after_mark y us as' l) ∙ e ∙ after_mark z vs bs m) in
            l.whole
            ∙ ap₂ (λ (i : List Lexeme) (t : Lexeme). i ++ t ∷ []) same (same_first l.mark m.mark as' bs rest).0
            ∙ sym m.whole),
      )
      | inr (inl (item, _)) ↦ absurd (q.1 y item)
      | inr (inr (item, _)) ↦ absurd (p.1 z item)
    ]
types_nested (NonNullType y) (NamedType b) us vs as' bs p q e =
    let l = before_mark y us p.0 in
    elim (types_nested y (NamedType b) l.inner vs (l.mark ∷ as') bs l.is_type q (sym (after_mark y us as' l) ∙ e)) [
      | inl same ↦ nested_other (NamedType b) (NonNullType y) vs us
          (marked (NamedType b) y vs us l (sym same.0, sym same.1))
      | inr (inl (item, _)) ↦ absurd (cc item)
      | inr (inr (item, _)) ↦ absurd (p.1 (NamedType b) item)
    ]
types_nested (NonNullType y) (ListType r z) us vs as' bs p q e =
    let l = before_mark y us p.0 in
    elim (types_nested y (ListType r z) l.inner vs (l.mark ∷ as') bs l.is_type q (sym (after_mark y us as' l) ∙ e)) [
      | inl same ↦ nested_other (ListType r z) (NonNullType y) vs us
          (marked (ListType r z) y vs us l (sym same.0, sym same.1))
      | inr (inl (item, _)) ↦ absurd (cc item)
      | inr (inr (item, _)) ↦ absurd (p.1 (ListType r z) item)
    ]
