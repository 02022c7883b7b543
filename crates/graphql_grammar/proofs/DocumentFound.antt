-- What is in the grammar of documents is read.
use Rattle.std.proofs.Common.{ℕ, zero, suc, true, false, ◌≡◌, ◌≤◌, ◌<◌, ◌+◌, ◌∷◌, [], List, ◌++◌, length, refl, sym, ap, ◌∙◌, arith, le_refl, append_assoc, length-append, Option, Some, None, Bool, subst}
use Rattle.graphql_lexical.specs.Place.{Span}
use Rattle.graphql_lexical.specs.declared.kind.Kind.TheVariants.{Name, ExclamationMark, Dollar, ParenOpen, ParenClose, BracketOpen, BracketClose, Equals, At}
use Rattle.graphql_lexical.specs.Cutting.{Lexeme}
use Rattle.graphql_grammar.specs.Tokens.{Text, Located, over, from_to, span_of}
use Rattle.graphql_grammar.specs.device.Reading.{Test, passes, of, Took, Reader, seq, want, repeated, a_type}
use Rattle.graphql_grammar.specs.device.Productions as productions
use Rattle.graphql_grammar.specs.device.Productions.{named_type, list_type, nullable_type, non_null, argument, arguments_inner, arguments, directive, directives, directives_of, default, variable_definition, variables_inner, variables, symbol_at, reads}
use Rattle.graphql_grammar.specs.Tree.{Scalars, Value, TypeRef, NamedType, ListType, NonNullType, Argument, Arguments, Directive, VariableDefinition, Variables, Directives}
use Rattle.graphql_lexical.specs.Parts.{◌·◌}
use Rattle.graphql_grammar.specs.Grammar.{IsLocated, Is, Each, Optional, IsType, IsVariable, IsArgument, IsArguments, IsDirective, IsDirectives, IsDefault, IsVariableDefinition, IsVariables, Over}
use Rattle.graphql_grammar.proofs.Sequences.{row, row_as, one_takes, last_joined, nothing_last, kind_is, is_takes, says_takes, front_takes, back_takes}
use Rattle.graphql_grammar.proofs.Finds.{located_front, between_found, on_found, only_before, Only, Any, NotAt, token, Finds, Before, StartsWith, is_starts, front_starts, word_starts, listed_starts, Rejects, starts_before, nothing_before, optional_before, both_before, before_as, front_before, any_before, at_most, fewer, found_as, found_if, found_is, map_found, on_apart, look_apart, look_found, none_found, seq_found, then_found, seq_past, want_found, word_found, done_found, is_then, span_found, maybe_found, listed_found}
use Rattle.graphql_grammar.proofs.Found.{variable_tokens, value_finds}
use Rattle.graphql_grammar.proofs.DocumentRules.{IsNullable, name_nullable, list_nullable, argument_takes, directive_takes, variable_takes}
use Rattle.graphql_grammar.proofs.TokenTests.{of_kind}

-- ---- types

pub type_starts : (ts : List Lexeme) (x : TypeRef) → IsType x ts → 0 < length ts
type_starts ts (NamedType w) h = says_takes w ts h
type_starts ts (ListType size x) h = front_takes (is_takes BracketOpen) ts h.0
type_starts ts (NonNullType x) h = back_takes (is_takes ExclamationMark) ts h.0

abbrev typed : TypeRef → Span → Located TypeRef
typed x p = record { item = x; span = p }

-- a type, and its span
abbrev pub IsTypeAt : TypeRef → Span → List Lexeme → Type 0
IsTypeAt x p ts = IsType x ts × (p ≡ span_of ts)

-- the span of one or more tokens and another
marked_span : (us : List Lexeme) (m : Lexeme) → 0 < length us → from_to (span_of us) m.span ≡ span_of (us ++ (m ∷ []))
marked_span [] m l = absurd (omega arith)
marked_span (t ∷ us) m l = ap (over t) (sym (last_joined t m us []))

-- Where a front is a type, it is read, and an exclamation mark after it with it.
abbrev pub Covers : {F : Type 0} → Reader F (Located TypeRef) → List Lexeme → List Lexeme → Type 0
Covers f us vs = (a : Located TypeRef) × (more rest : List Lexeme) × (f (us ++ vs) ≡ Took a rest) × (vs ≡ more ++ rest)

module _ {C F : Type 0} (S : Scalars C F) where
  module _ (n : ℕ) (ih : (x : TypeRef) (p : Span)
      → Finds (suc n) (symbol_at S n _ a_type) (IsTypeAt x p) (NotAt (of ExclamationMark)) (typed x p)) where
    one_name_found : {After : List Lexeme → Type 0} (w : Text) (q : Span)
        → Finds (suc (suc n)) (reads S n nullable_type) (Only (token Name w q)) After (typed (NamedType w) q)
    unfolding nullable_type named_type
    one_name_found w q = look_found Name _ (λ us k. (w, q, [], k))
        (map_found _ (want_found (of Name) (token Name w q) refl))

    inner_found : {After : List Lexeme → Type 0} (x : TypeRef) (p : Span)
        → Finds (suc (suc n)) (reads S n nullable_type)
        (λ ts. (Is BracketOpen · IsType x · Is BracketClose) ts × (p ≡ span_of ts)) After (typed (ListType None x) p)
    unfolding nullable_type list_type
    inner_found x p = look_apart (of Name) _
        (starts_before (of Name) (λ w. refl) (λ ts h. front_starts is_starts ts h.0))
        (between_found (λ q. typed (ListType None x) q) p (λ w y q r.
        seq_past _ (λ us h. one_takes us _ h) (want_found (of BracketOpen) (token BracketOpen w q) refl) any_before
        (located_front (λ m. seq_found _ (ih x m) (only_before (of ExclamationMark) refl)
        (map_found _ (want_found (of BracketClose) (token BracketClose y r) refl))))))

    plain_found : {After : List Lexeme → Type 0} (x : TypeRef) (p : Span) → IsNullable x
        → Finds (suc (suc n)) (reads S n nullable_type) (IsTypeAt x p) After (typed x p)
    plain_found {After} (NamedType w) p d = record {
      at = λ ts rest le h g. (one_name_found {After = After} w h.0.0).at ts rest le h.0.1 g
          ∙ ap (λ z. Took (typed (NamedType w) z) rest) (sym (h.1 ∙ ap span_of h.0.1));
    }
    plain_found {After} (ListType size x) p d = record {
      at = λ ts rest le h g. rw h.0.1 ((inner_found {After = After} x p).at ts rest le (h.0.0, h.1) g);
    }
    plain_found (NonNullType x) p d = absurd (d x refl)

    nullable_found : (x : TypeRef) (p : Span) → IsNullable x
        → Finds (suc (suc n)) (symbol_at S (suc n) _ a_type) (IsTypeAt x p) (NotAt (of ExclamationMark)) (typed x p)
    unfolding symbol_at productions.type non_null
    nullable_found x p d = found_as nothing_last (then_found _ (plain_found x p d)
        (on_apart (of ExclamationMark) _ (nothing_before (λ rest g. g)) done_found))

    -- A type that ends in an exclamation mark is read, whatever follows.
    mark_found : {After : List Lexeme → Type 0} (x : TypeRef) (p : Span)
        → Finds (suc (suc n)) (symbol_at S (suc n) _ a_type) (IsTypeAt (NonNullType x) p) After (typed (NonNullType x) p)
    unfolding symbol_at productions.type non_null
    mark_found {After} x p = record {
      at = λ ts rest le h g.
          let s = h.0.0 in let q : Span = span_of s.front in
          let m = token ExclamationMark s.second.0 s.second.1 in
          (then_found _ {After = After} (plain_found x q h.0.1)
          (found_as (nothing_last {P = Only m}) (on_found (of ExclamationMark) m _ _ refl done_found))).at ts rest le
          (row_as s (s.first, refl) s.second.2) g
          ∙ ap (λ z. Took (typed (NonNullType x) z) rest) (marked_span s.front m (type_starts s.front x s.first)
          ∙ ap span_of (sym (s.whole ∙ ap (λ us. s.front ++ us) s.second.2)) ∙ sym h.1);
    }

  pub type_finds : (n : ℕ) (x : TypeRef) (p : Span)
      → Finds (suc n) (symbol_at S n _ a_type) (IsTypeAt x p) (NotAt (of ExclamationMark)) (typed x p)
  type_finds zero x p = none_found (λ ts h. type_starts ts x h.0)
  type_finds (suc n) (NamedType w) p = nullable_found n (type_finds n) (NamedType w) p (name_nullable w)
  type_finds (suc n) (ListType size x) p = nullable_found n (type_finds n) (ListType size x) p (list_nullable size x)
  type_finds (suc n) (NonNullType x) p = mark_found n (type_finds n) x p

  pub type_found : (n : ℕ) (ts rest : List Lexeme) (x : TypeRef) (p : Span) → length ts ≤ n → IsType x ts
      → p ≡ span_of ts → NotAt (of ExclamationMark) rest → symbol_at S n _ a_type (ts ++ rest) ≡ Took (typed x p) rest
  type_found n ts rest x p le h e g = (type_finds n x p).at ts rest (omega arith) (h, e) g

  non_null_finds : (n : ℕ) (x : TypeRef) (p : Span)
      → Finds (suc n) (symbol_at S n _ a_type) (IsTypeAt (NonNullType x) p) Any (typed (NonNullType x) p)
  non_null_finds zero x p = none_found (λ ts h. type_starts ts (NonNullType x) h.0)
  non_null_finds (suc n) x p = mark_found n (type_finds n) x p

  pub type_covers : (us vs : List Lexeme) (x : TypeRef) → IsType x us → (n : ℕ) → length (us ++ vs) < n
      → Covers (symbol_at S n _ a_type) us vs
  type_covers us vs x h n le = by_test vs refl
    where
      fits : (ws : List Lexeme) → vs ≡ ws → length us + length ws < n
      fits ws e = let l = ap (λ (z : List Lexeme). length (us ++ z)) e ∙ length-append us ws in omega (arith, l)

      with_mark : (mark : Lexeme) (ws : List Lexeme) → vs ≡ mark ∷ ws → mark.kind ≡ ExclamationMark → (y : TypeRef)
          → IsNullable y → IsType y us → Covers (symbol_at S n _ a_type) us (mark ∷ ws)
      with_mark mark ws e k y p h = (
        typed (NonNullType y) (span_of (us ++ (mark ∷ []))),
        mark ∷ [],
        ws,
        ap (symbol_at S n _ a_type) (sym (append_assoc us (mark ∷ []) ws))
            ∙ (non_null_finds n y (span_of (us ++ (mark ∷ [])))).at (us ++ (mark ∷ [])) ws
            (let l = fits (mark ∷ ws) e in rw (length-append us (mark ∷ [])) (omega (arith, l)))
            ((row us (mark ∷ []) h (kind_is ExclamationMark mark k), p), refl) tt,
        refl,
      )

      marked : (mark : Lexeme) (ws : List Lexeme) → vs ≡ mark ∷ ws → mark.kind ≡ ExclamationMark → (y : TypeRef)
          → IsType y us → Covers (symbol_at S n _ a_type) us (mark ∷ ws)
      marked mark ws e k (NonNullType y) h = (
        typed (NonNullType y) (span_of us),
        [],
        mark ∷ ws,
        (non_null_finds n y (span_of us)).at us (mark ∷ ws) (let l = fits (mark ∷ ws) e in omega (arith, l)) (h, refl)
            tt,
        refl,
      )
      marked mark ws e k (NamedType w) h = with_mark mark ws e k (NamedType w) (name_nullable w) h
      marked mark ws e k (ListType size y) h = with_mark mark ws e k (ListType size y) (list_nullable size y) h

      plain : (ws : List Lexeme) → vs ≡ ws → NotAt (of ExclamationMark) ws → Covers (symbol_at S n _ a_type) us ws
      plain ws e g = (
        typed x (span_of us),
        [],
        ws,
        type_found n us ws x (span_of us) (let l = fits ws e in omega (arith, l)) h refl g,
        refl,
      )

      by_mark : (t : Lexeme) (ws : List Lexeme) (b : Bool) → vs ≡ t ∷ ws → passes (of ExclamationMark) t ≡ b
          → Covers (symbol_at S n _ a_type) us (t ∷ ws)
      by_mark t ws true e p = marked t ws e (of_kind ExclamationMark t p) x h
      by_mark t ws false e p = plain (t ∷ ws) e p

      by_test : (ws : List Lexeme) → vs ≡ ws → Covers (symbol_at S n _ a_type) us vs
      by_test [] e = subst (Covers (symbol_at S n _ a_type) us) (sym e) (plain [] e tt)
      by_test (t ∷ ws) e = subst (Covers (symbol_at S n _ a_type) us) (sym e)
          (by_mark t ws (passes (of ExclamationMark) t) e refl)

-- "$" and a name, and then what may name the two tokens
dollar_then : {F A : Type 0} {n : ℕ} {Q After : List Lexeme → Type 0} {a : A} (k : Lexeme → Lexeme → Reader F A)
    (w : Text) (p : Span)
    → ((x : Text) (q s : Span) → p ≡ record { start = q.start; end = s.end }
    → Finds n (k (token Dollar x q) (token Name w s)) Q After a)
    → Finds n (seq (want (of Dollar)) (λ d. seq (want (of Name)) (k d))) (Over p (IsVariable w) · Q) After a
dollar_then k w p found = record {
  at = λ ts rest le h g.
      let (x, q, s, pair, span) = variable_tokens h.front w p h.first in
      let d = token Dollar x q in let t = token Name w s in
      let f = then_found _ (want_found (of Dollar) d refl) (then_found (k d) (want_found (of Name) t refl)
      (found x q s span)) in
      f.at ts rest le (record {
        front = d ∷ [];
        back = t ∷ h.back;
        whole = h.whole ∙ ap (λ us. us ++ h.back) pair;
        first = refl;
        second = row (t ∷ []) h.back refl h.second;
      }) g;
}

-- ---- how parts begin, and what may follow them

-- after directives
abbrev pub AfterDirectives : List Lexeme → Type 0
AfterDirectives rest = record { paren : NotAt (of ParenOpen) rest; at : NotAt (of At) rest }

-- after a variable definition
abbrev AfterVariable : List Lexeme → Type 0
AfterVariable rest = record {
  mark : NotAt (of ExclamationMark) rest;
  equals : NotAt (of Equals) rest;
  at : NotAt (of At) rest;
  paren : NotAt (of ParenOpen) rest;
}

module _ {C F : Type 0} (S : Scalars C F) where
  argument_starts : (ts : List Lexeme) (a : Argument C) → IsArgument S a ts → StartsWith Name ts
  argument_starts ts a h = front_starts (λ us w. word_starts us a.name w) ts h

  pub arguments_start : (ts : List Lexeme) (a : Arguments C) → IsArguments S a ts → StartsWith ParenOpen ts
  arguments_start ts a h = listed_starts ParenClose (IsArgument S) ts a.item h.0

  pub arguments_before : {After : List Lexeme → Type 0} (test : Test) (x : Option (Arguments C))
      → Rejects test ParenOpen → ((rest : List Lexeme) → After rest → NotAt test rest)
      → Before (Optional (IsArguments S) x) After (NotAt test)
  arguments_before test x d s = optional_before x (λ a. starts_before test d (λ ts h. arguments_start ts a h)) s

  directive_starts : (ts : List Lexeme) (d : Located (Directive C)) → IsLocated (IsDirective S) d ts → StartsWith At ts
  directive_starts ts d h = front_starts is_starts ts h.0

  pub directives_before : {After : List Lexeme → Type 0} (test : Test) (ds : Directives C) → Rejects test At
      → ((rest : List Lexeme) → After rest → NotAt test rest) → Before (IsDirectives S ds) After (NotAt test)
  directives_before test None d s = nothing_before s
  directives_before test (Some []) d s = record { at = λ ts rest h g. absurd (h.1 refl) }
  directives_before test (Some (x ∷ ds)) d s =
      before_as (λ ts h. h.0) (front_before (starts_before test d (λ ts h. directive_starts ts x h)))

  default_starts : (ts : List Lexeme) (v : Located (Value C)) → IsDefault S v ts → StartsWith Equals ts
  default_starts ts v h = front_starts is_starts ts h

  variable_starts : (ts : List Lexeme) (v : VariableDefinition C) → IsVariableDefinition S v ts → StartsWith Dollar ts
  variable_starts ts v h = front_starts (λ us k. front_starts is_starts us k.0) ts h

  pub variables_start : (ts : List Lexeme) (a : Variables C) → IsVariables S a ts → StartsWith ParenOpen ts
  variables_start ts a h = listed_starts ParenClose (IsVariableDefinition S) ts a.item h.0

  pub variables_before : {After : List Lexeme → Type 0} (test : Test) (x : Option (Variables C))
      → Rejects test ParenOpen → ((rest : List Lexeme) → After rest → NotAt test rest)
      → Before (Optional (IsVariables S) x) After (NotAt test)
  variables_before test x d s = optional_before x (λ a. starts_before test d (λ ts h. variables_start ts a h)) s

module _ {C F : Type 0} (S : Scalars C F) (n : ℕ) where
  -- ---- arguments and directives

  argument_found : (a : Argument C) → Finds n (reads S n argument) (IsArgument S a) Any a
  unfolding argument
  argument_found a = then_found _ (word_found a.name)
      (is_then (map_found _ (fewer (value_finds S true n a.value))))

  pub arguments_found : (a : Arguments C) → Finds n (reads S n arguments) (IsArguments S a) Any a
  unfolding arguments arguments_inner
  arguments_found a = span_found _ a.span (listed_found ParenClose (argument_takes S n n (le_refl n)) argument_found
      (λ x. starts_before (of ParenClose) (λ w. refl) (λ ts h. argument_starts S ts x h)) (λ x. any_before)
      (λ w p rest. tt) ParenOpen (λ xs p. record { item = xs; span = p }) a.item)

  pub optional_arguments : (x : Option (Arguments C))
      → Finds n (reads S n productions.optional_arguments) (Optional (IsArguments S) x) (NotAt (of ParenOpen)) x
  unfolding productions.optional_arguments
  optional_arguments x = maybe_found ParenOpen x (arguments_start S) arguments_found

  directive_found : (d : Located (Directive C)) → Finds n (reads S n directive) (IsLocated (IsDirective S) d) (NotAt (of ParenOpen)) d
  unfolding directive
  directive_found d = span_found _ d.span (is_then (then_found _ (word_found d.item.name)
      (map_found _ (optional_arguments d.item.arguments))))

  repeated_found : (k : ℕ) → k ≤ n → (ds : List (Located (Directive C)))
      → Finds k (repeated (of At) (reads S n directive) k) (Each (IsLocated (IsDirective S)) ds) AfterDirectives ds
  unfolding repeated
  repeated_found zero l ds = record { at = λ ts rest le h g. absurd (omega arith) }
  repeated_found (suc k) l [] = look_apart (of At) _ (nothing_before (λ rest g. g.at)) done_found
  repeated_found (suc k) l (d ∷ ds) = look_found At _ (front_starts (λ us h. directive_starts S us d h))
      (seq_past _ (λ us h. directive_takes S n n (le_refl n) us d h) (at_most l (directive_found d)) (next ds)
      (map_found (λ xs. d ∷ xs) (repeated_found k (omega arith) ds)))
    where
      next : (ds : List (Located (Directive C))) → Before (Each (IsLocated (IsDirective S)) ds) AfterDirectives (NotAt (of ParenOpen))
      next [] = nothing_before (λ rest g. g.paren)
      next (x ∷ xs) = front_before (starts_before (of ParenOpen) (λ w. refl) (λ ts h. directive_starts S ts x h))

  pub directives_found : (ds : Directives C) → Finds n (reads S n directives) (IsDirectives S ds) AfterDirectives ds
  unfolding directives
  directives_found None = map_found directives_of (repeated_found n (le_refl n) [])
  directives_found (Some []) = record { at = λ ts rest le h g. absurd (h.1 refl) }
  directives_found (Some (d ∷ ds)) = found_as (λ us h. h.0)
      (map_found directives_of (repeated_found n (le_refl n) (d ∷ ds)))

  -- ---- variable definitions

  default_found : (v : Option (Located (Value C)))
      → Finds n (reads S n default) (Optional (IsDefault S) v) (NotAt (of Equals)) v
  unfolding default
  default_found None = look_apart (of Equals) _ (nothing_before (λ rest g. g)) done_found
  default_found (Some v) = look_found Equals _ (λ ts h. default_starts S ts v h)
      (is_then (map_found (λ x. Some x) (fewer (found_if (λ rest g. tt) (value_finds S false n v)))))

  variable_found : (v : VariableDefinition C)
      → Finds n (reads S n variable_definition) (IsVariableDefinition S v) AfterVariable v
  unfolding variable_definition
  variable_found v = dollar_then _ v.name.item v.name.span (λ x q s e.
      found_is (ap (λ z. record v { name = record { item = v.name.item; span = z } }) (sym e))
      (is_then (seq_found _ (fewer (type_finds S n v.of_type.item v.of_type.span))
      (both_before (optional_before v.default
      (λ x. starts_before (of ExclamationMark) (λ w. refl) (λ ts h. default_starts S ts x h)) (λ rest g. g))
      (directives_before S (of ExclamationMark) v.directives (λ w. refl) (λ rest g. g.mark)))
      (seq_found _ (default_found v.default)
      (directives_before S (of Equals) v.directives (λ w. refl) (λ rest g. g.equals))
      (found_if (λ rest g. record { paren = g.paren; at = g.at }) (map_found (λ ds. record {
        name = record { item = v.name.item; span = record { start = q.start; end = s.end } };
        of_type = v.of_type;
        default = v.default;
        directives = ds;
      }) (directives_found v.directives)))))))

  pub variables_found : (a : Variables C) → Finds n (reads S n variables) (IsVariables S a) Any a
  unfolding variables variables_inner
  variables_found a = span_found _ a.span (listed_found ParenClose (variable_takes S n n (le_refl n)) variable_found
      (λ x. starts_before (of ParenClose) (λ w. refl) (λ ts h. variable_starts S ts x h))
      (λ x. record {
        at = λ ts rest h g. rw (variable_starts S ts x h).3
            (record { mark = refl; equals = refl; at = refl; paren = refl });
      })
      (λ w p rest. record { mark = refl; equals = refl; at = refl; paren = refl })
      ParenOpen (λ xs p. record { item = xs; span = p }) a.item)
