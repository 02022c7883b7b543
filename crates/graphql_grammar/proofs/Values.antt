-- What the reading of a value keeps.
use Rattle.std.proofs.Common.{ℕ, zero, suc, Bool, true, false, ◌≡◌, ◌≤◌, ◌<◌, ◌∷◌, [], List, length, refl, sym, ap, ap₂, ◌∙◌, arith, append-nil, subst, Result, Ok, Err, zero-le, le_refl, codes, inl, inr, cond, bytes_eq, if◌then◌else◌}
use Rattle.graphql_lexical.specs.declared.kind.Kind.TheVariants.{Name, Dollar, BracketOpen, BracketClose, CurlyOpen, CurlyClose, Colon}
use Rattle.graphql_lexical.specs.Cutting.{Lexeme}
use Rattle.graphql_lexical.specs.laws.Alike.{Alike}
use Rattle.graphql_grammar.specs.Tokens.{Word, word_of, Text, over, Located}
use Rattle.graphql_grammar.specs.Samples.{sample, token_of}
use Rattle.graphql_grammar.specs.device.Reading.{passes, of, Took, Refused, refuse, want, literal, read_as, scalar_token, a_value}
use Rattle.graphql_grammar.specs.device.Productions.{by_name, variable_start, variable, list, key_and_value, object, value, symbol_at, reads}
use Rattle.graphql_grammar.specs.Tree.{Scalars, Value, Null, Scalar, Enum, Variable, ListOf, Object, no_items, no_fields, items_of, fields_of}
use Rattle.graphql_lexical.specs.Parts.{◌·◌}
use Rattle.graphql_grammar.specs.Grammar.{IsScalarKind, Is, IsWord, IsValue, AreItems, AreFields, Each, IsLocated, Says}
use Rattle.graphql_grammar.proofs.Sequences.{row, row_back, row_right, enclosed, over_enclosed, kind_is, word_is, says_is, one_takes, is_takes, front_takes}
use Rattle.graphql_grammar.specs.device.Faults.{ScalarError}
use Rattle.graphql_grammar.proofs.Rules.{SameHead, less, Agrees, Fails, Meets, Rule, Some_of, done_rule, seq_rule, turn, weaken, less_below, IsOpener, More}
use Rattle.graphql_grammar.proofs.TokenRules.{refuse_rule, want_rule, on_rule}
use Rattle.graphql_grammar.proofs.PartRules.{many_rule, step, Closed}
use Rattle.graphql_grammar.proofs.TokenTests.{of_kind, both, is_scalar_kind, text_yes, text_no}
use Rattle.graphql_lexical.specs.Place.{Span}

-- an item from one place to another
abbrev pub placed : {A : Type 0} → A → Span → Located A
placed x p = record { item = x; span = p }

-- a literal
module _ {C F : Type 0} (S : Scalars C F) where
  pub literal_ok : (t : Lexeme) (ts : List Lexeme) (c : C) → passes scalar_token t ≡ true → S.read t.kind t.text ≡ Ok c
      → literal S (t ∷ ts) ≡ Took (placed (Scalar c) t.span) ts
  unfolding literal
  literal_ok t ts c e h = ap₂ (λ b z. cond b (read_as t ts z) (refuse (t ∷ ts))) e h

  pub literal_bad : (t : Lexeme) (ts : List Lexeme) (x : F) → passes scalar_token t ≡ true
      → S.read t.kind t.text ≡ Err x → literal S (t ∷ ts) ≡ Refused (t ∷ ts) (ScalarError x)
  unfolding literal
  literal_bad t ts x e h = ap₂ (λ b z. cond b (read_as t ts z) (refuse (t ∷ ts))) e h

  pub literal_other : (t : Lexeme) (ts : List Lexeme) → passes scalar_token t ≡ false
      → literal S (t ∷ ts) ≡ refuse (t ∷ ts)
  unfolding literal
  literal_other t ts e = ap (λ b. cond b (read_as t ts (S.read t.kind t.text)) (refuse (t ∷ ts))) e

  literal_empty : (other : List Lexeme) → SameHead [] other → literal S other ≡ refuse other
  unfolding literal refuse
  literal_empty [] p = refl
  literal_empty (u ∷ us) p = absurd p

  pass_alike : (t u : Lexeme) → Alike t u → passes scalar_token u ≡ passes scalar_token t
  pass_alike t u a = ap₂ scalar_token (sym a.kind) (sym a.text)

  read_alike : (t u : Lexeme) → Alike t u → S.read u.kind u.text ≡ S.read t.kind t.text
  read_alike t u a = ap₂ S.read (sym a.kind) (sym a.text)

  other_alike : (t : Lexeme) (ts other : List Lexeme) → passes scalar_token t ≡ false → SameHead (t ∷ ts) other
      → literal S other ≡ refuse other
  other_alike t ts [] e p = absurd p
  other_alike t ts (u ∷ us) e p = literal_other u us (pass_alike t u p ∙ e)

  ok_agrees : (t : Lexeme) (ts : List Lexeme) (c : C) → passes scalar_token t ≡ true → S.read t.kind t.text ≡ Ok c
      → Agrees (t ∷ []) ts (literal S)
  ok_agrees t ts c e h [] rest' p q = absurd p
  ok_agrees t ts c e h (u ∷ []) rest' p q =
      (placed (Scalar c) u.span, literal_ok u rest' c (pass_alike t u p.0 ∙ e) (read_alike t u p.0 ∙ h))
  ok_agrees t ts c e h (u ∷ v ∷ us) rest' p q = absurd p.1

  bad_fails : (t : Lexeme) (ts : List Lexeme) (x : F) → passes scalar_token t ≡ true → S.read t.kind t.text ≡ Err x
      → Fails [] (t ∷ ts) (ScalarError x) (literal S)
  bad_fails t ts x e h [] [] p q = absurd q
  bad_fails t ts x e h [] (u ∷ rest') p q = literal_bad u rest' x (pass_alike t u q ∙ e) (read_alike t u q ∙ h)
  bad_fails t ts x e h (u ∷ us) rest' p q = absurd p

  module _ (n : ℕ) (Q : Located (Value C) → List Lexeme → Type 0) (some : Some_of Q)
      (openers : (w : Lexeme) → IsOpener w → More Q [] w)
      (h : (t : Lexeme) (c : C) → IsScalarKind t.kind → S.read t.kind t.text ≡ Ok c
      → Q (placed (Scalar c) t.span) (t ∷ []))
    where
      literal_read : (t : Lexeme) (ts : List Lexeme) → passes scalar_token t ≡ true → (z : Result C F)
          → S.read t.kind t.text ≡ z → Meets n Q (literal S) (t ∷ ts) (literal S (t ∷ ts))
      literal_read t ts e (Ok c) q = subst (λ r. Meets n Q (literal S) (t ∷ ts) r) (sym (literal_ok t ts c e q))
          (t ∷ [], refl, h t c (is_scalar_kind t e) q, ok_agrees t ts c e q)
      literal_read t ts e (Err x) q = subst (λ r. Meets n Q (literal S) (t ∷ ts) r) (sym (literal_bad t ts x e q))
          ([], refl, some, bad_fails t ts x e q, openers)

      literal_case : (t : Lexeme) (ts : List Lexeme) (b : Bool) → passes scalar_token t ≡ b
          → Meets n Q (literal S) (t ∷ ts) (literal S (t ∷ ts))
      literal_case t ts true e = literal_read t ts e (S.read t.kind t.text) refl
      literal_case t ts false e = subst (λ r. Meets n Q (literal S) (t ∷ ts) r) (sym (literal_other t ts e))
          (turn n Q refuse (literal S) (t ∷ ts) (refuse (t ∷ ts)) (λ other. other_alike t ts other e)
          ((refuse_rule n Q some).at (t ∷ ts)))

      literal_meets : (ts : List Lexeme) → Meets n Q (literal S) ts (literal S ts)
      literal_meets [] = subst (λ r. Meets n Q (literal S) [] r) (sym (literal_empty [] tt))
          (turn n Q refuse (literal S) [] (refuse []) literal_empty ((refuse_rule n Q some).at []))
      literal_meets (t ∷ ts) = literal_case t ts (passes scalar_token t) refl

      pub literal_rule : Rule n (literal S) (literal S) Q
      literal_rule = record { at = literal_meets }

-- Values
module _ {C F : Type 0} (S : Scalars C F) (free : Bool) where
  item_takes : (ts : List Lexeme) (v : Value C) → IsValue S free v ts → 0 < length ts
  item_takes ts Null h = one_takes ts _ h.1
  item_takes ts (Scalar c) (inl h) = one_takes ts _ h.3
  item_takes ts (Scalar c) (inr (inl h)) = one_takes ts _ h.0.1
  item_takes ts (Scalar c) (inr (inr h)) = one_takes ts _ h.0.1
  item_takes ts (Enum w) h = one_takes ts _ h.0.1
  item_takes ts (Variable w) h = front_takes (is_takes Dollar) ts h.1
  item_takes ts (ListOf vs) h = front_takes (is_takes BracketOpen) ts h
  item_takes ts (Object fs) h = front_takes (is_takes CurlyOpen) ts h

  pub value_takes : (ts : List Lexeme) (v : Located (Value C)) → IsLocated (IsValue S free) v ts → 0 < length ts
  value_takes ts v h = item_takes ts v.item h.0

  -- one field of an object, as it is read
  abbrev pub IsField : Word × Located (Value C) → List Lexeme → Type 0
  IsField x ts = (IsWord x.0 · Is Colon · IsLocated (IsValue S free) x.1) ts

  items_are : (ts : List Lexeme) (vs : List (Located (Value C))) → Each (IsLocated (IsValue S free)) vs ts
      → AreItems S free (items_of vs) ts
  items_are ts [] h = h
  items_are ts (v ∷ vs) h = row_back (λ us k. items_are us vs k) ts h

  fields_are : (ts : List Lexeme) (xs : List (Word × Located (Value C))) → Each IsField xs ts
      → AreFields S free (fields_of xs) ts
  fields_are ts [] h = h
  fields_are ts (x ∷ xs) h =
      row_back row_right ts (row_right ts (row_back (λ us k. fields_are us xs k) ts h))

  list_is : (t : Lexeme) (us : List Lexeme) (r : List (Located (Value C)) × Lexeme) → passes (of BracketOpen) t ≡ true
      → Closed (of BracketClose) (IsLocated (IsValue S free)) r us
      → IsLocated (IsValue S free) (placed (ListOf (items_of r.0)) (over t r.1)) (t ∷ us)
  list_is t us r p c =
      subst (λ l. IsLocated (IsValue S free) (placed (ListOf (items_of r.0)) (over t r.1)) (t ∷ l)) (sym c.whole) (
        enclosed BracketOpen BracketClose t r.1 c.inner (of_kind BracketOpen t p) (of_kind BracketClose r.1 c.closes)
            (items_are c.inner r.0 c.each),
        over_enclosed t r.1 c.inner,
      )

  object_is : (t : Lexeme) (us : List Lexeme) (r : List (Word × Located (Value C)) × Lexeme)
      → passes (of CurlyOpen) t ≡ true → Closed (of CurlyClose) IsField r us
      → IsLocated (IsValue S free) (placed (Object (fields_of r.0)) (over t r.1)) (t ∷ us)
  object_is t us r p c =
      subst (λ l. IsLocated (IsValue S free) (placed (Object (fields_of r.0)) (over t r.1)) (t ∷ l)) (sym c.whole) (
        enclosed CurlyOpen CurlyClose t r.1 c.inner (of_kind CurlyOpen t p) (of_kind CurlyClose r.1 c.closes)
            (fields_are c.inner r.0 c.each),
        over_enclosed t r.1 c.inner,
      )

  null_token : Lexeme
  null_token = token_of Name (codes "null")

  some_value : Some_of (IsLocated (IsValue S free))
  unfolding null_token
  some_value =
      (null_token ∷ [], placed Null null_token.span, ((null_token.span, refl), refl), (inr (inl (refl, refl)), tt))

  value_opens : (w : Lexeme) → IsOpener w → More (IsLocated (IsValue S free)) [] w
  value_opens w (inl e) = (
    sample BracketClose ∷ [],
    placed (ListOf no_items) (over w (sample BracketClose)),
    (enclosed BracketOpen BracketClose w (sample BracketClose) [] e refl refl, refl),
    (inl refl, tt),
  )
  value_opens w (inr (inl e)) = (
    sample CurlyClose ∷ [],
    placed (Object no_fields) (over w (sample CurlyClose)),
    (enclosed CurlyOpen CurlyClose w (sample CurlyClose) [] e refl refl, refl),
    (inl refl, tt),
  )
  value_opens w (inr (inr e)) = ([], placed Null w.span, (says_is (codes "null") w e.0 e.1, refl), tt)

  name_is : (t : Lexeme) → passes (of Name) t ≡ true
      → IsLocated (IsValue S free) (placed (by_name S t.text) t.span) (t ∷ [])
  name_is t p = (
    cases (bytes_eq t.text (codes "true")) (bytes_eq t.text (codes "false"))
        (bytes_eq t.text (codes "null")) refl refl refl,
    refl,
  )
    where
      token : (w : Text) → t.text ≡ w → Says w (t ∷ [])
      token w e = says_is w t (of_kind Name t p) e

      cases : (a b c : Bool) → bytes_eq t.text (codes "true") ≡ a → bytes_eq t.text (codes "false") ≡ b
          → bytes_eq t.text (codes "null") ≡ c
          → IsValue S free (if a then Scalar (S.of_bool true) else if b
          then Scalar (S.of_bool false) else if c then Null else Enum t.text) (t ∷ [])
      cases true b c x y z = inr (inl (token _ (text_yes _ _ x), refl))
      cases false true c x y z = inr (inr (token _ (text_yes _ _ y), refl))
      cases false false true x y z = token _ (text_yes _ _ z)
      cases false false false x y z = (token _ refl, (text_no _ _ x, text_no _ _ y, text_no _ _ z))

  field_by : (n m : ℕ)
      → Rule n (symbol_at S n _ (a_value free)) (symbol_at S m _ (a_value free)) (IsLocated (IsValue S free))
      → Rule n (reads S n (key_and_value free)) (reads S m (key_and_value free)) IsField
  unfolding key_and_value
  field_by n m r =
      seq_rule n (want (of Name)) (want (of Name)) _ _ IsField
      (want_rule F n (of Name) _ (sample Name) refl (inl refl) (λ k p k'.
      seq_rule (less n (k ∷ [])) (want (of Colon)) (want (of Colon)) _ _ _
      (want_rule F (less n (k ∷ [])) (of Colon) _ (sample Colon) refl (inl refl) (λ c q c'.
      seq_rule _ (symbol_at S n _ (a_value free)) (symbol_at S m _ (a_value free)) _ _ _
      (weaken n _ _ _ (IsLocated (IsValue S free)) _ (omega
      (arith, less_below n (k ∷ []), less_below (less n (k ∷ [])) (c ∷ []))) (λ us v h v'.
      done_rule _ (word_of k, v) (word_of k', v') _
      (rw append-nil (row (k ∷ []) (c ∷ us) (word_is k (of_kind Name k p))
      (row (c ∷ []) us (kind_is Colon c (of_kind Colon c q)) h)))) r)))))

  pub field_takes : (ts : List Lexeme) (x : Word × Located (Value C)) → IsField x ts → 0 < length ts
  field_takes ts x h = front_takes (λ us w. one_takes us _ w) ts h

  pub value_rule : (n m : ℕ) → n ≤ m
      → Rule n (symbol_at S n _ (a_value free)) (symbol_at S m _ (a_value free)) (IsLocated (IsValue S free))
  unfolding symbol_at value list object variable
  value_rule zero m le = record { at = λ ts. (zero-le, [], ts, refl, some_value) }
  value_rule (suc n) zero le = absurd (omega arith)
  value_rule (suc n) (suc m) le =
      on_rule (suc n) (of BracketOpen) _ _ _ _ (IsLocated (IsValue S free))
      (λ t u p. seq_rule n _ _ _ _ _ (weaken n n _ _ _ _ (le_refl n)
      (λ us r h r'. done_rule _ (placed (ListOf (items_of r.0)) (over t r.1))
      (placed (ListOf (items_of r'.0)) (over u r'.1)) _
      (rw append-nil (list_is t us r p h)))
      (many_rule (of BracketClose) (sample BracketClose) refl (inl refl) (IsLocated (IsValue S free)) value_takes _ _
      n m n (omega arith) (le_refl n) (value_rule n m (omega arith)))))
      (on_rule (suc n) (of CurlyOpen) _ _ _ _ (IsLocated (IsValue S free))
      (λ t u p. seq_rule n _ _ _ _ _ (weaken n n _ _ _ _ (le_refl n)
      (λ us r h r'. done_rule _ (placed (Object (fields_of r.0)) (over t r.1))
      (placed (Object (fields_of r'.0)) (over u r'.1)) _
      (rw append-nil (object_is t us r p h)))
      (many_rule (of CurlyClose) (sample CurlyClose) refl (inl refl) IsField field_takes _ _ n m n (omega arith)
      (le_refl n) (field_by n m (value_rule n m (omega arith))))))
      (on_rule (suc n) (variable_start free) _ _ _ _ (IsLocated (IsValue S free))
      (λ t u p. seq_rule n _ _ _ _ _ (want_rule F n (of Name) _ (sample Name) refl (inl refl)
      (λ w q w'. done_rule _ (placed (Variable w.text) (over t w)) (placed (Variable w'.text) (over u w')) _ (
        (
          (both _ _ p).0,
          row (t ∷ []) (w ∷ []) (kind_is Dollar t (of_kind Dollar t (both _ _ p).1))
              (says_is w.text w (of_kind Name w q) refl),
        ),
        refl,
      ))))
      (on_rule (suc n) (of Name) _ _ _ _ (IsLocated (IsValue S free))
      (λ t u p. done_rule _ (placed (by_name S t.text) t.span) (placed (by_name S u.text) u.span) _ (name_is t p))
      (step (suc n) (suc n) _ _ _ _ (IsLocated (IsValue S free)) _ (le_refl (suc n))
      (literal_rule S (suc n) (IsLocated (IsValue S free)) some_value value_opens
      (λ t c k h. (inl (t.kind, t.text, t.span, refl, k, h), refl)))
      (λ us v w h. done_rule _ v w _ (rw append-nil h))))))

  pub field_rule : (n m : ℕ) → n ≤ m → Rule n (reads S n (key_and_value free)) (reads S m (key_and_value free)) IsField
  field_rule n m le = field_by n m (value_rule n m le)
