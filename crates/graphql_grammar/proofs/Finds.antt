-- How readers that are made of others find what is there: a part, and what may follow it.
use Rattle.std.proofs.Common.{ℕ, zero, suc, true, false, ◌≡◌, ◌≤◌, ◌<◌, ◌∷◌, [], List, ◌++◌, length, refl, sym, ap, ◌∙◌, arith, le_refl, inl, inr, ◌⊎◌, Option, Some, None}
use denote.Enum.Bare.{true_same}
use Rattle.graphql_lexical.specs.contracts.kind.Kind.{the_type}
use Rattle.graphql_lexical.specs.Place.{Span}
use Rattle.graphql_lexical.specs.declared.kind.Kind.{Kind}
use Rattle.graphql_lexical.specs.declared.kind.Kind.TheVariants.{Name}
use Rattle.graphql_lexical.specs.Cutting.{Lexeme}
use Rattle.graphql_grammar.specs.Tokens.{Word, Text, span_of, from_to}
use Rattle.graphql_grammar.specs.device.Reading.{Test, passes, of, Read, Took, Reader, after, seq, done, on, want, many, look, choose, maybe, with_span, give_span, one_or_more}
use Rattle.graphql_lexical.specs.Parts.{◌·◌}
use Rattle.graphql_grammar.specs.Grammar.{Is, IsWord, Says, Each, Optional, Listed}
use Rattle.graphql_grammar.proofs.Sequences.{token_in, enclosed_span, row_as, row_front, row_back, one_takes, back_takes, row_length, row_before, row_right}
use Rattle.graphql_grammar.proofs.TokenRules.{on_passed, on_failed, want_passed}
use Rattle.graphql_grammar.proofs.PartRules.{front_is}

-- ---- what is found, and what follows

-- any list
abbrev pub Any : List Lexeme → Type 0
Any ts = Unit {0}

-- the first token doesn't pass, if there is one
abbrev pub NotAt : Test → List Lexeme → Type 0
NotAt test [] = Unit {0}
NotAt test (t ∷ ts) = passes test t ≡ false

abbrev pub token : Kind → Text → Span → Lexeme
token k w p = record { kind = k; text = w; span = p }

-- this token alone
abbrev pub Only : Lexeme → List Lexeme → Type 0
Only t ts = ts ≡ t ∷ []

abbrev pub Nothing : List Lexeme → Type 0
Nothing ts = ts ≡ []

-- A P of fewer than n tokens is read as a, if After admits the tokens that follow it.
pub record Finds {F A : Type 0} (n : ℕ) (f : Reader F A) (P After : List Lexeme → Type 0) (a : A) : Type 0 where
  pub at : (ts rest : List Lexeme) → length ts < n → P ts → After rest → f (ts ++ rest) ≡ Took a rest

-- First admits a P and the tokens that follow it, if After admits those.
pub record Before (P After First : List Lexeme → Type 0) : Type 0 where
  pub at : (ts rest : List Lexeme) → P ts → After rest → First (ts ++ rest)

-- ---- the first token

abbrev pub StartsWith : Kind → List Lexeme → Type 0
StartsWith k ts = (text : Text) × (span : Span) × (tail : List Lexeme) × (ts ≡ token k text span ∷ tail)

pub is_starts : {k : Kind} (ts : List Lexeme) → Is k ts → StartsWith k ts
is_starts ts h = (h.0, h.1, [], h.2)

pub front_starts : {k : Kind} {P Q : List Lexeme → Type 0} → ((ts : List Lexeme) → P ts → StartsWith k ts)
    → (ts : List Lexeme) → (P · Q) ts → StartsWith k ts
front_starts s ts h =
    let t = s h.front h.first in (t.0, t.1, t.2 ++ h.back, h.whole ∙ ap (λ us. us ++ h.back) t.3)

pub starts_takes : {k : Kind} (ts : List Lexeme) → StartsWith k ts → 0 < length ts
starts_takes ts s = rw s.3 (omega arith)

pub word_starts : (ts : List Lexeme) (w : Word) → IsWord w ts → StartsWith Name ts
word_starts ts w h = (w.item, w.span, [], h)

pub says_starts : {w : Text} (ts : List Lexeme) → Says w ts → StartsWith Name ts
says_starts {w} ts h = (w, h.0, [], h.1)

-- no token of this kind passes
abbrev pub Rejects : Test → Kind → Type 0
Rejects test k = (w : Text) → test k w ≡ false

pub starts_before : {k : Kind} {P After : List Lexeme → Type 0} (test : Test) → Rejects test k
    → ((ts : List Lexeme) → P ts → StartsWith k ts) → Before P After (NotAt test)
starts_before test d s = record { at = λ ts rest h g. let t = s ts h in rw t.3 (d t.0) }

pub nothing_before : {After First : List Lexeme → Type 0} → ((rest : List Lexeme) → After rest → First rest)
    → Before Nothing After First
nothing_before d = record { at = λ ts rest h g. rw h (d rest g) }

pub optional_before : {A : Type 0} {R : A → List Lexeme → Type 0} {After First : List Lexeme → Type 0} (x : Option A)
    → ((a : A) → Before (R a) After First) → ((rest : List Lexeme) → After rest → First rest)
    → Before (Optional R x) After First
optional_before None s d = nothing_before d
optional_before (Some a) s d = s a

pub only_before : {t : Lexeme} {After : List Lexeme → Type 0} (test : Test) → passes test t ≡ false
    → Before (Only t) After (NotAt test)
only_before test e = record { at = λ ts rest h g. rw h e }

pub both_before : {P Q After Mid First : List Lexeme → Type 0} → Before P Mid First → Before Q After Mid
    → Before (P · Q) After First
both_before p q = record {
  at = λ ts rest h g. rw (row_before ts rest h)
      (p.at h.front (h.back ++ rest) h.first (q.at h.back rest h.second g));
}

pub any_before : {P After : List Lexeme → Type 0} → Before P After Any
any_before = record { at = λ ts rest h g. tt }

pub before_as : {P P' After First : List Lexeme → Type 0} → ((ts : List Lexeme) → P' ts → P ts) → Before P After First
    → Before P' After First
before_as s p = record { at = λ ts rest h g. p.at ts rest (s ts h) g }

pub front_before : {P Q After First : List Lexeme → Type 0} → Before P Any First → Before (P · Q) After First
front_before p = both_before p any_before

-- ---- steps of readers

pub test_at : (test : Test) (t : Lexeme) (k : Kind) → t.kind ≡ k → passes test t ≡ test k t.text
test_at test t k e = ap (λ z. test z t.text) e

same_of : (k : Kind) (w : Text) → of k k w ≡ true
same_of k w = true_same the_type k k refl

module _ {F A : Type 0} where
  pub seq_took : {B : Type 0} (f : Reader F A) (k : A → Reader F B) (ts rest : List Lexeme) (a : A)
      → f ts ≡ Took a rest → seq f k ts ≡ k a rest
  unfolding seq
  seq_took f k ts rest a e = ap (λ r. after r k) e

  on_no : (test : Test) (k : Lexeme → Reader F A) (g : Reader F A) (ts : List Lexeme) → NotAt test ts
      → on test k g ts ≡ g ts
  unfolding on
  on_no test k g [] h = refl
  on_no test k g (t ∷ ts) h = on_failed test k g t ts h

  look_no : (test : Test) (f g : Reader F A) (ts : List Lexeme) → NotAt test ts → look test f g ts ≡ g ts
  unfolding look
  look_no test f g [] h = refl
  look_no test f g (t ∷ ts) h = ap (λ b. choose b f g (t ∷ ts)) h

  look_yes : (test : Test) (f g : Reader F A) (t : Lexeme) (ts : List Lexeme) → passes test t ≡ true
      → look test f g (t ∷ ts) ≡ f (t ∷ ts)
  unfolding look
  look_yes test f g t ts h = ap (λ b. choose b f g (t ∷ ts)) h

  look_start : (k : Kind) (f g : Reader F A) (ts rest : List Lexeme) → StartsWith k ts
      → look (of k) f g (ts ++ rest) ≡ f (ts ++ rest)
  look_start k f g ts rest s = rw s.3 (look_yes (of k) f g _ _ (same_of k s.0))

-- ---- what is found by readers that are made of others

module _ {F A : Type 0} {n : ℕ} {f : Reader F A} {P After : List Lexeme → Type 0} {a : A} where
  pub at_most : {m : ℕ} → m ≤ n → Finds n f P After a → Finds m f P After a
  at_most l p = record { at = λ ts rest le h g. p.at ts rest (omega arith) h g }

  pub fewer : Finds (suc n) f P After a → Finds n f P After a
  fewer p = record { at = λ ts rest le h g. p.at ts rest (omega arith) h g }

  pub found_as : {P' : List Lexeme → Type 0} → ((ts : List Lexeme) → P' ts → P ts) → Finds n f P After a
      → Finds n f P' After a
  found_as s p = record { at = λ ts rest le h g. p.at ts rest le (s ts h) g }

  pub found_if : {After' : List Lexeme → Type 0} → ((rest : List Lexeme) → After' rest → After rest)
      → Finds n f P After a → Finds n f P After' a
  found_if s p = record { at = λ ts rest le h g. p.at ts rest le h (s rest g) }

  pub found_is : {b : A} → a ≡ b → Finds n f P After a → Finds n f P After b
  found_is e p = record { at = λ ts rest le h g. p.at ts rest le h g ∙ ap (λ z. Took z rest) e }

  pub map_found : {B : Type 0} (k : A → B) → Finds n f P After a → Finds n (seq f (λ x. done (k x))) P After (k a)
  unfolding done
  map_found k p = record { at = λ ts rest le h g. seq_took f _ (ts ++ rest) rest a (p.at ts rest le h g) }

  pub on_apart : (test : Test) (k : Lexeme → Reader F A) → Before P After (NotAt test) → Finds n f P After a
      → Finds n (on test k f) P After a
  on_apart test k d p = record {
    at = λ ts rest le h g. on_no test k f (ts ++ rest) (d.at ts rest h g) ∙ p.at ts rest le h g;
  }

  pub look_apart : (test : Test) (g : Reader F A) → Before P After (NotAt test) → Finds n f P After a
      → Finds n (look test g f) P After a
  look_apart test g d p = record {
    at = λ ts rest le h b. look_no test g f (ts ++ rest) (d.at ts rest h b) ∙ p.at ts rest le h b;
  }

  pub look_found : (k : Kind) (g : Reader F A) → ((ts : List Lexeme) → P ts → StartsWith k ts) → Finds n f P After a
      → Finds n (look (of k) f g) P After a
  look_found k g s p = record { at = λ ts rest le h b. look_start k f g ts rest (s ts h) ∙ p.at ts rest le h b }

  -- under a condition that no token bears on
  pub given_found : {E : Type 0} → (E → Finds n f P After a) → Finds n f (λ ts. P ts × E) After a
  given_found q = record { at = λ ts rest le h g. (q h.1).at ts rest le h.0 g }

  pub either_found : {Q : List Lexeme → Type 0} → Finds n f P After a → Finds n f Q After a
      → Finds n f (λ ts. P ts ⊎ Q ts) After a
  either_found {Q} p q = record { at = cases }
    where
      cases : (ts rest : List Lexeme) → length ts < n → P ts ⊎ Q ts → After rest → f (ts ++ rest) ≡ Took a rest
      cases ts rest le (inl h) g = p.at ts rest le h g
      cases ts rest le (inr h) g = q.at ts rest le h g

-- a part that is given with its span
module _ {F A : Type 0} {n : ℕ} {f : Reader F A} {P Q After : List Lexeme → Type 0} {a : A} where
  pub located_front : ((p : Span) → Finds n f ((λ ts. P ts × (p ≡ span_of ts)) · Q) After a)
      → Finds n f (P · Q) After a
  located_front q = record {
    at = λ ts rest le h g. (q (span_of h.front)).at ts rest le (row_as h (h.first, refl) h.second) g;
  }

pub none_found : {F A : Type 0} {f : Reader F A} {P After : List Lexeme → Type 0} {a : A}
    → ((ts : List Lexeme) → P ts → 0 < length ts) → Finds 1 f P After a
none_found takes = record { at = λ ts rest le h g. absurd (let t = takes ts h in omega arith) }

-- one part, and then the others
module _ {F A B : Type 0} (k : A → Reader F B) where
  row_took : {P Q : List Lexeme → Type 0} (f : Reader F A) (ts rest : List Lexeme) (h : (P · Q) ts) (a : A)
      (r : Read F B) → f (h.front ++ (h.back ++ rest)) ≡ Took a (h.back ++ rest) → k a (h.back ++ rest) ≡ r
      → seq f k (ts ++ rest) ≡ r
  row_took f ts rest h a r e q = ap (seq f k) (row_before ts rest h) ∙ seq_took f k _ (h.back ++ rest) a e ∙ q

  module _ {n : ℕ} {f : Reader F A} {P Q After : List Lexeme → Type 0} {a : A} {b : B} where
    pub seq_found : {Mid : List Lexeme → Type 0} → Finds n f P Mid a → Before Q After Mid → Finds n (k a) Q After b
        → Finds n (seq f k) (P · Q) After b
    seq_found p m q = record {
      at = λ ts rest le h g. let l = row_length ts h in
          row_took f ts rest h a _ (p.at h.front _ (omega arith) h.first (m.at h.back rest h.second g))
          (q.at h.back rest (omega arith) h.second g);
    }

    pub then_found : Finds n f P Any a → Finds n (k a) Q After b → Finds n (seq f k) (P · Q) After b
    then_found p q = seq_found p any_before q

    -- where the part has a token, the others have one fewer
    pub seq_past : {Mid : List Lexeme → Type 0} → ((ts : List Lexeme) → P ts → 0 < length ts)
        → Finds (suc n) f P Mid a → Before Q After Mid → Finds n (k a) Q After b
        → Finds (suc n) (seq f k) (P · Q) After b
    seq_past takes p m q = record {
      at = λ ts rest le h g. let l = row_length ts h in let t = takes h.front h.first in
          row_took f ts rest h a _ (p.at h.front _ (omega arith) h.first (m.at h.back rest h.second g))
          (q.at h.back rest (omega arith) h.second g);
    }

pub want_found : {F : Type 0} {n : ℕ} {After : List Lexeme → Type 0} (test : Test) (t : Lexeme) → passes test t ≡ true
    → Finds {F = F} n (want test) (Only t) After t
want_found test t e = record { at = λ ts rest le h g. rw h (want_passed test t rest e) }

pub word_found : {F : Type 0} {n : ℕ} {After : List Lexeme → Type 0} (w : Word)
    → Finds {F = F} n (want (of Name)) (IsWord w) After (token Name w.item w.span)
word_found w = want_found (of Name) (token Name w.item w.span) refl

pub done_found : {F A : Type 0} {n : ℕ} {After : List Lexeme → Type 0} {a : A}
    → Finds {F = F} n (done a) Nothing After a
unfolding done
done_found = record { at = λ ts rest le h g. rw h }

-- ---- one token at either end of a row

pub last_one : {P : List Lexeme → Type 0} {k : Kind} (ts : List Lexeme) (h : (P · Is k) ts)
    → (P · (Only (token k h.second.0 h.second.1))) ts
last_one ts h = row_as h h.first h.second.2

-- where a row begins or ends with one token, the reader may be given it
module _ {F A : Type 0} {n : ℕ} {f : Reader F A} {Q After : List Lexeme → Type 0} {a : A} where
  pub is_found : {k : Kind} → ((w : Text) (p : Span) → Finds n f (Only (token k w p) · Q) After a)
      → Finds n f (Is k · Q) After a
  is_found q = record {
    at = λ ts rest le h g. (q h.first.0 h.first.1).at ts rest le
        (row_as h h.first.2 h.second) g;
  }

  pub says_found : {w : Text} → ((p : Span) → Finds n f (Only (token Name w p) · Q) After a)
      → Finds n f (Says w · Q) After a
  says_found q = record {
    at = λ ts rest le h g. (q h.first.0).at ts rest le
        (row_as h h.first.1 h.second) g;
  }

  pub closed_found : {k : Kind} → ((w : Text) (p : Span) → Finds n f (Q · Only (token k w p)) After a)
      → Finds n f (Q · Is k) After a
  closed_found q = record { at = λ ts rest le h g. (q h.second.0 h.second.1).at ts rest le (last_one ts h) g }

-- a part between two tokens, and the span from the one to the other
pub between_found : {F A : Type 0} {n : ℕ} {f : Reader F A} {P After : List Lexeme → Type 0} {opening closing : Kind}
    (a : Span → A) (p : Span) → ((w x : Text) (q r : Span)
    → Finds n f (Only (token opening w q) · P · Only (token closing x r)) After (a (from_to q r)))
    → Finds n f (λ ts. (Is opening · P · Is closing) ts × (p ≡ span_of ts)) After (a p)
between_found {opening} {closing} a p found = record {
  at = λ ts rest le h g.
      let o = token_in opening h.0.front h.0.first in
      let c = token_in closing h.0.second.back h.0.second.second in
      (found o.text c.text o.span c.span).at ts rest le
      (row_as h.0 h.0.first.2 (last_one h.0.back h.0.second)) g
      ∙ ap (λ z. Took (a z) rest) (sym (h.1 ∙ enclosed_span opening closing ts h.0));
}

-- the token t, and then the others
pub on_found : {F A : Type 0} {n : ℕ} {Q After : List Lexeme → Type 0} {a : A} (test : Test) (t : Lexeme)
    (k : Lexeme → Reader F A) (g : Reader F A) → passes test t ≡ true → Finds n (k t) Q After a
    → Finds n (on test k g) (Only t · Q) After a
on_found test t k g e p = record {
  at = λ ts rest le h b. let l = row_length ts h in
      ap (on test k g) (row_before ts rest h ∙ ap (λ us. us ++ (h.back ++ rest)) h.first)
      ∙ on_passed test k g t (h.back ++ rest) e ∙ p.at h.back rest (omega arith) h.second b;
}

module _ {F A : Type 0} {n : ℕ} {k : Kind} {After : List Lexeme → Type 0} {a : A} where
  module _ {f : Reader F A} {Q : List Lexeme → Type 0} where
    pub is_past : Finds n f Q After a → Finds (suc n) (seq (want (of k)) (λ t. f)) (Is k · Q) After a
    is_past q = is_found (λ w p. seq_past _ (λ us h. one_takes us (token k w p) h)
        (want_found (of k) (token k w p) (same_of k w)) any_before q)

    pub is_then : Finds n f Q After a → Finds n (seq (want (of k)) (λ t. f)) (Is k · Q) After a
    is_then q = fewer (is_past q)

  pub is_last : Finds {F = F} n (seq (want (of k)) (λ t. done a)) (Is k) After a
  is_last = record {
    at = λ ts rest le h g. let t = token k h.0 h.1 in
        (map_found {After = After} (λ u. a) (want_found (of k) t (same_of k h.0))).at ts rest le h.2 g;
  }

pub span_found : {F A : Type 0} {n : ℕ} {f : Reader F (Span → A)} {P After : List Lexeme → Type 0} (k : Span → A)
    (p : Span) → Finds n f P After k → Finds n (with_span f) (λ ts. P ts × (p ≡ span_of ts)) After (k p)
unfolding with_span
span_found k p q = record {
  at = λ ts rest le h g. ap (λ z. after z (give_span (ts ++ rest))) (q.at ts rest le h.0 g)
      ∙ ap (λ z. Took (k (span_of z)) rest) (front_is ts rest) ∙ ap (λ z. Took (k z) rest) (sym h.1);
}

pub maybe_found : {F A : Type 0} {n : ℕ} {f : Reader F A} {R : A → List Lexeme → Type 0} (k : Kind) (x : Option A)
    → ((ts : List Lexeme) (a : A) → R a ts → StartsWith k ts) → ((a : A) → Finds n f (R a) Any a)
    → Finds n (maybe (of k) f) (Optional R x) (NotAt (of k)) x
maybe_found k None s p = look_apart (of k) _ (nothing_before (λ rest g. g)) done_found
maybe_found k (Some a) s p = look_found k _ (λ ts h. s ts a h) (found_if (λ rest g. tt) (map_found (λ x. Some x) (p a)))

-- ---- many items, and the token that closes them

module _ {F A : Type 0} {n : ℕ} {f : Reader F A} {R : A → List Lexeme → Type 0} {Next : List Lexeme → Type 0}
    (closing : Kind) (takes : (ts : List Lexeme) (x : A) → R x ts → 0 < length ts)
    (item : (x : A) → Finds n f (R x) Next x)
    (apart : (x : A) → Before (R x) Any (NotAt (of closing)))
    (next : (x : A) → Before (R x) Any Next)
    (end : (w : Text) (p : Span) (rest : List Lexeme) → Next (token closing w p ∷ rest)) where
  module _ (w : Text) (p : Span) where
    items_before : (xs : List A) → Before (Each R xs · Only (token closing w p)) Any Next
    items_before [] = record { at = λ ts rest h g. rw (h.whole, h.first, h.second) (end w p rest) }
    items_before (x ∷ xs) = before_as row_right (front_before (next x))

    pub many_found : (k : ℕ) → k ≤ n → (xs : List A)
        → Finds (suc k) (many (of closing) f k) (Each R xs · Only (token closing w p)) Any (xs, token closing w p)
    unfolding many done
    many_found zero l xs = none_found (back_takes (λ us h. one_takes us _ h))
    many_found (suc k) l [] = record {
      at = λ ts rest le h g. rw (h.whole, h.first, h.second)
          (on_passed (of closing) _ _ (token closing w p) rest (same_of closing w));
    }
    many_found (suc k) l (x ∷ xs) = record {
      at = λ ts rest le h g.
          let s = row_right ts h in let i = row_length ts s in let t = takes s.front x s.first in
          let c = back_takes {P = Each R xs} (λ us z. one_takes us (token closing w p) z) s.back s.second in
          on_no (of closing) _ _ (ts ++ rest) ((front_before {After = Any} (apart x)).at ts rest s tt)
          ∙ row_took _ f ts rest s x _
          ((item x).at s.front _ (omega arith) s.first ((items_before xs).at s.back rest s.second tt))
          ((map_found (λ r. (x ∷ r.0, r.1)) (many_found k (omega arith) xs)).at s.back rest (omega arith) s.second tt);
    }

    -- an item, and then many
    pub several_found : {B : Type 0} (k : A → List A × Lexeme → B) (x : A) (xs : List A)
        → Finds n (seq f (λ y. seq (many (of closing) f n) (λ r. done (k y r))))
        (Each R (x ∷ xs) · Only (token closing w p)) Any (k x (xs, token closing w p))
    several_found k x xs = found_as row_right (seq_found _ (item x) (items_before xs)
        (map_found (k x) (fewer (many_found n (le_refl n) xs))))

    pub one_or_more_found : (x : A) (xs : List A)
        → Finds n (one_or_more (of closing) f n) (Each R (x ∷ xs) · Only (token closing w p)) Any (x ∷ xs)
    one_or_more_found = several_found (λ y r. y ∷ r.0)

  pub listed_found : {B : Type 0} (opening : Kind) (k : List A → B) (xs : List A)
      → Finds n (seq (want (of opening)) (λ o. seq (one_or_more (of closing) f n) (λ ys. done (k ys))))
      (Listed opening closing R xs) Any (k xs)
  listed_found opening k [] = record { at = λ ts rest le h g. absurd (h.second.first.1 refl) }
  listed_found opening k (x ∷ xs) = found_as (row_back (row_front (λ us h. h.0)))
      (is_then (closed_found (λ w p. map_found k (one_or_more_found w p x xs))))

pub listed_starts : {A : Type 0} {opening : Kind} (closing : Kind) (R : A → List Lexeme → Type 0) (ts : List Lexeme)
    (xs : List A) → Listed opening closing R xs ts → StartsWith opening ts
listed_starts closing R ts xs h = front_starts is_starts ts h
