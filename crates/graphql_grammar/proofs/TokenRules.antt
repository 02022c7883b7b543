-- What readers keep that go by the next token: a refusal, a token that is wanted, and branches.
use Rattle.std.proofs.Common.{ℕ, Bool, true, false, ◌≡◌, ◌∷◌, [], List, refl, sym, ap, ◌∙◌, subst, ap₂}
use Rattle.graphql_lexical.specs.Cutting.{Lexeme}
use Rattle.graphql_lexical.specs.laws.Alike.{Alike}
use Rattle.graphql_grammar.specs.Samples.{IsSample}
use Rattle.graphql_grammar.specs.device.Reading.{Test, passes, Took, Refused, Reader, after, seq, done, fault_of, refuse, pick, on, want, look, choose}
use Rattle.graphql_grammar.specs.device.Faults.{UnexpectedEndOfFile}
use Rattle.graphql_grammar.proofs.Rules.{SameHead, less, Agrees, Fails, place_fault, Meets, Rule, Some_of, seq_meets, turn}

-- refuse
refuse_fails : {F A : Type 0} (ts us : List Lexeme) (t : Lexeme)
    → Fails {F = F} {A = A} [] (t ∷ ts) (fault_of t.kind t.text) refuse
unfolding refuse
refuse_fails ts us t [] [] p q = absurd q
refuse_fails ts us t [] (u ∷ rest') p q = ap (Refused (u ∷ rest')) (ap₂ fault_of (sym q.kind) (sym q.text))
refuse_fails ts us t (u ∷ us') rest' p q = absurd p

refuse_empty : {F A : Type 0} → Fails {F = F} {A = A} [] [] UnexpectedEndOfFile refuse
unfolding refuse
refuse_empty [] [] p q = refl
refuse_empty [] (u ∷ rest') p q = absurd q
refuse_empty (u ∷ us') rest' p q = absurd p

refuse_meets : (F : Type 0) {A : Type 0} (n : ℕ) (G : A → List Lexeme → Type 0) → Some_of G → (ts : List Lexeme)
    → Meets {F = F} n G refuse ts (refuse ts)
unfolding refuse
refuse_meets F n G s [] = ([], refl, s, refuse_empty, tt)
refuse_meets F n G s (t ∷ ts) = ([], refl, s, refuse_fails ts [] t, place_fault F G [] t.kind t.text)

pub refuse_rule : {F A : Type 0} (n : ℕ) (G : A → List Lexeme → Type 0) → Some_of G → Rule {F = F} n refuse refuse G
refuse_rule {F} n G s = record { at = λ ts. refuse_meets F n G s ts }

-- want
passes_alike : (test : Test) (t u : Lexeme) → Alike t u → passes test u ≡ passes test t
passes_alike test t u a = ap₂ test (sym a.kind) (sym a.text)

pub on_passed : {F A : Type 0} (test : Test) (k : Lexeme → Reader F A) (g : Reader F A) (t : Lexeme) (ts : List Lexeme)
    → passes test t ≡ true → on test k g (t ∷ ts) ≡ k t ts
unfolding on
on_passed test k g t ts e = ap (λ b. pick b k g t ts) e

pub on_failed : {F A : Type 0} (test : Test) (k : Lexeme → Reader F A) (g : Reader F A) (t : Lexeme) (ts : List Lexeme)
    → passes test t ≡ false → on test k g (t ∷ ts) ≡ g (t ∷ ts)
unfolding on
on_failed test k g t ts e = ap (λ b. pick b k g t ts) e

on_empty : {F A : Type 0} (test : Test) (k : Lexeme → Reader F A) (g : Reader F A) → on test k g [] ≡ g []
unfolding on
on_empty test k g = refl

pub want_passed : {F : Type 0} (test : Test) (t : Lexeme) (ts : List Lexeme) → passes test t ≡ true
    → want {F = F} test (t ∷ ts) ≡ Took t ts
unfolding want done
want_passed test t ts e = on_passed test done refuse t ts e

want_agrees : {F : Type 0} (test : Test) (t : Lexeme) (ts : List Lexeme) → passes test t ≡ true
    → Agrees {F = F} (t ∷ []) ts (want test)
want_agrees test t ts e [] rest' p q = absurd p
want_agrees test t ts e (u ∷ []) rest' p q = (u, want_passed test u rest' (passes_alike test t u p.0 ∙ e))
want_agrees test t ts e (u ∷ v ∷ us) rest' p q = absurd p.1

want_failed : {F : Type 0} (test : Test) (t : Lexeme) (ts : List Lexeme) → passes test t ≡ false
    → want {F = F} test (t ∷ ts) ≡ refuse (t ∷ ts)
unfolding want done
want_failed test t ts e = on_failed test done refuse t ts e

want_empty : {F : Type 0} (test : Test) (other : List Lexeme) → SameHead [] other
    → want {F = F} test other ≡ refuse other
unfolding want on
want_empty test [] p = refl
want_empty test (u ∷ us) p = absurd p

want_other : {F : Type 0} (test : Test) (t : Lexeme) (ts other : List Lexeme) → passes test t ≡ false
    → SameHead (t ∷ ts) other → want {F = F} test other ≡ refuse other
want_other test t ts [] e p = absurd p
want_other test t ts (u ∷ us) e p = want_failed test u us (passes_alike test t u p ∙ e)

module _ (F : Type 0) (n : ℕ) (test : Test) (Q : Lexeme → List Lexeme → Type 0) (w : Lexeme) (we : passes test w ≡ true)
    (wf : IsSample w) (h : (t : Lexeme) → passes test t ≡ true → Q t (t ∷ [])) where
  want_case : (t : Lexeme) (ts : List Lexeme) (b : Bool) → passes test t ≡ b
      → Meets {F = F} n Q (want test) (t ∷ ts) (want test (t ∷ ts))
  want_case t ts true e = subst (λ r. Meets n Q (want test) (t ∷ ts) r) (sym (want_passed test t ts e))
      (t ∷ [], refl, h t e, want_agrees test t ts e)
  want_case t ts false e = subst (λ r. Meets n Q (want test) (t ∷ ts) r) (sym (want_failed test t ts e))
      (turn n Q refuse (want test) (t ∷ ts) (refuse (t ∷ ts)) (λ other. want_other test t ts other e)
      (refuse_meets F n Q (w ∷ [], w, h w we, (wf, tt)) (t ∷ ts)))

  want_meets : (ts : List Lexeme) → Meets {F = F} n Q (want test) ts (want test ts)
  want_meets [] = subst (λ r. Meets n Q (want test) [] r) (sym (want_empty test [] tt))
      (turn n Q refuse (want test) [] (refuse []) (want_empty test)
      (refuse_meets F n Q (w ∷ [], w, h w we, (wf, tt)) []))
  want_meets (t ∷ ts) = want_case t ts (passes test t) refl

  pub want_rule : Rule {F = F} n (want test) (want test) Q
  want_rule = record { at = want_meets }

-- on
on_same_empty : {F A : Type 0} (test : Test) (k : Lexeme → Reader F A) (g : Reader F A) (other : List Lexeme)
    → SameHead [] other → on test k g other ≡ g other
on_same_empty test k g [] p = on_empty test k g
on_same_empty test k g (u ∷ us) p = absurd p

on_other : {F A : Type 0} (test : Test) (k : Lexeme → Reader F A) (g : Reader F A) (t : Lexeme) (ts other : List Lexeme)
    → passes test t ≡ false → SameHead (t ∷ ts) other → on test k g other ≡ g other
on_other test k g t ts [] e p = absurd p
on_other test k g t ts (u ∷ us) e p = on_failed test k g u us (passes_alike test t u p ∙ e)

seq_want : {F A : Type 0} (test : Test) (k : Lexeme → Reader F A) (g : Reader F A) (t : Lexeme) (ts : List Lexeme)
    → passes test t ≡ true → on test k g (t ∷ ts) ≡ seq (want test) k (t ∷ ts)
unfolding seq
seq_want test k g t ts e = on_passed test k g t ts e ∙ sym (ap (λ r. after r k) (want_passed test t ts e))

on_this : {F A : Type 0} (test : Test) (k : Lexeme → Reader F A) (g : Reader F A) (t : Lexeme) (ts other : List Lexeme)
    → passes test t ≡ true → SameHead (t ∷ ts) other → on test k g other ≡ seq (want test) k other
on_this test k g t ts [] e p = absurd p
on_this test k g t ts (u ∷ us) e p = seq_want test k g u us (passes_alike test t u p ∙ e)

module _ {F A : Type 0} (n : ℕ) (test : Test) (k l : Lexeme → Reader F A) (f g : Reader F A)
    (G : A → List Lexeme → Type 0)
    (h : (t u : Lexeme) → passes test t ≡ true → Rule (less n (t ∷ [])) (k t) (l u) (λ a us. G a (t ∷ us)))
    (r : Rule n f g G) where
  on_case : (t : Lexeme) (ts : List Lexeme) (b : Bool) → passes test t ≡ b
      → Meets n G (on test l g) (t ∷ ts) (on test k f (t ∷ ts))
  on_case t ts true e = subst (λ z. Meets n G (on test l g) (t ∷ ts) z) (sym (on_passed test k f t ts e))
      (turn n G (seq (want test) l) (on test l g) (t ∷ ts) (k t ts) (λ other. on_this test l g t ts other e)
      (seq_meets n (want test) (want test) k l G (t ∷ ts) (Took t ts)
      (t ∷ [], refl, (λ b. h t b e), want_agrees test t ts e)))
  on_case t ts false e = subst (λ z. Meets n G (on test l g) (t ∷ ts) z) (sym (on_failed test k f t ts e))
      (turn n G g (on test l g) (t ∷ ts) (f (t ∷ ts)) (λ other. on_other test l g t ts other e) (r.at (t ∷ ts)))

  on_meets : (ts : List Lexeme) → Meets n G (on test l g) ts (on test k f ts)
  on_meets [] = subst (λ z. Meets n G (on test l g) [] z) (sym (on_empty test k f))
      (turn n G g (on test l g) [] (f []) (on_same_empty test l g) (r.at []))
  on_meets (t ∷ ts) = on_case t ts (passes test t) refl

  pub on_rule : Rule n (on test k f) (on test l g) G
  on_rule = record { at = on_meets }

-- look
look_agrees : {F A : Type 0} (test : Test) (f g : Reader F A) (t u : Lexeme) (ts us : List Lexeme) (b : Bool)
    → passes test t ≡ b → Alike t u → look test f g (u ∷ us) ≡ choose b f g (u ∷ us)
unfolding look
look_agrees test f g t u ts us b e a = ap (λ z. choose z f g (u ∷ us)) (passes_alike test t u a ∙ e)

module _ {F A : Type 0} (n : ℕ) (test : Test) (f g k l : Reader F A) (G : A → List Lexeme → Type 0) (r : Rule n f k G)
    (s : Rule n g l G) where
  look_other : (t : Lexeme) (ts : List Lexeme) (b : Bool) → passes test t ≡ b → (other : List Lexeme)
      → SameHead (t ∷ ts) other → look test k l other ≡ choose b k l other
  look_other t ts b e [] p = absurd p
  look_other t ts b e (u ∷ us) p = look_agrees test k l t u ts us b e p

  look_case : (t : Lexeme) (ts : List Lexeme) (b : Bool) → passes test t ≡ b
      → Meets n G (look test k l) (t ∷ ts) (choose b f g (t ∷ ts))
  look_case t ts true e = turn n G k (look test k l) (t ∷ ts) (f (t ∷ ts)) (look_other t ts true e) (r.at (t ∷ ts))
  look_case t ts false e = turn n G l (look test k l) (t ∷ ts) (g (t ∷ ts)) (look_other t ts false e) (s.at (t ∷ ts))

  look_empty : (other : List Lexeme) → SameHead [] other → look test k l other ≡ l other
  unfolding look
  look_empty [] p = refl
  look_empty (u ∷ us) p = absurd p

  look_meets : (ts : List Lexeme) → Meets n G (look test k l) ts (look test f g ts)
  unfolding look
  look_meets [] = turn n G l (look test k l) [] (g []) look_empty (s.at [])
  look_meets (t ∷ ts) = look_case t ts (passes test t) refl

  pub look_rule : Rule n (look test f g) (look test k l) G
  look_rule = record { at = look_meets }
