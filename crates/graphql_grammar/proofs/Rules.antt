-- What a reader keeps: the rules for readers that give a result, and for one after another.
use Rattle.std.proofs.Common.{ℕ, zero, suc, Bool, true, false, ◌≡◌, ◌≤◌, ◌+◌, ◌∷◌, [], List, ◌++◌, length, refl, sym, ap, ◌∙◌, arith, append_assoc, subst, length-append, cond, codes, ◌⊎◌}
use Rattle.std.specs.List.{AllZip}
use Rattle.std.proofs.lemmas.List.{append_cancel_right}
use Rattle.graphql_lexical.specs.declared.kind.Kind.{Kind}
use Rattle.graphql_lexical.specs.declared.kind.Kind.TheVariants.{Name, BracketOpen, CurlyOpen, EndOfFile}
use Rattle.graphql_lexical.specs.Cutting.{Lexeme}
use Rattle.graphql_lexical.specs.laws.Alike.{Alike}
use Rattle.graphql_grammar.specs.Tokens.{Text}
use Rattle.graphql_grammar.specs.Samples.{AreSamples}
use Rattle.graphql_grammar.specs.device.Reading.{of, Read, Took, Refused, Out, Reader, after, seq, done, fault_of}
use Rattle.graphql_grammar.specs.device.Faults.{Fault, UnexpectedEndOfFile, UnexpectedToken, ScalarError}

-- the first tokens are alike, or there is none
abbrev pub SameHead : List Lexeme → List Lexeme → Type 0
SameHead [] [] = Unit {0}
SameHead [] (b ∷ bs) = ⊥
SameHead (a ∷ as') [] = ⊥
SameHead (a ∷ as') (b ∷ bs) = Alike a b

-- how far n reaches past these tokens
abbrev pub less : ℕ → List Lexeme → ℕ
less n [] = n
less zero (t ∷ ts) = zero
less (suc n) (t ∷ ts) = less n ts

-- The reader g goes on in the same way where the tokens that were read, and the next one, are alike.
abbrev pub Agrees : {F A : Type 0} → List Lexeme → List Lexeme → Reader F A → Type 0
Agrees {F} {A} us rest g = (us' rest' : List Lexeme) → AllZip Alike us us' → SameHead rest rest'
    → (b : A) × (g (us' ++ rest') ≡ Took b rest')

abbrev pub Fails : {F A : Type 0} → List Lexeme → List Lexeme → Fault F → Reader F A → Type 0
Fails us rest e g = (us' rest' : List Lexeme) → AllZip Alike us us' → SameHead rest rest'
    → g (us' ++ rest') ≡ Refused rest' e

-- tokens with which a value can begin, whatever the scalar type reads
abbrev pub IsOpener : Lexeme → Type 0
IsOpener w = (w.kind ≡ BracketOpen) ⊎ (w.kind ≡ CurlyOpen) ⊎ ((w.kind ≡ Name) × (w.text ≡ codes "null"))

-- Something that G says begins with these tokens and then w.
abbrev pub More : {A : Type 0} → (A → List Lexeme → Type 0) → List Lexeme → Lexeme → Type 0
More {A} G us w = (more : List Lexeme) × (a : A) × G a (us ++ (w ∷ more)) × AreSamples more

-- Where the reading's own fault is the answer, a value may stand.
abbrev pub Place : {F A : Type 0} → (A → List Lexeme → Type 0) → List Lexeme → Fault F → Type 0
Place G us UnexpectedEndOfFile = Unit {0}
Place G us (UnexpectedToken kind text) = Unit {0}
Place G us (ScalarError x) = (w : Lexeme) → IsOpener w → More G us w

pub place_map : {F A B : Type 0} (G : A → List Lexeme → Type 0) (H : B → List Lexeme → Type 0) (us vs : List Lexeme)
    (e : Fault F) → ((w : Lexeme) → More G us w → More H vs w) → Place G us e → Place H vs e
place_map G H us vs UnexpectedEndOfFile f p = tt
place_map G H us vs (UnexpectedToken kind text) f p = tt
place_map G H us vs (ScalarError x) f p = λ w o. f w (p w o)

pub place_fault : (F : Type 0) {A : Type 0} (G : A → List Lexeme → Type 0) (us : List Lexeme) (kind : Kind)
    (text : Text) → Place {F = F} G us (fault_of kind text)
unfolding fault_of
place_fault F G us kind text = by_test (of EndOfFile kind text)
  where
    by_test : (b : Bool) → Place {F = F} G us (cond b UnexpectedEndOfFile (UnexpectedToken kind text))
    by_test true = tt
    by_test false = tt

abbrev pub Meets : {F A : Type 0} → ℕ → (A → List Lexeme → Type 0) → Reader F A → List Lexeme → Read F A → Type 0
Meets n G g ts (Took a rest) = (us : List Lexeme) × (ts ≡ us ++ rest) × G a us × Agrees us rest g
Meets {A = A} n G g ts (Refused rest e) =
    (us : List Lexeme) × (ts ≡ us ++ rest) × ((more : List Lexeme) × (a : A) × G a (us ++ more) × AreSamples more)
    × Fails us rest e g × Place G us e
Meets {A = A} n G g ts Out = (n ≤ length ts) × (us : List Lexeme) × (rest : List Lexeme) × (ts ≡ us ++ rest)
    × ((more : List Lexeme) × (a : A) × G a (us ++ more) × AreSamples more)

-- f reads what G says; where it refuses, the tokens before begin something that G says; and g, which may be f with more
-- fuel, goes the same way.
pub record Rule {F A : Type 0} (n : ℕ) (f g : Reader F A) (G : A → List Lexeme → Type 0) : Type 0 where
  pub at : (ts : List Lexeme) → Meets n G g ts (f ts)

-- something that G says
abbrev pub Some_of : {A : Type 0} → (A → List Lexeme → Type 0) → Type 0
Some_of {A} G = (more : List Lexeme) × (a : A) × G a more × AreSamples more

pub samples_join : (us vs : List Lexeme) → AreSamples us → AreSamples vs → AreSamples (us ++ vs)
samples_join [] vs a b = b
samples_join (u ∷ us) vs a b = (a.0, samples_join us vs a.1 b)

samples_none : (us rest : List Lexeme) → [] ≡ us ++ rest → AreSamples us
samples_none [] rest e = tt
samples_none (u ∷ us) rest e = absurd (cc)

some_meets : {F A : Type 0} (n : ℕ) (G : A → List Lexeme → Type 0) (g : Reader F A) (r : Read F A) → Meets n G g [] r
    → Some_of G
some_meets n G g (Took a rest) (us, e, h, s) = (us, a, h, samples_none us rest e)
some_meets n G g (Refused rest e) (us, q, (more, a, h, y), s, z) =
    (us ++ more, a, h, samples_join us more (samples_none us rest q) y)
some_meets n G g Out (q, us, rest, e, (more, a, h, y)) =
    (us ++ more, a, h, samples_join us more (samples_none us rest e) y)

pub some_of : {F A : Type 0} (n : ℕ) (f g : Reader F A) (G : A → List Lexeme → Type 0) → Rule n f g G → Some_of G
some_of n f g G r = some_meets n G g (f []) (r.at [])

done_agrees : {F A : Type 0} (b : A) (ts : List Lexeme) → Agrees {F = F} [] ts (done b)
unfolding done
done_agrees b ts [] rest' p q = (b, refl)
done_agrees b ts (u ∷ us) rest' p q = absurd p

pub done_rule : {F A : Type 0} (n : ℕ) (a b : A) (G : A → List Lexeme → Type 0) → G a []
    → Rule {F = F} n (done a) (done b) G
unfolding done
done_rule n a b G h = record { at = λ ts. ([], refl, h, done_agrees b ts) }

-- seq

less_le : (n : ℕ) (us : List Lexeme) → n ≤ less n us + length us
less_le n [] = omega arith
less_le zero (t ∷ us) = omega arith
less_le (suc n) (t ∷ us) = omega (arith, less_le n us)

pub less_below : (n : ℕ) (us : List Lexeme) → less n us ≤ n
less_below n [] = omega arith
less_below zero (t ∷ us) = omega arith
less_below (suc n) (t ∷ us) = omega (arith, less_below n us)

pub same_head : (a b c d : List Lexeme) → AllZip Alike a b → SameHead c d → SameHead (a ++ c) (b ++ d)
same_head [] [] c d p q = q
same_head [] (y ∷ b) c d p q = absurd p
same_head (x ∷ a) [] c d p q = absurd p
same_head (x ∷ a) (y ∷ b) c d p q = p.0

-- a list that is alike with two lists in a row is two such lists in a row
abbrev pub Parts : List Lexeme → List Lexeme → List Lexeme → Type 0
Parts a b cs = (a' b' : List Lexeme) × (cs ≡ a' ++ b') × AllZip Alike a a' × AllZip Alike b b'

pub parts : (a b cs : List Lexeme) → AllZip Alike (a ++ b) cs → Parts a b cs
parts [] b cs p = ([], cs, refl, tt, p)
parts (x ∷ a) b [] p = absurd p
parts (x ∷ a) b (c ∷ cs) p = let r = parts a b cs p.1 in (c ∷ r.0, r.1, ap (λ l. c ∷ l) r.2, (p.0, r.3), r.4)

pub alike_refl : (ts : List Lexeme) → AllZip Alike ts ts
alike_refl [] = tt
alike_refl (t ∷ ts) = (record { kind = refl; text = refl }, alike_refl ts)

pub SameHead_refl : (ts : List Lexeme) → SameHead ts ts
SameHead_refl [] = tt
SameHead_refl (t ∷ ts) = record { kind = refl; text = refl }

module _ {F A B : Type 0} (n : ℕ) (f g : Reader F A) (k l : A → Reader F B) (G : B → List Lexeme → Type 0) where
  abbrev pub Next : A → List Lexeme → Type 0
  Next a us = (b : A) → Rule (less n us) (k a) (l b) (λ y vs. G y (us ++ vs))

  seq_took : (ts mid : List Lexeme) (b : A) → g ts ≡ Took b mid → seq g l ts ≡ l b mid
  unfolding seq
  seq_took ts mid b e = ap (λ r. after r l) e

  seq_refused : (ts mid : List Lexeme) (e : Fault F) → g ts ≡ Refused mid e → seq g l ts ≡ Refused mid e
  unfolding seq
  seq_refused ts mid e p = ap (λ r. after r l) p

  -- g takes the first part of a list that is alike
  first_part : (us vs rest last us' rest' : List Lexeme) → rest ≡ vs ++ last → Agrees us rest g
      → AllZip Alike (us ++ vs) us' → SameHead last rest'
      → (b : A) × (mid : List Lexeme) × AllZip Alike vs mid × (seq g l (us' ++ rest') ≡ l b (mid ++ rest'))
  first_part us vs rest last us' rest' e p r t =
      let ps : Parts us vs us' = parts us vs us' r in
      let h : SameHead rest (ps.1 ++ rest') = rw e (same_head vs ps.1 last rest' ps.4 t) in
      let q = p ps.0 (ps.1 ++ rest') ps.3 h in (
        q.0,
        ps.1,
        ps.4,
        ap (λ z. seq g l z) (ap (λ z. z ++ rest') ps.2 ∙ append_assoc ps.0 ps.1 rest')
            ∙ seq_took _ _ q.0 q.1,
      )

  then_agrees : (us vs rest last : List Lexeme) → rest ≡ vs ++ last → Agrees us rest g
      → ((b : A) → Agrees vs last (l b)) → Agrees (us ++ vs) last (seq g l)
  then_agrees us vs rest last e p q us' rest' r t =
      let w = first_part us vs rest last us' rest' e p r t in
      let y = q w.0 w.1 rest' w.2 t in
      (y.0, w.3 ∙ y.1)

  then_fails : (us vs rest last : List Lexeme) (x : Fault F) → rest ≡ vs ++ last → Agrees us rest g
      → ((b : A) → Fails vs last x (l b)) → Fails (us ++ vs) last x (seq g l)
  then_fails us vs rest last x e p q us' rest' r t =
      let w = first_part us vs rest last us' rest' e p r t in
      w.3 ∙ q w.0 w.1 rest' w.2 t

  first_fails : (us rest : List Lexeme) (x : Fault F) → Fails us rest x g → Fails us rest x (seq g l)
  first_fails us rest x p us' rest' r t = seq_refused _ _ x (p us' rest' r t)

  -- what the second reader answers for one of the first one's results
  abbrev Second : List Lexeme → A → List Lexeme → Read F B → Type 0
  Second us b rest r = Meets (less n us) (λ y vs. G y (us ++ vs)) (l b) rest r

  all_agree : (us vs rest last : List Lexeme) (y : B) (b : A) → rest ≡ vs ++ last → Second us b rest (Took y last)
      → Agrees vs last (l b)
  all_agree us vs rest last y b e (ws, p, h, q) =
      subst (λ z. Agrees z last (l b)) (append_cancel_right ws vs last (sym p ∙ e)) q

  all_fail : (us vs rest last : List Lexeme) (x : Fault F) (b : A) → rest ≡ vs ++ last
      → Second us b rest (Refused last x) → Fails vs last x (l b)
  all_fail us vs rest last x b e (ws, p, h, q, z) =
      subst (λ z. Fails z last x (l b)) (append_cancel_right ws vs last (sym p ∙ e)) q

  second_meets : (ts us rest : List Lexeme) (b : A) → ts ≡ us ++ rest → Agrees us rest g → (r : Read F B)
      → ((b : A) → Second us b rest r) → Second us b rest r → Meets n G (seq g l) ts r
  second_meets ts us rest b e p (Took y last) all (vs, q, h, s) = (
    us ++ vs,
    e ∙ ap (λ z. us ++ z) q ∙ sym (append_assoc us vs last),
    h,
    then_agrees us vs rest last q p (λ c. all_agree us vs rest last y c q (all c)),
  )
  second_meets ts us rest b e p (Refused last x) all (vs, q, (more, a, h, y), s, z) = (
    us ++ vs,
    e ∙ ap (λ z. us ++ z) q ∙ sym (append_assoc us vs last),
    (more, a, subst (λ z. G a z) (sym (append_assoc us vs more)) h, y),
    then_fails us vs rest last x q p (λ c. all_fail us vs rest last x c q (all c)),
    place_map (λ y ws. G y (us ++ ws)) G vs (us ++ vs) x
        (λ w m. (m.0, m.1, subst (λ l. G m.1 l) (sym (append_assoc us vs (w ∷ m.0))) m.2, m.3)) z,
  )
  second_meets ts us rest b e p Out all (q, vs, last, o, (more, a, h, y)) = (
    rw (e, length-append us rest) (omega (arith, less_le n us)),
    us ++ vs,
    last,
    e ∙ ap (λ z. us ++ z) o ∙ sym (append_assoc us vs last),
    (more, a, subst (λ z. G a z) (sym (append_assoc us vs more)) h, y),
  )

  next_more : (us : List Lexeme) (w : Lexeme) → More Next us w → More G us w
  next_more us w (more, a, h, y) =
      let s = some_of (less n (us ++ (w ∷ more))) (k a) (l a) (λ y vs. G y ((us ++ (w ∷ more)) ++ vs)) (h a) in
      (more ++ s.0, s.1, subst (λ z. G s.1 z) (append_assoc us (w ∷ more) s.0) s.2, samples_join more s.0 y s.3)

  pub seq_meets : (ts : List Lexeme) (r : Read F A) → Meets n Next g ts r → Meets n G (seq g l) ts (after r k)
  seq_meets ts (Took a rest) (us, e, h, p) =
      let b = (p us rest (alike_refl us) (SameHead_refl rest)).0 in
      second_meets ts us rest b e p (k a rest) (λ c. (h c).at rest) ((h b).at rest)
  seq_meets ts (Refused rest x) (us, e, (more, a, h, y), p, z) =
      let s = some_of (less n (us ++ more)) (k a) (l a) (λ y vs. G y ((us ++ more) ++ vs)) (h a) in (
        us,
        e,
        (more ++ s.0, s.1, subst (λ z. G s.1 z) (append_assoc us more s.0) s.2, samples_join more s.0 y s.3),
        first_fails us rest x p,
        place_map Next G us us x (λ w m. next_more us w m) z,
      )
  seq_meets ts Out (q, us, last, e, (more, a, h, y)) =
      let s = some_of (less n (us ++ more)) (k a) (l a) (λ y vs. G y ((us ++ more) ++ vs)) (h a) in (
        q,
        us,
        last,
        e,
        (
          more ++ s.0,
          s.1,
          subst (λ z. G s.1 z) (append_assoc us more s.0) s.2,
          samples_join more s.0 y s.3,
        ),
      )

  pub seq_rule : Rule n f g Next → Rule n (seq f k) (seq g l) G
  unfolding seq
  seq_rule r = record { at = λ ts. seq_meets ts (f ts) (r.at ts) }

-- A reader h that goes as g does where the first token is alike.
turn_agrees : {F A : Type 0} (g h : Reader F A) (ts us rest : List Lexeme) → ts ≡ us ++ rest
    → ((other : List Lexeme) → SameHead ts other → h other ≡ g other) → Agrees us rest g → Agrees us rest h
turn_agrees g h ts us rest e same p us' rest' r t =
    let q = p us' rest' r t in
    (q.0, same (us' ++ rest') (rw e (same_head us us' rest rest' r t)) ∙ q.1)

turn_fails : {F A : Type 0} (g h : Reader F A) (ts us rest : List Lexeme) (x : Fault F) → ts ≡ us ++ rest
    → ((other : List Lexeme) → SameHead ts other → h other ≡ g other) → Fails us rest x g → Fails us rest x h
turn_fails g h ts us rest x e same p us' rest' r t =
    same (us' ++ rest') (rw e (same_head us us' rest rest' r t)) ∙ p us' rest' r t

pub turn : {F A : Type 0} (n : ℕ) (G : A → List Lexeme → Type 0) (g h : Reader F A) (ts : List Lexeme) (r : Read F A)
    → ((other : List Lexeme) → SameHead ts other → h other ≡ g other) → Meets n G g ts r → Meets n G h ts r
turn n G g h ts (Took a rest) same (us, e, w, p) = (us, e, w, turn_agrees g h ts us rest e same p)
turn n G g h ts (Refused rest x) same (us, e, w, p, z) = (us, e, w, turn_fails g h ts us rest x e same p, z)
turn n G g h ts Out same p = p

-- A rule for less is a rule.
weaken_meets : {F A : Type 0} (n m : ℕ) (G H : A → List Lexeme → Type 0) (g : Reader F A) (ts : List Lexeme)
    (r : Read F A)
    → m ≤ n → ((us : List Lexeme) (a : A) → G a us → H a us) → Meets n G g ts r → Meets m H g ts r
weaken_meets n m G H g ts (Took a rest) le w (us, e, h, p) = (us, e, w us a h, p)
weaken_meets n m G H g ts (Refused rest x) le w (us, e, (more, a, h, y), p, z) = (
  us,
  e,
  (more, a, w (us ++ more) a h, y),
  p,
  place_map G H us us x (λ o q. (q.0, q.1, w (us ++ (o ∷ q.0)) q.1 q.2, q.3)) z,
)
weaken_meets n m G H g ts Out le w (q, us, last, e, (more, a, h, y)) =
    (omega arith, us, last, e, (more, a, w (us ++ more) a h, y))

pub weaken : {F A : Type 0} (n m : ℕ) (f g : Reader F A) (G H : A → List Lexeme → Type 0) → m ≤ n
    → ((us : List Lexeme) (a : A) → G a us → H a us) → Rule n f g G → Rule m f g H
weaken n m f g G H le w r = record { at = λ ts. weaken_meets n m G H g ts (f ts) le w (r.at ts) }
