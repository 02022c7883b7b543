-- Replacing escapes gives what a text stands for, unit by unit.
use Rattle.std.proofs.Common.{◌≡◌, ◌≢◌, ℕ, ◌<◌, Bool, true, false, ◌⊎◌, List, [], ◌∷◌, ◌++◌, Option, Some, None, refl, sym, ◌∙◌, subst, arith, IsTrue}
use Rattle.std.specs.Prelude.{if◌then◌else◌, ◌==◌, not}
use Rattle.std.specs.List.{AllByRecursion, concat}
use Rattle.std.proofs.lemmas.Bool.{and_parts, eqb-true, eqb-false, ne_eqb}
use Rattle.std.proofs.lemmas.Bool.Decides.{nat_tests}
use Rattle.graphql_lexical.specs.Characters.{is_escape, is_plain}
use Rattle.graphql_lexical.specs.Tokens.{AreScalarDigits, IsUnit, plain, escape as escape_unit}
use Rattle.graphql_lexical.specs.Tokens.{unicode as unicode_unit, Pieces}
use Rattle.juniper_values.specs.Text.{Text}
use Rattle.juniper_values.specs.Escapes.{hex_number, short_escape, is_surrogate, is_scalar, unicode_escape, in_front, unescape, unescape_backslash, unescape_u}
use Rattle.juniper_values.specs.laws.ValueLaws.{IsExactlyUnescaped}
use Rattle.juniper_values.proofs.HexNumbers.{scalar_number, number_scalar}
use Rattle.juniper_values.specs.Units.{StandsFor, nothing, itself, escape, unicode}

-- ---- one character

by_branch : {A Q : Type 0} (b : Bool) (x y z : A)
    → (b ≡ true → x ≡ z → Q) → (b ≡ false → y ≡ z → Q) → (if b then x else y) ≡ z → Q
by_branch true x y z f g e = f refl e
by_branch false x y z f g e = g refl e

-- what holds of each character in front of each text holds of what is both
each_in_front : (P : Text → Type 0) (d : Option ℕ) (o : Option Text) (u : Text)
    → ((c : ℕ) (w : Text) → d ≡ Some c → o ≡ Some w → P (c ∷ w)) → in_front d o ≡ Some u → P u
each_in_front P None o u h e = absurd (cc)
each_in_front P (Some c) None u h e = absurd (cc)
each_in_front P (Some c) (Some w) u h e = let is : c ∷ w ≡ u = cc in subst P is (h c w refl refl)

not_u : (c d : ℕ) → short_escape c ≡ Some d → c ≢ 117
not_u c d e is = let none : None ≡ Some d = sym (rw is refl) ∙ e in absurd (cc none)

apart : (n : ℕ) → (n < 55296) ⊎ (57343 < n) → not (is_surrogate n) ≡ true
apart n h = grind (arith, nat_tests, h)

apart_from : (n : ℕ) → not (is_surrogate n) ≡ true → (n < 55296) ⊎ (57343 < n)
apart_from n e = grind (arith, nat_tests, e)

of_scalar : (h i j k : ℕ) → AreScalarDigits h i j k → unicode_escape h i j k ≡ Some (hex_number h i j k)
of_scalar h i j k q = rw (q.0.0, q.0.1.0, q.0.1.1.0, q.0.1.1.1.0, apart (hex_number h i j k) (scalar_number h i j k q)) refl

scalar_from : (h i j k c : ℕ) → unicode_escape h i j k ≡ Some c → AreScalarDigits h i j k × (hex_number h i j k ≡ c)
scalar_from h i j k c =
    by_branch (is_scalar h i j k) (Some (hex_number h i j k)) None (Some c)
    (λ t e.
    let whole = and_parts _ _ t in
    let four = and_parts _ _ whole.0 in
    let three = and_parts _ _ four.0 in
    let two = and_parts _ _ three.0 in
    let number = apart_from (hex_number h i j k) whole.1 in
    ((number_scalar h i j k two.0 two.1 three.1 four.1 number), cc))
    (λ t e. absurd (cc e))

-- ---- both ways

unescaped : (t u : Text) → StandsFor t u → unescape t ≡ Some u
unescaped _ _ nothing = refl
unescaped _ _ (itself c t u other s) = rw (ne_eqb c 92 other, unescaped t u s) refl
unescaped _ _ (escape c d t u e s) = rw (ne_eqb c 117 (not_u c d e), e, unescaped t u s) refl
unescaped _ _ (unicode h i j k t u q s) = rw (of_scalar h i j k q, unescaped t u s) refl

mutual
  stands : (t u : Text) → unescape t ≡ Some u → StandsFor t u
  stands [] u e = let is : [] ≡ u = cc in subst (StandsFor []) is nothing
  stands (c ∷ t) u e =
      by_branch (c == 92) (unescape_backslash t) (in_front (Some c) (unescape t)) (Some u)
      (λ x f. subst (λ d. StandsFor (d ∷ t) u) (sym (eqb-true c 92 x)) (escaped t u f))
      (λ x.
      each_in_front (StandsFor (c ∷ t)) (Some c) (unescape t) u
      (λ d w is rest.
      let same : c ≡ d = cc in
      subst (λ d. StandsFor (c ∷ t) (d ∷ w)) same (itself c t w (eqb-false c 92 x) (stands t w rest)))) e

  escaped : (t u : Text) → unescape_backslash t ≡ Some u → StandsFor (92 ∷ t) u
  escaped [] u e = absurd (cc)
  escaped (c ∷ t) u e =
      by_branch (c == 117) (unescape_u t) (in_front (short_escape c) (unescape t)) (Some u)
      (λ x f. subst (λ d. StandsFor (92 ∷ d ∷ t) u) (sym (eqb-true c 117 x)) (numbered t u f))
      (λ x.
      each_in_front (StandsFor (92 ∷ c ∷ t)) (short_escape c) (unescape t) u
      (λ d w is rest. escape c d t w is (stands t w rest))) e

  numbered : (t u : Text) → unescape_u t ≡ Some u → StandsFor (92 ∷ 117 ∷ t) u
  numbered (h ∷ i ∷ j ∷ k ∷ t) u e =
      let Whole = StandsFor (92 ∷ 117 ∷ h ∷ i ∷ j ∷ k ∷ t) in
      each_in_front Whole (unicode_escape h i j k) (unescape t) u
      (λ c w is rest.
      let q = scalar_from h i j k c is in
      subst (λ d. Whole (d ∷ w)) q.1 (unicode h i j k t w q.0 (stands t w rest))) e
  numbered t u e = absurd (cc)

pub exactly : (t : Text) → IsExactlyUnescaped t
exactly t u = (stands t u, unescaped t u)

-- ---- each String's text stands for a text

escape_stands : (c : ℕ) → IsTrue (is_escape c) → (d : ℕ) × (short_escape c ≡ Some d)
escape_stands c t = by_some (short_escape c) refl
  where
    by_some : (o : Option ℕ) → short_escape c ≡ o → (d : ℕ) × (short_escape c ≡ Some d)
    by_some (Some d) e = (d, e)
    by_some None e = absurd (grind (arith, nat_tests))

plain_other : (c : ℕ) → IsTrue (is_plain c) → c ≢ 92
plain_other c t e = grind (arith, nat_tests)

unit_stands : (p rest w : Text) → IsUnit p → StandsFor rest w → (u : Text) × StandsFor (p ++ rest) u
unit_stands _ rest w (plain {c} h) s = (c ∷ w, itself c rest w (plain_other c h) s)
unit_stands _ rest w (escape_unit {c} h) s = let d = escape_stands c h in (d.0 ∷ w, escape c d.0 rest w d.1 s)
unit_stands _ rest w (unicode_unit {h} {i} {j} {k} q) s = (hex_number h i j k ∷ w, unicode h i j k rest w q s)

pieces_stand : (ps : List Text) → AllByRecursion IsUnit ps → (u : Text) × StandsFor (concat ps) u
pieces_stand [] h = ([], nothing)
pieces_stand (p ∷ ps) h = let r = pieces_stand ps h.1 in unit_stands p (concat ps) r.0 h.0 r.1

pub units_stand : (t : Text) → Pieces IsUnit t → (u : Text) × StandsFor t u
units_stand t h = let r = pieces_stand h.0 h.1 in (r.0, subst (λ x. StandsFor x r.0) (sym h.2) r.1)
