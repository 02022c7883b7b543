-- Equality of arguments regardless of their places is an equivalence, since that of values is one.
use Rattle.std.proofs.Common.{◌≡◌, ◌==◌, Bool, true, ◌&&◌, ◌||◌, ◌⊎◌, inl, inr, List, [], ◌∷◌, length, refl, sym, ap₂}
use Rattle.std.proofs.Common.{◌∙◌, true≢false}
use Rattle.std.specs.Cmp.{first_so, second_so}
use Rattle.std.specs.List.{list_all, list_any}
use Rattle.std.proofs.Math.Bool.{and_comm}
use Rattle.std.proofs.lemmas.Bool.{and_from, or_cases, or_left, or_right}
use Rattle.std.proofs.lemmas.Bool.Decides.{Decides-eqb}
use Rattle.std.proofs.lemmas.Cmp.{nat_eq_equiv, nat_list_eq_equiv}
use Rattle.graphql_grammar.specs.Tree.{Argument}
use Rattle.juniper_values.specs.Same.{same_but_place}
use Rattle.juniper_values.specs.Text.{same_text}
use Rattle.juniper_values.specs.laws.ValueLaws.{IsEqualityLike}
use Rattle.juniper_tree.specs.SameArguments.{same_argument, are_among, same_arguments}

-- ---- an element that is the same as one of a list

module _ {A : Type 0} (same : A → A → Bool) where
  abbrev Among : List A → List A → Type 0
  Among xs ys = list_all (λ x. list_any (same x) ys) xs ≡ true

  wider : (xs ys : List A) (y : A) → Among xs ys → Among xs (y ∷ ys)
  wider [] ys y e = refl
  wider (x ∷ xs) ys y e =
      and_from (same x y || list_any (same x) ys) _ (or_right (same x y) _ (first_so (list_any (same x) ys) _ e))
      (wider xs ys y (second_so (list_any (same x) ys) _ e))

  module _ (reflexive : (a : A) → same a a ≡ true) where
    among_itself : (xs : List A) → Among xs xs
    among_itself [] = refl
    among_itself (x ∷ xs) =
        and_from (same x x || list_any (same x) xs) _ (or_left (same x x) _ (reflexive x))
        (wider xs xs x (among_itself xs))

  module _ (transitive : (a b c : A) → same a b ≡ true → same b c ≡ true → same a c ≡ true) where
    passed : (x y : A) (zs : List A) → same x y ≡ true → list_any (same y) zs ≡ true → list_any (same x) zs ≡ true
    passed x y [] e f = absurd (true≢false (sym f))
    passed x y (z ∷ zs) e f = by_test (or_cases (same y z) _ f) (passed x y zs e)
      where
        by_test : (same y z ≡ true) ⊎ (list_any (same y) zs ≡ true)
            → (list_any (same y) zs ≡ true → list_any (same x) zs ≡ true)
            → (same x z || list_any (same x) zs) ≡ true
        by_test (inl h) later = or_left (same x z) _ (transitive x y z e h)
        by_test (inr h) later = or_right (same x z) _ (later h)

    found_further : (x : A) (ys zs : List A) → list_any (same x) ys ≡ true → Among ys zs
        → list_any (same x) zs ≡ true
    found_further x [] zs e f = absurd (true≢false (sym e))
    found_further x (y ∷ ys) zs e f = by_test (or_cases (same x y) _ e)
        (λ h. found_further x ys zs h (second_so (list_any (same y) zs) _ f))
      where
        by_test : (same x y ≡ true) ⊎ (list_any (same x) ys ≡ true)
            → (list_any (same x) ys ≡ true → list_any (same x) zs ≡ true) → list_any (same x) zs ≡ true
        by_test (inl h) later = passed x y zs h (first_so (list_any (same y) zs) _ f)
        by_test (inr h) later = later h

    among_further : (xs ys zs : List A) → Among xs ys → Among ys zs → Among xs zs
    among_further [] ys zs e f = refl
    among_further (x ∷ xs) ys zs e f =
        and_from (list_any (same x) zs) _ (found_further x ys zs (first_so (list_any (same x) ys) _ e) f)
        (among_further xs ys zs (second_so (list_any (same x) ys) _ e) f)

-- ---- arguments

-- what is left to compare where there are as many, and each of the former is among the latter
pub other_way : {C : Type 0} (eq : C → C → Bool) (xs ys : List (Argument C)) (b : Bool) → length xs ≡ length ys
    → are_among eq xs ys ≡ true → b ≡ are_among eq ys xs → b ≡ same_arguments eq xs ys
other_way eq xs ys b count forth e =
    e ∙ sym (ap₂ (λ p q. p && (q && are_among eq ys xs)) ((Decides-eqb (length xs) (length ys)).1 count) forth)

module _ {C : Type 0} (eq : C → C → Bool) (values : IsEqualityLike (same_but_place eq)) where
  argument_itself : (a : Argument C) → same_argument eq a a ≡ true
  argument_itself a = and_from (same_text a.name.item a.name.item) _ (nat_list_eq_equiv.refl a.name.item)
      (values.reflexive a.value.item)

  argument_along : (a b c : Argument C) → same_argument eq a b ≡ true → same_argument eq b c ≡ true
      → same_argument eq a c ≡ true
  argument_along a b c e f =
      and_from (same_text a.name.item c.name.item) _
      (nat_list_eq_equiv.congr a.name.item b.name.item c.name.item (first_so (same_text a.name.item b.name.item) _ e)
      ∙ first_so (same_text b.name.item c.name.item) _ f)
      (values.transitive a.value.item b.value.item c.value.item
      (second_so (same_text a.name.item b.name.item) _ e) (second_so (same_text b.name.item c.name.item) _ f))

  arguments_itself : (xs : List (Argument C)) → same_arguments eq xs xs ≡ true
  arguments_itself xs =
      let here = among_itself (same_argument eq) argument_itself xs in
      and_from (length xs == length xs) _ (nat_eq_equiv.refl (length xs)) (and_from (are_among eq xs xs) _ here here)

  arguments_back : (xs ys : List (Argument C)) → same_arguments eq xs ys ≡ same_arguments eq ys xs
  arguments_back xs ys = ap₂ (λ a b. a && b) (nat_eq_equiv.symm (length xs) (length ys))
      (and_comm (are_among eq xs ys) (are_among eq ys xs))

  arguments_along : (xs ys zs : List (Argument C)) → same_arguments eq xs ys ≡ true → same_arguments eq ys zs ≡ true
      → same_arguments eq xs zs ≡ true
  arguments_along xs ys zs e f =
      let p = second_so (length xs == length ys) _ e in
      let q = second_so (length ys == length zs) _ f in
      let further = among_further (same_argument eq) argument_along in
      and_from (length xs == length zs) _
      (nat_eq_equiv.congr (length xs) (length ys) (length zs) (first_so (length xs == length ys) _ e)
      ∙ first_so (length ys == length zs) _ f)
      (and_from (are_among eq xs zs) _
      (further xs ys zs (first_so (are_among eq xs ys) _ p) (first_so (are_among eq ys zs) _ q))
      (further zs ys xs (second_so (are_among eq ys zs) _ q) (second_so (are_among eq xs ys) _ p)))

  pub arguments_alike : IsEqualityLike (same_arguments eq)
  arguments_alike = record {
    reflexive = arguments_itself;
    symmetric = arguments_back;
    transitive = arguments_along;
  }
