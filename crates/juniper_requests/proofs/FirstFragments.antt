-- The first element that passes a test, and its index.
use Rattle.std.proofs.Common.{◌≡◌, ℕ, suc, ◌+◌, Bool, true, false, cond, List, [], ◌∷◌, Option, Some, None}
use Rattle.std.proofs.Common.{refl, sym, ap, ◌∙◌, arith}
use Rattle.std.specs.List.{find, position_from, slice_get}
use Rattle.graphql_grammar.specs.Tokens.{Text}
use Rattle.graphql_grammar.specs.Tree as tree
use Rattle.graphql_grammar.specs.Tree.{Definition}
use Rattle.juniper_values.specs.Scalar.{Content}
use Rattle.juniper_complexity.specs.Parts.{is_fragment_named, is_operation, fragment_at}

module _ {X : Type 0} (test : X → Bool) where
  -- the first that passes has this index, where the list starts at index i
  record IsFirst (i : ℕ) (xs : List X) (k : ℕ) : Type 0 where
    pub before : ℕ
    pub index : k ≡ i + before
    pub it : X
    pub there : slice_get xs before ≡ Some it
    pub found : find test xs ≡ Some it
    pub passes : test it ≡ true

  none_passes : (i : ℕ) (xs : List X) → position_from test i xs ≡ None → find test xs ≡ None
  none_passes i [] e = refl
  none_passes i (x ∷ xs) e = by_test (test x) refl (none_passes (i + 1) xs) e
    where
      by_test : (b : Bool) → test x ≡ b → (position_from test (i + 1) xs ≡ None → find test xs ≡ None)
          → cond b (Some i) (position_from test (i + 1) xs) ≡ None → find test (x ∷ xs) ≡ None
      by_test true t more e = absurd (cc e)
      by_test false t more e = ap (λ b. cond b (Some x) (find test xs)) t ∙ more e

  first_at : (i : ℕ) (xs : List X) (k : ℕ) → position_from test i xs ≡ Some k → IsFirst i xs k
  first_at i [] k e = absurd (cc e)
  first_at i (x ∷ xs) k e = by_test (test x) refl (first_at (i + 1) xs k) e
    where
      by_test : (b : Bool) → test x ≡ b → (position_from test (i + 1) xs ≡ Some k → IsFirst (i + 1) xs k)
          → cond b (Some i) (position_from test (i + 1) xs) ≡ Some k → IsFirst i (x ∷ xs) k
      by_test true t more e =
          let same : i ≡ k = cc e in record {
            before = 0;
            index = omega (arith, same);
            it = x;
            there = refl;
            found = ap (λ b. cond b (Some x) (find test xs)) t;
            passes = t;
          }
      by_test false t more e =
          let r = more e in record {
            before = suc r.before;
            index = omega (arith, r.index);
            it = r.it;
            there = r.there;
            found = ap (λ b. cond b (Some x) (find test xs)) t ∙ r.found;
            passes = r.passes;
          }

is_fragment : (name : Text) (d : Definition Content) → is_fragment_named name d ≡ true → is_operation d ≡ false
is_fragment name (tree.Operation _ _ _ _ _ _) e = absurd (cc e)
is_fragment name (tree.Fragment _ _ _ _ _) e = refl

pub no_fragment : (name : Text) (document : List (Definition Content)) → fragment_at document name ≡ None
    → find (is_fragment_named name) document ≡ None
no_fragment name document e = none_passes (is_fragment_named name) 0 document e

-- What is at the index of the first fragment of a name is that fragment.
pub first_fragment : (name : Text) (document : List (Definition Content)) (k : ℕ)
    → fragment_at document name ≡ Some k → (found : Option (Definition Content))
    → ((d : Definition Content) → slice_get document k ≡ Some d → is_operation d ≡ false → found ≡ Some d)
    → found ≡ find (is_fragment_named name) document
first_fragment name document k e found is =
    let r = first_at (is_fragment_named name) 0 document k e in
    let same : k ≡ r.before = omega (arith, r.index) in
    is r.it (ap (slice_get document) same ∙ r.there) (is_fragment name r.it r.passes) ∙ sym r.found
