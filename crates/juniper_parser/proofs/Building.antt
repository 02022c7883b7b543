-- What is built of parts one after another.
use Rattle.std.proofs.Common.{◌≡◌, ℕ, List, [], ◌∷◌, ◌++◌, map, Option, Some, None, Result, Ok, Err, IfOk, refl, sym}
use Rattle.std.proofs.Common.{ap, ap₂, subst, ◌∙◌}
use Rattle.graphql_lexical.specs.Cutting.{Lexeme}
use Rattle.graphql_grammar.specs.Tree.{Scalars, Selection, Selections, selections_of, Definition}
use Rattle.graphql_grammar.specs.device.Productions.{optional_of}
use Rattle.juniper_tokens.specs.declared.error.ParseFailure.{ParseFailure}
use Rattle.juniper_tokens.specs.declared.error.ParseFailure.TheVariants as failures
use Rattle.juniper_tokens.specs.Cursor.{Read, Fails, Gives, ◌>>=◌}
use Rattle.juniper_parser.specs.Building.{BuildsEach, BuildsList, BuildsOptional, BuildsOptionalSet}
use Rattle.juniper_parser.specs.Building.{BuildsSet, BuildsTree}
use Rattle.juniper_parser.specs.device.Builds.{Builds, BuildsOr}
use Rattle.juniper_parser.specs.Promise.{HasTree}
use Rattle.juniper_tokens.specs.Errors.{Error}
use Rattle.juniper_parser.proofs.Loops.{with_front}

-- no items in front
pub front_none : {A B : Type 0} (r : Read (List A × B)) → with_front [] r ≡ r
front_none (Ok x) = refl
front_none (Err e) = refl

module _ {B X A : Type 0} (built : B → B → X → A → Type 0) where
  -- some were built, and then one more
  pub each_more : (a b c : B) (xs : List X) (ps : List A) (x : X) (p : A) → BuildsEach built a b xs ps → built b c x p
      → BuildsEach built a c (xs ++ x ∷ []) (ps ++ p ∷ [])
  each_more a b c [] [] x p same one = (c, subst (λ z. built z c x p) (sym same) one, refl)
  each_more a b c [] (q ∷ ps) x p some one = absurd some
  each_more a b c (y ∷ xs) [] x p some one = absurd some
  each_more a b c (y ∷ xs) (q ∷ ps) x p some one = (some.0, some.1, each_more some.0 b c xs ps x p some.2 one)

module _ {B X A : Type 0} (view : X → A) where
  -- what was built is seen as the parts
  pub each_seen : (a b : B) (xs : List X) (ps : List A) → BuildsEach (λ old new x p. view x ≡ p) a b xs ps
      → map view xs ≡ ps
  each_seen a b [] [] same = refl
  each_seen a b [] (q ∷ ps) some = absurd some
  each_seen a b (x ∷ xs) [] some = absurd some
  each_seen a b (x ∷ xs) (q ∷ ps) some = ap₂ (λ y ys. y ∷ ys) some.1 (each_seen some.0 b xs ps some.2)

-- a call returns what is seen as the part that the step gives, or the parser's error
pub seen_gives : {X A : Type 0} (view : X → A) (result : Result X ParseFailure) (left : List Lexeme) (read : Read A)
    → BuildsOr (λ (a b : ParseFailure). b ≡ a) (λ x p. view x ≡ p) result left read → Gives view result left read
seen_gives view (Ok x) left read made = made.reads ∙ ap (λ p. Ok (p, left)) (sym made.is_built)
seen_gives view (Err e) left read failed = subst (λ (f : ParseFailure). Fails f left read) (sym failed.1) failed.2

-- selections that were built are a set
pub set_builds : {B L X C : Type 0} (built : B → B → X → Selection C → Type 0) (gathered : L → List X) (old new : B)
    (result : Result L ParseFailure) (left : List Lexeme) (read : Read (List (Selection C)))
    → Builds (BuildsList built gathered old new) result left read
    → Builds (BuildsSet built gathered old new) result left (read >>= λ ss. Ok (selections_of ss.0, ss.1))
set_builds built gathered old new (Ok l) left read made = record {
  part = selections_of made.part;
  reads = ap (λ z. z >>= λ ss. Ok (selections_of ss.0, ss.1)) made.reads;
  is_built = record { selections = made.part; are = refl; are_built = made.is_built };
}
set_builds built gathered old new (Err (failures.Refused e)) left read fails =
    ap (λ z. z >>= λ ss. Ok (selections_of ss.0, ss.1)) fails
set_builds built gathered old new (Err failures.Memory) left read fails = tt

-- a set that was built, if there is one, is an optional one
pub optional_set_builds : {B L X C : Type 0} (built : B → B → X → Selection C → Type 0) (gathered : L → List X) (old new : B)
    (parts : Option L) (set : Option (Selections C))
    → BuildsOptional (BuildsSet built gathered) old new parts set
    → BuildsOptionalSet built gathered old new parts (optional_of set)
optional_set_builds built gathered old new None None same = same
optional_set_builds built gathered old new None (Some s) some = absurd some
optional_set_builds built gathered old new (Some x) None some = absurd some
optional_set_builds built gathered old new (Some x) (Some s) one = one

-- the tree that was built of a source's is its tree
seen_tree : {B X Y C : Type 0} (view : X → Definition C) (items : Y → List X) (S : Scalars C Error) (source : List ℕ)
    (old new : B) (y : Y) → BuildsTree (λ (o n : B) x p. view x ≡ p) items S source old new y
    → HasTree S source (map view (items y))
seen_tree view items S source old new y h =
    subst (HasTree S source) (sym (each_seen view old new (items y) h.tree h.are_built)) h.has_tree

-- the same of what a call returned
pub seen_trees : {B X Y C E : Type 0} (view : X → Definition C) (items : Y → List X) (S : Scalars C Error) (source : List ℕ)
    (old new : B) (result : Result Y E) → IfOk result (BuildsTree (λ (o n : B) x p. view x ≡ p) items S source old new)
    → IfOk result (λ y. HasTree S source (map view (items y)))
seen_trees view items S source old new (Ok y) h = seen_tree view items S source old new y h
seen_trees view items S source old new (Err e) h = tt
