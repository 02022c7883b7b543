-- Objects as maps: what the code's map holds, seen as pairs.
use Rattle.std.proofs.Common.{◌≡◌, ℕ, Bool, true, false, List, [], ◌∷◌, ◌++◌, map, subst, refl, sym, ap, ◌∙◌, bytes_eq, Bor, String, Global}
use Rattle.std.specs.Prelude.{if◌then◌else◌}
use Rattle.std.specs.List.{AllByRecursion}
use Rattle.std.specs.Str.{chars, IsUtf8}
use Rattle.indexmap.specs.IndexMap.{insert_entry}
use Rattle.juniper_values.specs.Text.{Text}
use Rattle.juniper_values.specs.Maps.{put, put_all}
use Rattle.graphql_grammar.specs.Tree.{Value, ObjectFields, object_field}
use Rattle.juniper_values.specs.Make.{unlocated_fields}
use Rattle.juniper_values.specs.View.{view, text_of}
use Rattle.juniper_values.specs.declared.input_value.InputValue.{InputValue}
use Rattle.graphql_lexical.specs.Place.{Span}
use Rattle.juniper_tokens.proofs.Public.{pointwise-chars}
use Rattle.graphql_grammar.specs.Tokens.{Word}

pub map_last : {A B : Type 0} (f : A → B) (xs : List A) (x : A) → map f (xs ++ x ∷ []) ≡ map f xs ++ f x ∷ []
map_last f [] x = refl
map_last f (y ∷ ys) x = ap (λ zs. f y ∷ zs) (map_last f ys x)

module _ {V W : Type 0} (f : V → W) where
  -- an entry of the code's map, as a pair of a text and a value
  abbrev pub seen : Bor (List ℕ) × V → Text × W
  seen e = (chars e.0.now, f e.1)

  abbrev eq : Bor (List ℕ) → Bor (List ℕ) → Bool
  eq a b = bytes_eq a.now b.now

  abbrev pub AreTexts : List (Bor (List ℕ) × V) → Type 0
  AreTexts = AllByRecursion (λ e. IsUtf8 e.0.now)

  pub seen-insert : (es : List (Bor (List ℕ) × V)) (k : Bor (List ℕ)) (v : V) → AreTexts es → IsUtf8 k.now
      → map seen (insert_entry eq es k v) ≡ put (map seen es) (chars k.now) (f v)
  seen-insert [] k v t u = refl
  seen-insert (e ∷ es) k v t u =
      by_key (eq k e.0) (seen-insert es k v t.1 u)
      ∙ ap (λ b. if b then (chars e.0.now, f v) ∷ map seen es else seen e ∷ put (map seen es) (chars k.now) (f v))
      (pointwise-chars k.now e.0.now u t.0)
    where
      by_key : (b : Bool) → map seen (insert_entry eq es k v) ≡ put (map seen es) (chars k.now) (f v)
          → map seen (if b then (e.0, v) ∷ es else e ∷ insert_entry eq es k v)
          ≡ (if b then (chars e.0.now, f v) ∷ map seen es else seen e ∷ put (map seen es) (chars k.now) (f v))
      by_key true later = refl
      by_key false later = ap (λ ps. seen e ∷ ps) later

  texts-insert : (es : List (Bor (List ℕ) × V)) (k : Bor (List ℕ)) (v : V) → AreTexts es → IsUtf8 k.now
      → AreTexts (insert_entry eq es k v)
  texts-insert [] k v t u = (u, tt)
  texts-insert (e ∷ es) k v t u = by_key (eq k e.0) (texts-insert es k v t.1 u)
    where
      by_key : (b : Bool) → AreTexts (insert_entry eq es k v)
          → AreTexts (if b then (e.0, v) ∷ es else e ∷ insert_entry eq es k v)
      by_key true later = (t.0, t.1)
      by_key false later = (t.0, later)

-- one field more in the map
module _ {V C : Type 0} (f : V → Value C) (new es : List (Bor (List ℕ) × V)) (k : Bor (List ℕ)) (v : V)
    (texts : AreTexts f es) (text : IsUtf8 k.now) (is : new ≡ insert_entry (λ a b. bytes_eq a.now b.now) es k v) where
  pub still_texts : AreTexts f new
  still_texts = subst (AreTexts f) (sym is) (texts-insert f es k v texts text)

  pub put_more : (key : Word) (r : Span) (rest : ObjectFields C) (all : List (Text × Value C)) → chars k.now ≡ key.item
      → put_all (map (seen f) es) (object_field key (f v) r rest) ≡ all → put_all (map (seen f) new) rest ≡ all
  put_more key r rest all e so_far =
      ap (λ ps. put_all ps rest) (ap (map (seen f)) is ∙ seen-insert f es k v texts text
      ∙ ap (λ t. put (map (seen f) es) t (f v)) e) ∙ so_far

-- the fields that are made of pairs
abbrev pub placed : {S : Type 0} → List (String Global × InputValue S) → ObjectFields S
placed es = unlocated_fields (map (λ e. (text_of e.0, view (λ s. s) e.1)) es)
