-- Bytes that grow by one text after another.
use Rattle.std.proofs.Common.{◌≡◌, ◌∙◌, ℕ, ◌+◌, ◌<◌, ◌≤◌, List, [], ◌∷◌, ◌++◌, length, drop, map, get_or, refl, sym, ap}
use Rattle.std.proofs.Common.{append_assoc, append-nil}
use Rattle.std.specs.Str.{encode_utf8_all}
use Rattle.std.proofs.lemmas.List.{drop_all, drop_more}
use Rattle.std.proofs.lemmas.Str.{encodes-append}
use Rattle.graphql_grammar.specs.Tokens.{Text}
use Rattle.graphql_nodes.specs.Nodes.{each}

-- by one text, and then by another
pub grown : (old mid new xs ys : List ℕ) → mid ≡ old ++ encode_utf8_all xs → new ≡ mid ++ encode_utf8_all ys
    → new ≡ old ++ encode_utf8_all (xs ++ ys)
grown old mid new xs ys p q = q ∙ rw (p, encodes-append, append_assoc) refl

-- by nothing
pub grown_none : (old : List ℕ) → old ≡ old ++ encode_utf8_all []
grown_none old = sym (append-nil old)

-- by the lines of items in a row, one item a turn of a loop
module _ {A B : Type 0} (line : B → Text) (view : A → B) where
  abbrev bytes : List A → List ℕ
  bytes xs = encode_utf8_all (each line (map view xs))

  pub next_line : (all old new : List ℕ) (xs : List A) (i : ℕ) (x : A) → i < length xs → x ≡ get_or xs i x
      → all ≡ old ++ bytes (drop i xs) → new ≡ old ++ encode_utf8_all (line (view x))
      → all ≡ new ++ bytes (drop (i + 1) xs)
  unfolding each
  next_line all old new xs i x lt r e h =
      let rest = drop (i + 1) xs in
      let left : drop i xs ≡ x ∷ rest = drop_more xs i x lt ∙ ap (λ (y : A). y ∷ rest) (sym r) in
      e ∙ rw (left, h, encodes-append) (sym (append_assoc old _ _))

  pub no_line : (all old : List ℕ) (xs : List A) (i : ℕ) → length xs ≤ i → all ≡ old ++ bytes (drop i xs) → old ≡ all
  unfolding each
  no_line all old xs i le e = sym (e ∙ rw (drop_all i xs le) (append-nil old))
