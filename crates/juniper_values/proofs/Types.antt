-- How types are written.
use Rattle.std.proofs.Common.{◌≡◌, ℕ, ◌+◌, ◌<◌, List, [], ◌∷◌, ◌++◌, length, take, get_or, refl, sym, ap, ◌∙◌, append_assoc, append-nil}
use Rattle.std.specs.Prelude.{flat_map}
use Rattle.std.proofs.lemmas.List.{flat_map_more, take_more}
use Rattle.std.proofs.lemmas.Str.{encodes-append}
use lib.Utf8.{encode, encodes}
use Rattle.juniper_values.specs.Text.{Text}
use Rattle.juniper_values.specs.TypeLiteral.{opening, closing, type_text}
use Rattle.juniper_values.specs.declared.type_literal.TypeModifier.{TypeModifier}
use Rattle.juniper_values.specs.declared.type_literal.TypeModifier.TheVariants.{NonNull, List as ListOf}

opening-bytes : (m : TypeModifier) → opening m ≡ encodes (opening m)
unfolding encode
opening-bytes NonNull = refl
opening-bytes (ListOf n) = refl

closing-bytes : (m : TypeModifier) → closing m ≡ encodes (closing m)
unfolding encode
closing-bytes NonNull = refl
closing-bytes (ListOf n) = refl

-- what one modifier more writes
module _ (f : TypeModifier → Text) (bytes : (m : TypeModifier) → f m ≡ encodes (f m)) where
  parts_more : (ms : List TypeModifier) (i : ℕ) (d : TypeModifier) (bs : List ℕ) → i < length ms
      → bs ≡ f (get_or ms i d)
      → encodes (flat_map f (take i ms)) ++ bs ≡ encodes (flat_map f (take (i + 1) ms))
  parts_more ms i d bs h e =
      ap (λ x. encodes (flat_map f (take i ms)) ++ x) (e ∙ bytes (get_or ms i d))
      ∙ sym (encodes-append (flat_map f (take i ms)) (f (get_or ms i d)))
      ∙ ap encodes (flat_map_more f [] (take i ms) (get_or ms i d) ∙ ap (flat_map f) (sym (take_more ms i d h)))

pub opening_more : (ms : List TypeModifier) (i : ℕ) (d : TypeModifier) (bs : List ℕ) → i < length ms
    → bs ≡ opening (get_or ms i d)
    → encodes (flat_map opening (take i ms)) ++ bs ≡ encodes (flat_map opening (take (i + 1) ms))
opening_more = parts_more opening opening-bytes

pub closing_more : (ms : List TypeModifier) (i : ℕ) (d : TypeModifier) (bs : List ℕ) → i < length ms
    → bs ≡ closing (get_or ms i d)
    → encodes (flat_map closing (take i ms)) ++ bs ≡ encodes (flat_map closing (take (i + 1) ms))
closing_more = parts_more closing closing-bytes

-- ---- the whole text

opening_turns : (m : TypeModifier) (ms : List TypeModifier)
    → flat_map opening ms ++ opening m ≡ opening m ++ flat_map opening ms
opening_turns m [] = sym (append-nil (opening m))
opening_turns m (NonNull ∷ ms) = opening_turns m ms
opening_turns NonNull (ListOf n ∷ ms) = append-nil (91 ∷ flat_map opening ms)
opening_turns (ListOf k) (ListOf n ∷ ms) = ap (λ t. 91 ∷ t) (opening_turns (ListOf k) ms)

pub type_text-parts : (inner : Text) (ms : List TypeModifier)
    → type_text inner ms ≡ flat_map opening ms ++ (inner ++ flat_map closing ms)
type_text-parts inner [] = sym (append-nil inner)
type_text-parts inner (m ∷ ms) =
    type_text-parts (opening m ++ (inner ++ closing m)) ms
    ∙ regroup (flat_map opening ms) (opening m) inner (closing m) (flat_map closing ms)
    ∙ ap (λ t. t ++ (inner ++ (closing m ++ flat_map closing ms))) (opening_turns m ms)
  where
    regroup : (a b c d e : Text) → a ++ ((b ++ (c ++ d)) ++ e) ≡ (a ++ b) ++ (c ++ (d ++ e))
    regroup a b c d e = simp append_assoc

-- written in three parts
pub type_text-bytes : (inner : Text) (ms : List TypeModifier)
    → encodes (flat_map opening ms) ++ (encodes inner ++ encodes (flat_map closing ms)) ≡ encodes (type_text inner ms)
type_text-bytes inner ms =
    sym (ap encodes (type_text-parts inner ms) ∙ encodes-append (flat_map opening ms) (inner ++ flat_map closing ms)
    ∙ ap (λ t. encodes (flat_map opening ms) ++ t) (encodes-append inner (flat_map closing ms)))
