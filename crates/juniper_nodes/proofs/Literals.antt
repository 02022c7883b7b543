-- Contents of literals, compared and shown.
use Rattle.std.proofs.Common.{◌≡◌, ◌∙◌, ℕ, suc, Bool, true, false, ◌&&◌, List, [], ◌∷◌, ◌++◌, ◌==◌, length, drop, refl, sym, ap, ap₂, arith}
use Rattle.std.specs.Prelude.{ℤ, pos, map, unsigned_abs}
use Rattle.std.proofs.lemmas.Bool.Decides.{nat_tests, same_from_decides, Decides-eqb, Decides-int_eq}
use Rattle.std.specs.Ordering.{int_eq}
use Rattle.std.specs.Cmp.Lexicographic.{pointwise}
use Rattle.juniper_values.specs.Text.{Text, same_text}
use Rattle.juniper_values.specs.Scalar.{custom, same_content}
use Rattle.juniper_values.specs.Default.{default_content}
use Rattle.juniper_values.specs.declared.default_scalar.DefaultScalarValue.{DefaultScalarValue}
use Rattle.juniper_values.specs.declared.default_scalar.DefaultScalarValue.TheVariants as default
use Rattle.juniper_nodes.specs.Literal.{characters}

pub no_custom : (a : DefaultScalarValue) (ns : List ℤ) → same_content (default_content a) (custom ns) ≡ false
no_custom (default.Int n) ns = refl
no_custom (default.String s) ns = refl
no_custom (default.Boolean b) ns = refl

pub custom_no : (ns : List ℤ) (a : DefaultScalarValue) → same_content (custom ns) (default_content a) ≡ false
custom_no ns (default.Int n) = refl
custom_no ns (default.String s) = refl
custom_no ns (default.Boolean b) = refl

-- numbers are compared as integers
same_number : (x y : ℕ) → int_eq (pos x) (pos y) ≡ (x == y)
same_number x y = same_from_decides (int_eq (pos x) (pos y)) (x == y) (Decides-int_eq (pos x) (pos y))
    ((λ e. ap pos ((Decides-eqb x y).0 e)), (λ e. (Decides-eqb x y).1 (ap unsigned_abs e)))

pub same_texts : (a b : Text) → pointwise int_eq (map pos a) (map pos b) ≡ same_text a b
same_texts [] [] = refl
same_texts [] (y ∷ b) = refl
same_texts (x ∷ a) [] = refl
same_texts (x ∷ a) (y ∷ b) = ap₂ (λ h r. h && r) (same_number x y) (same_texts a b)

one_more : (m n : ℕ) → (suc m == suc n) ≡ (m == n)
one_more m n = same_from_decides (suc m == suc n) (m == n) (Decides-eqb (suc m) (suc n))
    ((λ e. ap suc ((Decides-eqb m n).0 e)), (λ e. (Decides-eqb m n).1 (omega (arith, e))))

zero_first : (n : ℕ) → (0 == suc n) ≡ false
zero_first n = grind (arith, nat_tests)

zero_last : (n : ℕ) → (suc n == 0) ≡ false
zero_last n = grind (arith, nat_tests)

-- texts, and what they mean
pub same_meant : (a b m n : Text) → (int_eq (pos (length a)) (pos (length b))
    && pointwise int_eq (map pos (a ++ m)) (map pos (b ++ n))) ≡ (same_text a b && same_text m n)
same_meant [] [] m n = same_texts m n
same_meant [] (y ∷ b) m n = ap (λ h. h && pointwise int_eq (map pos m) (map pos ((y ∷ b) ++ n)))
    (same_number 0 (suc (length b)) ∙ zero_first (length b))
same_meant (x ∷ a) [] m n = ap (λ h. h && pointwise int_eq (map pos ((x ∷ a) ++ m)) (map pos n))
    (same_number (suc (length a)) 0 ∙ zero_last (length a))
same_meant (x ∷ a) (y ∷ b) m n =
    ap₂ (λ l h. l && (h && pointwise int_eq (map pos (a ++ m)) (map pos (b ++ n))))
    (same_number (suc (length a)) (suc (length b)) ∙ one_more (length a) (length b)
    ∙ sym (same_number (length a) (length b))) (same_number x y)
    ∙ by_first _ _ _ (x == y) (int_eq (pos (length a)) (pos (length b))) (same_meant a b m n)
  where
    by_first : (p s t h l : Bool) → (l && p) ≡ (s && t) → (l && (h && p)) ≡ ((h && s) && t)
    by_first p s t true l e = e
    by_first p s t false true e = refl
    by_first p s t false false e = refl

pub shown_back : (t : Text) → characters (map pos t) ≡ t
shown_back [] = refl
shown_back (c ∷ cs) = ap (λ r. c ∷ r) (shown_back cs)

pub shown_after : (t m : Text) → drop (length t) (characters (map pos (t ++ m))) ≡ m
shown_after [] m = shown_back m
shown_after (c ∷ cs) m = shown_after cs m
