-- Names and numbers as the grammar of tokens writes them, and as their parts: the same.
use Rattle.std.proofs.Common.{◌≡◌, ◌↔◌, ◌⊎◌, ℕ, Bool, List, [], ◌∷◌, ◌++◌, IsTrue, codes, refl, sym, ap, ap₂, ◌∙◌, subst, inl, inr, arith, append-nil}
use Rattle.graphql_lexical.specs.Characters.{is_digit, is_nonzero_digit, is_sign}
use Rattle.graphql_lexical.specs.Parts.{◌·◌, ◌or◌}
use Rattle.graphql_lexical.specs.Tokens.{These, One, Any, Maybe, IsName, AreDigits, IsInteger, IsFraction, IsExponent, IsFloat}
use Rattle.graphql_lexical.specs.device.Numbers.{ReadName, ReadDigits, ReadInteger, ReadFraction, ReadExponent, ReadFloat}

-- a part of one character, and what follows
first_and_more : {is : ℕ → Bool} {Q : List ℕ → Type 0} (t : List ℕ) (h : (One is · Q) t) → t ≡ h.first.0 ∷ h.back
first_and_more t h = h.whole ∙ ap (λ (l : List ℕ). l ++ h.back) h.first.1

-- one character, and then a part
first_then : {is : ℕ → Bool} {Q : List ℕ → Type 0} (t : List ℕ) (c : ℕ) (cs : List ℕ) → t ≡ c ∷ cs → IsTrue (is c) → Q cs
    → (One is · Q) t
first_then t c cs e s q = record { front = c ∷ []; back = cs; whole = e; first = (c, refl, s); second = q }

pub name_same : (t : List ℕ) → IsName t ↔ ReadName t
name_same t = (
  (λ h. (h.first.0, h.back, first_and_more t h, h.first.2, h.second)),
  (λ h. first_then t h.0 h.1 h.2 h.3 h.4),
)

pub digits_same : (t : List ℕ) → AreDigits t ↔ ReadDigits t
digits_same t = (to t, from t)
  where
    to : (t : List ℕ) → AreDigits t → ReadDigits t
    to t h = subst ReadDigits (sym (first_and_more t h)) (omega arith, (h.first.2, h.second))

    from : (t : List ℕ) → ReadDigits t → AreDigits t
    from [] h = absurd (omega (arith, h.0))
    from (d ∷ ds) h = first_then (d ∷ ds) d ds refl h.1.0 h.1.1

pub integer_same : (t : List ℕ) → IsInteger t ↔ ReadInteger t
integer_same t = (λ h. to h h.first h.second, from)
  where
    to : (h : IsInteger t) → (h.front ≡ []) ⊎ (h.front ≡ codes "-")
        → (These (codes "0") or One is_nonzero_digit · Any is_digit) h.back → ReadInteger t
    to h (inl a) (inl z) = inl (inl (h.whole ∙ ap₂ (λ x y. x ++ y) a z))
    to h (inr a) (inl z) = inl (inr (h.whole ∙ ap₂ (λ x y. x ++ y) a z))
    to h a (inr s) =
        let e : t ≡ h.front ++ s.first.0 ∷ s.back = h.whole ∙ ap (λ l. h.front ++ l) (first_and_more h.back s) in
        inr (h.front, s.first.0, s.back, e, a, s.first.2, s.second)

    from : ReadInteger t → IsInteger t
    from (inl (inl e)) = record { front = []; back = codes "0"; whole = e; first = inl refl; second = inl refl }
    from (inl (inr e)) = record { front = codes "-"; back = codes "0"; whole = e; first = inr refl; second = inl refl }
    from (inr (sign, d, ds, e, s, n, a)) = record {
      front = sign;
      back = d ∷ ds;
      whole = e;
      first = s;
      second = inr (first_then (d ∷ ds) d ds refl n a);
    }

pub fraction_same : (t : List ℕ) → IsFraction t ↔ ReadFraction t
fraction_same t = (
  (λ h. (h.back, h.whole ∙ ap (λ (l : List ℕ). l ++ h.back) h.first, (digits_same h.back).0 h.second)),
  (λ h. record { front = codes "."; back = h.0; whole = h.1; first = refl; second = (digits_same h.0).1 h.2 }),
)

pub exponent_same : (t : List ℕ) → IsExponent t ↔ ReadExponent t
exponent_same t = (to, from)
  where
    to : IsExponent t → ReadExponent t
    to h = (
      h.first.0,
      h.second.front,
      h.second.back,
      first_and_more t h ∙ ap (λ (l : List ℕ). h.first.0 ∷ l) h.second.whole,
      h.first.2,
      h.second.first,
      (digits_same h.second.back).0 h.second.second,
    )

    from : ReadExponent t → IsExponent t
    from (c, sign, ds, e, m, s, d) =
        let signed : (Maybe (One is_sign) · AreDigits) (sign ++ ds) =
        record { front = sign; back = ds; whole = refl; first = s; second = (digits_same ds).1 d } in
        first_then t c (sign ++ ds) e m signed

pub float_same : (t : List ℕ) → IsFloat t ↔ ReadFloat t
float_same t = (λ h. to h h.second, from)
  where
    to : (h : IsFloat t) → (IsFraction or Maybe IsFraction · IsExponent) h.back → ReadFloat t
    to h (inl f) = (
      h.front,
      h.back,
      [],
      h.whole ∙ ap (λ (l : List ℕ). h.front ++ l) (sym (append-nil h.back)),
      (integer_same h.front).0 h.first,
      inl ((fraction_same h.back).0 f, refl),
    )
    to h (inr x) = (
      h.front,
      x.front,
      x.back,
      h.whole ∙ ap (λ (l : List ℕ). h.front ++ l) x.whole,
      (integer_same h.front).0 h.first,
      inr (elim x.first [ inl e ↦ inl e | inr f ↦ inr ((fraction_same x.front).0 f) ], (exponent_same x.back).0 x.second),
    )

    from : ReadFloat t → IsFloat t
    from (w, f, x, e, i, inl (h, n)) = record {
      front = w;
      back = f;
      whole = e ∙ ap (λ (l : List ℕ). w ++ (f ++ l)) n ∙ ap (λ (l : List ℕ). w ++ l) (append-nil f);
      first = (integer_same w).1 i;
      second = inl ((fraction_same f).1 h);
    }
    from (w, f, x, e, i, inr (h, n)) = record {
      front = w;
      back = f ++ x;
      whole = e;
      first = (integer_same w).1 i;
      second = inr (record {
        front = f;
        back = x;
        whole = refl;
        first = elim h [ inl e ↦ inl e | inr g ↦ inr ((fraction_same f).1 g) ];
        second = (exponent_same x).1 n;
      });
    }
