-- Copies, level by level.
use denote.Param.Weighed.{most}
use Rattle.std.proofs.Common.{◌≡◌, ℕ, ◌≤◌, arith, Bool, true, false, cond, None, Some, List, [], ◌∷◌, ◌++◌, String, string_bytes, Global, Vec, refl, sym, ap, ◌∙◌}
use Rattle.std.specs.List.{AllZip, IsDistinct}
use Rattle.std.specs.Map.{keys_of, values_of, lookup}
use Rattle.std.specs.String.{string_eq, string_eq_equiv}
use Rattle.std.specs.Str.{chars, bytes_eq}
use Rattle.indexmap.specs.IndexMap.{insert_entry}
use Rattle.indexmap.proofs.MapLemmas.{absent_before, absent_from_lookup, insert_entry-absent}
use Rattle.juniper_answers.specs.Copies.{Copies, CopiesItems, CopiesField, CopiesFields}
use Rattle.juniper_answers.specs.Lift.{ItemsLift, FieldsLift}
use Rattle.juniper_answers.specs.View.{items_view, fields_view, pairs}
use Rattle.juniper_answers.specs.declared.value.Object.{Object}
use Rattle.juniper_answers.specs.declared.value.Value.{Value}
use Rattle.juniper_answers.specs.declared.value.Value as V
use Rattle.juniper_answers.proofs.Views.{view-List, view-Object}

pub all_zip_push : {A B : Type 0} (R : A → B → Type 0) (xs : List A) (ys : List B) (x : A) (y : B) → AllZip R xs ys
    → R x y → AllZip R (xs ++ x ∷ []) (ys ++ y ∷ [])
all_zip_push R [] [] x y a r = (r, a)
all_zip_push R [] (z ∷ ys) x y a r = absurd a
all_zip_push R (z ∷ xs) [] x y a r = absurd a
all_zip_push R (w ∷ xs) (z ∷ ys) x y a r = (a.0, all_zip_push R xs ys x y a.1 r)

-- a value among the entries weighs no more than the entries
pub most_within : {K X : Type 0} (μ : X → ℕ) (es done left : List (K × X)) (e : K × X) → es ≡ done ++ e ∷ left
    → μ e.1 ≤ most μ (values_of es)
most_within μ es done left e is = rw is (go done)
  where
    go : (done : List _) → μ e.1 ≤ most μ (values_of (done ++ e ∷ left))
    go [] = omega arith
    go (d ∷ ds) = let h = go ds in omega arith

module _ {S T : Type 0} (R : S → T → Type 0) where
  items_lift : (vs : List (Value S)) (ws : List (Value T)) → CopiesItems R vs ws
      → ItemsLift R (items_view (λ s. s) vs) (items_view (λ s. s) ws)
  items_lift [] [] a = a
  items_lift [] (w ∷ ws) a = absurd a
  items_lift (v ∷ vs) [] a = absurd a
  items_lift (v ∷ vs) (w ∷ ws) a = (a.0, items_lift vs ws a.1)

  fields_lift : (ps : List (String Global × Value S)) (qs : List (String Global × Value T)) → CopiesFields R ps qs
      → FieldsLift R (fields_view (λ s. s) ps) (fields_view (λ s. s) qs)
  fields_lift [] [] a = a
  fields_lift [] (q ∷ qs) a = absurd a
  fields_lift (p ∷ ps) [] a = absurd a
  fields_lift (p ∷ ps) (q ∷ qs) a = (ap chars a.0.0, a.0.1, fields_lift ps qs a.1)

  pub Copies-List : (v : Vec (Value S) Global) (w : Vec (Value T) Global) → CopiesItems R v.items w.items
      → Copies R (V.List v) (V.List w)
  Copies-List v w a = rw (view-List (λ s. s) v, view-List (λ s. s) w) (items_lift v.items w.items a)

  pub Copies-Object : (v : Object S) (w : Object T) → CopiesFields R (pairs v) (pairs w)
      → Copies R (V.Object v) (V.Object w)
  Copies-Object v w a = rw (view-Object (λ s. s) v, view-Object (λ s. s) w) (fields_lift (pairs v) (pairs w) a)

  -- no copy has a key that no field before has
  absent_copy : (k l : String Global) → string_bytes l ≡ string_bytes k
      → (ps : List (String Global × Value S)) (qs : List (String Global × Value T)) → CopiesFields R ps qs
      → lookup (string_eq k) ps ≡ None → lookup (string_eq l) qs ≡ None
  absent_copy k l e [] [] a n = refl
  absent_copy k l e [] (q ∷ qs) a n = absurd a
  absent_copy k l e (p ∷ ps) [] a n = absurd a
  absent_copy k l e (p ∷ ps) (q ∷ qs) a n =
      by (bytes_eq (string_bytes k) (string_bytes p.0)) refl (absent_copy k l e ps qs a.1)
    where
      by : (b : Bool) → bytes_eq (string_bytes k) (string_bytes p.0) ≡ b
          → (lookup (string_eq k) ps ≡ None → lookup (string_eq l) qs ≡ None) → lookup (string_eq l) (q ∷ qs) ≡ None
      by true h more = absurd (cc (sym n ∙ ap (λ b. cond b (Some p.1) (lookup (string_eq k) ps)) h))
      by false h more =
          let here : string_eq l q.0 ≡ false = (λ i. bytes_eq (e i) (a.0.0 i)) ∙ h in
          let rest : lookup (string_eq k) ps ≡ None = sym (ap (λ b. cond b (Some p.1) (lookup (string_eq k) ps)) h)
          ∙ n in
          ap (λ b. cond b (Some q.1) (lookup (string_eq l) qs)) here ∙ more rest

  -- so the copy of the next field goes last
  pub put_last : (done left : List (String Global × Value S)) (copies : List (String Global × Value T))
      (p : String Global × Value S) (k : String Global) (w : Value T)
      → IsDistinct string_eq (keys_of (done ++ p ∷ left)) → string_bytes k ≡ string_bytes p.0
      → CopiesFields R done copies → Copies R p.1 w
      → CopiesFields R (done ++ p ∷ []) (insert_entry string_eq copies k w)
  put_last done left copies p k w distinct e a r =
      let new = absent_copy p.0 k e done copies a (absent_before string_eq_equiv done left p distinct) in
      rw (insert_entry-absent string_eq k w copies (absent_from_lookup (string_eq k) copies new))
      (all_zip_push (CopiesField R) done copies p (k, w) a (e, r))
