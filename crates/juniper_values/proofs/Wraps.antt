-- Wrapping types and comparing them.
use Rattle.std.proofs.Common.{◌≡◌, ℕ, ◌-◌, ◌<◌, Bool, true, false, ◌&&◌, ◌||◌, List, [], ◌∷◌, ◌++◌, length, Option, Some, None, refl, sym, ap, ◌∙◌, arith, true≢false, length-append}
use Rattle.std.specs.Prelude.{slice_get, nat_eq}
use Rattle.std.specs.Bool.{Decides}
use Rattle.std.specs.Cmp.{first_so, second_so}
use Rattle.std.specs.Option.{option_eq}
use Rattle.std.proofs.Math.Seq.{get_or-append_seam}
use Rattle.std.proofs.lemmas.Bool.Decides.{Decides-eqb}
use Rattle.std.proofs.lemmas.List.Folds.{list_any-append}
use Rattle.std.proofs.lemmas.Option.{slice_get-get_or}
use Rattle.std.proofs.lemmas.Slice.Eq.{bytes_eq-Decides, slice_eq-Decides}
use Rattle.juniper_values.specs.Text.{Text}
use Rattle.juniper_values.specs.laws.ValueLaws.{WrapsOnce}
use Rattle.juniper_values.specs.TypeLiteral.{TypeShape, outermost, is_list, is_list_modifier, opening, closing, type_text, same_modifier, same_type}
use Rattle.juniper_values.specs.declared.type_literal.TypeModifier.{TypeModifier}
use Rattle.juniper_values.specs.declared.type_literal.TypeModifier.TheVariants.{NonNull, List as ListOf}

outermost-wrapped : (ms : List TypeModifier) (m : TypeModifier) → outermost (ms ++ m ∷ []) ≡ Some m
outermost-wrapped ms m =
    let n : length (ms ++ m ∷ []) - 1 ≡ length ms = omega (arith, length-append ms (m ∷ [])) in
    let within : length ms < length (ms ++ m ∷ []) = omega (arith, length-append ms (m ∷ [])) in
    ap (slice_get (ms ++ m ∷ [])) n ∙ slice_get-get_or (ms ++ m ∷ []) (length ms) m within
    ∙ ap Some (get_or-append_seam ms m [] m)

one_any : (b : Bool) → (b || false) ≡ b
one_any true = refl
one_any false = refl

type_text-wrapped : (name : Text) (ms : List TypeModifier) (m : TypeModifier)
    → type_text name (ms ++ m ∷ []) ≡ opening m ++ (type_text name ms ++ closing m)
type_text-wrapped name [] m = refl
type_text-wrapped name (x ∷ ms) m = type_text-wrapped (opening x ++ (name ++ closing x)) ms m

pub wraps_once : (name : Text) (ms : List TypeModifier) (m : TypeModifier) → WrapsOnce name ms m
wraps_once name ms m = record {
  outside = outermost-wrapped ms m;
  lists = list_any-append is_list_modifier ms (m ∷ []) ∙ ap (λ b. is_list ms || b) (one_any (is_list_modifier m));
  written = type_text-wrapped name ms m;
}

-- ---- equality

same_size-Decides : (m n : Option ℕ) → Decides (option_eq nat_eq m n) (m ≡ n)
same_size-Decides None None = ((λ e. refl), (λ e. refl))
same_size-Decides None (Some n) = ((λ e. absurd (true≢false (sym e))), (λ e. absurd (cc)))
same_size-Decides (Some m) None = ((λ e. absurd (true≢false (sym e))), (λ e. absurd (cc)))
same_size-Decides (Some m) (Some n) = ((λ e. ap Some ((Decides-eqb m n).0 e)), (λ e. (Decides-eqb m n).1 (cc)))

same_modifier-Decides : (m n : TypeModifier) → Decides (same_modifier m n) (m ≡ n)
same_modifier-Decides NonNull NonNull = ((λ e. refl), (λ e. refl))
same_modifier-Decides NonNull (ListOf n) = ((λ e. absurd (true≢false (sym e))), (λ e. absurd (cc)))
same_modifier-Decides (ListOf m) NonNull = ((λ e. absurd (true≢false (sym e))), (λ e. absurd (cc)))
same_modifier-Decides (ListOf m) (ListOf n) =
    ((λ e. ap ListOf ((same_size-Decides m n).0 e)), (λ e. (same_size-Decides m n).1 (cc)))

pub same_type-Decides : {N : Type 0} (text_of : N → Text) (a b : TypeShape N)
    → Decides (same_type text_of a b) ((text_of a.name ≡ text_of b.name) × (a.modifiers ≡ b.modifiers))
same_type-Decides text_of a b =
    let names = bytes_eq-Decides (text_of a.name) (text_of b.name) in
    let modifiers = slice_eq-Decides same_modifier-Decides a.modifiers b.modifiers _ refl in (
      (λ e. (names.0 (first_so _ _ e), modifiers.0 (second_so _ _ e))),
      (λ h. λ i. names.1 h.0 i && modifiers.1 h.1 i),
    )
