-- The laws of `Literal`.
use Rattle.std.specs.Prelude.{◌≡◌, ℤ, List, [], ◌∷◌, Bool, true, false, if◌then◌else◌, Some, None}
use Rattle.juniper_values.specs.Text.{Text}
use Rattle.juniper_values.specs.Scalar.{Content}
use Rattle.juniper_values.specs.laws.BesideLaws as beside
use Rattle.juniper_nodes.specs.Literal.{str_in, string_in, is_string, meaning, meaning_of, own_text}

-- what a string means is its text
pub meaning-is_text : (ns : List ℤ) (t : Text) → meaning_of ns ≡ Some t → own_text ns ≡ t
meaning-is_text [] t e = absurd (cc e)
meaning-is_text (kind ∷ ns) t e = by_kind (is_string kind) _ e
  where
    by_kind : (b : Bool) (u : Text) → (if b then Some (meaning ns) else None) ≡ Some t
        → (if b then meaning ns else u) ≡ t
    by_kind true u e = cc e
    by_kind false u e = absurd (cc e)

-- a text that is borrowed is the text of the scalar
pub lent-is_string : (c : Content) (t : Text) → str_in c ≡ Some t → string_in c ≡ Some t
lent-is_string = beside.lent-is_string own_text meaning_of meaning-is_text
