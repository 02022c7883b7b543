-- What is found in a content of a scalar type that has the default type's scalars, and its own beside them.
use Rattle.std.specs.Prelude.{◌≡◌, ℤ, List, Bool, true, false, Option, Some, None, option_map}
use Rattle.std.specs.Str.{chars}
use Rattle.juniper_values.specs.Text.{Text}
use Rattle.juniper_values.specs.Scalar.{Content, integer, text, boolean, custom}
use Rattle.juniper_values.specs.Default.{default_content, default_shown, text_in}
use Rattle.juniper_values.specs.declared.beside_default.Held.{Held}
use Rattle.juniper_values.specs.declared.beside_default.Held.TheVariants as held

-- whether a content is that of a scalar of its own
abbrev pub is_own : Content → Bool
is_own (integer n) = false
is_own (text t) = false
is_own (boolean b) = false
is_own (custom ns) = true

-- its integer: the default type's, or what the type finds in its own
abbrev pub int_beside : (List ℤ → Option ℤ) → Content → Option ℤ
int_beside own (integer n) = Some n
int_beside own (text t) = None
int_beside own (boolean b) = None
int_beside own (custom ns) = own ns

-- its text that can be borrowed, likewise
abbrev pub str_beside : (List ℤ → Option Text) → Content → Option Text
str_beside own (integer n) = None
str_beside own (text t) = Some t
str_beside own (boolean b) = None
str_beside own (custom ns) = own ns

-- the content that the scalar has in the default type, where one of its own is its text
abbrev pub as_default : (List ℤ → Text) → Content → Content
as_default own (integer n) = integer n
as_default own (text t) = text t
as_default own (boolean b) = boolean b
as_default own (custom ns) = text (own ns)

-- its text, and what it displays, as in the default type
abbrev pub string_beside : (List ℤ → Text) → Content → Option Text
string_beside own c = text_in (as_default own c)

abbrev pub shown_beside : (List ℤ → Text) → Content → Text
shown_beside own c = default_shown (as_default own c)

-- A scalar of this content is held so: as one of the default type, or by what is found in the content of its own.
abbrev pub IsHeldAs : (List ℤ → Option ℤ) → (List ℤ → Option Text) → Content → Held → Type 0
IsHeldAs own_int own_str c (held.Default s) = c ≡ default_content s.now
IsHeldAs own_int own_str c (held.Own int t) =
    (is_own c ≡ true) × (int ≡ int_beside own_int c) × (option_map (λ u. chars u.now) t ≡ str_beside own_str c)
