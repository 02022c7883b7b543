-- The text that the slice of a String token stands for (GraphQL specification, October 2021, section 2.9.4).
use Rattle.std.specs.Prelude.{ℕ, ◌+◌, ◌-◌, ◌*◌, Bool, [], ◌∷◌, Option, Some, None, option_map, option_and_then, if◌then◌else◌, ◌==◌, ◌&&◌, not, nat_le}
use Rattle.graphql_lexical.specs.Characters.{is_hex}
pub use Rattle.juniper_tokens.specs.Escapes.{short_escape}
use Rattle.juniper_values.specs.Text.{Text}

-- what a hexadecimal digit counts
abbrev pub hex_value : ℕ → ℕ
hex_value c = if nat_le c 57 then c - 48 else (if nat_le c 70 then c - 55 else c - 87)

-- the number that four hexadecimal digits write
abbrev pub hex_number : ℕ → ℕ → ℕ → ℕ → ℕ
hex_number h i j k = 4096 * hex_value h + (256 * hex_value i + (16 * hex_value j + hex_value k))

-- from D800 to DFFF
abbrev pub is_surrogate : ℕ → Bool
is_surrogate n = nat_le 55296 n && nat_le n 57343

-- whether these are four hexadecimal digits, whose number is no surrogate
abbrev pub is_scalar : ℕ → ℕ → ℕ → ℕ → Bool
is_scalar h i j k = is_hex h && is_hex i && is_hex j && is_hex k && not (is_surrogate (hex_number h i j k))

-- what `\u` and these four stand for
abbrev pub unicode_escape : ℕ → ℕ → ℕ → ℕ → Option ℕ
unicode_escape h i j k = if is_scalar h i j k then Some (hex_number h i j k) else None

-- a character before a text, if both are there
abbrev pub in_front : Option ℕ → Option Text → Option Text
in_front character text = option_and_then (λ c. option_map (λ t. c ∷ t) text) character

abbrev mutual
  -- what the text stands for, or None where a backslash begins no escape
  pub unescape : Text → Option Text
  unescape [] = Some []
  unescape (c ∷ t) = if c == 92 then unescape_backslash t else in_front (Some c) (unescape t)

  -- the same of the text after a backslash
  pub unescape_backslash : Text → Option Text
  unescape_backslash [] = None
  unescape_backslash (c ∷ t) = if c == 117 then unescape_u t else in_front (short_escape c) (unescape t)

  -- and after `\u`
  pub unescape_u : Text → Option Text
  unescape_u (h ∷ i ∷ j ∷ k ∷ t) = in_front (unicode_escape h i j k) (unescape t)
  unescape_u t = None
