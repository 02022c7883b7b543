-- What a text begins with.
use Rattle.std.proofs.Common.{◌≡◌, refl, sym, ap, ◌∙◌, ℕ, zero, suc, Bool, true, false, ◌||◌, List, ◌++◌, length, take}
use Rattle.std.proofs.Common.{drop, IsUtf8, Decides, MatchBool, arith}
use Rattle.std.specs.Prelude.{nat_eq}
use Rattle.std.specs.List.{starts_with}
use Rattle.std.specs.Str.{chars, IsAscii}
use Rattle.std.specs.Str.Pattern.{HasPrefixMatch, FindsTextPrefix}
use Rattle.std.proofs.lemmas.Bool.Decides.{same_from_decides}
use Rattle.std.proofs.lemmas.List.{take_at, take-append-drop}
use Rattle.std.proofs.lemmas.Slice.Eq.{bytes_eq-Decides}
use Rattle.std.proofs.lemmas.Str.{IsUtf8-from_ascii, chars-append, chars-IsAscii, encodes-chars, encodes-append}
use Rattle.std.proofs.lemmas.Str.{encodes-IsAscii}
use Rattle.juniper_values.specs.Text.{Text}
use Rattle.graphql_lexical.specs.Tokens.{mark}
use Rattle.juniper_values.specs.BlockStrings.{line_feed}
use Rattle.std.specs.declared.option.Option.TheVariants.{None}
use lib.Utf8.{encodes}

abbrev Begins : Text → Text → Type 0
Begins t front = (rest : Text) × (t ≡ front ++ rest)

starts_with-Decides : (t front : Text) → Decides (starts_with nat_eq t front) (Begins t front)
starts_with-Decides t front =
    let n = length front in
    let same = bytes_eq-Decides front (take n t) in (
      (λ e. (drop n t, sym (take-append-drop n t) ∙ ap (λ u. u ++ drop n t) (sym (same.0 e)))),
      (λ b. same.1 (sym (ap (take n) b.1 ∙ take_at front b.0 n refl))),
    )

-- a text begins with ASCII characters where its bytes do
pub starts_chars : (r : Bool) (front bs : List ℕ) → IsUtf8 bs → IsAscii front
    → MatchBool r (HasPrefixMatch (FindsTextPrefix front) bs) (FindsTextPrefix front bs None)
    → r ≡ starts_with nat_eq (chars bs) front
starts_chars r front bs utf8 ascii cases =
    same_from_decides r (starts_with nat_eq (chars bs) front) (by_match r cases) (starts_with-Decides (chars bs) front)
  where
    by_match : (r : Bool) → MatchBool r (HasPrefixMatch (FindsTextPrefix front) bs) (FindsTextPrefix front bs None)
        → Decides r (Begins (chars bs) front)
    by_match true found =
        let rest = drop found.0 bs in
        let is : chars bs ≡ front ++ chars rest =
        ap chars found.1.1 ∙ chars-append front rest (IsUtf8-from_ascii front ascii)
        ∙ ap (λ t. t ++ chars rest) (chars-IsAscii front ascii) in
        ((λ e. (chars rest, is)), (λ b. refl))
    by_match false lacks = (
      (λ e. absurd (cc)),
      (λ b.
          absurd (lacks (encodes b.0)
          (sym (encodes-chars bs utf8) ∙ ap encodes b.1 ∙ encodes-append front b.0
          ∙ ap (λ t. t ++ encodes b.0) (encodes-IsAscii front ascii)))),
    )

pub ascii_quotes : IsAscii mark
ascii_quotes zero = omega arith
ascii_quotes (suc zero) = omega arith
ascii_quotes (suc (suc zero)) = omega arith
ascii_quotes (suc (suc (suc i))) = omega arith

pub ascii_feed : IsAscii line_feed
ascii_feed zero = omega arith
ascii_feed (suc i) = omega arith

pub or_false : (b : Bool) → b ≡ (b || false)
or_false true = refl
or_false false = refl
