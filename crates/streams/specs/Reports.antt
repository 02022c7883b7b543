-- What programs report of the bytes that they read.
use Rattle.std.specs.Prelude.{◌≡◌, ℕ, List}

-- Bytes have exactly one report: one end and one text.
pub record HasOneReport {End : Type 0} (Report : List ℕ → End → List ℕ → Type 0) : Type 0 where
  pub some : (bytes : List ℕ) → (end : End) × (text : List ℕ) × Report bytes end text
  pub one : (bytes : List ℕ) (end other : End) (text another : List ℕ) → Report bytes end text
      → Report bytes other another → (end ≡ other) × (text ≡ another)
