-- A device: machines that go over the bytes of a text as over its characters.
use Rattle.std.specs.Prelude.{◌≡◌, ℕ, ◌+◌, ◌≤◌, Bool, ◌&&◌, nat_le, nat_lt, if◌then◌else◌, List, length, take, drop, Option, Some, option_map}
use Rattle.graphql_lexical.specs.device.Machines.{reach}
use lib.Utf8.{encodes}

-- the byte is a continuation byte
abbrev pub is_inner : ℕ → Bool
is_inner b = nat_le 128 b && nat_lt b 192

-- The same steps over bytes: continuation bytes keep the state.
abbrev pub byte_step : {S : Type 0} → (S → ℕ → Option S) → S → ℕ → Option S
byte_step step q b = if is_inner b then Some q else step q b

-- the steps are the same at all non-ASCII characters
abbrev pub IsSamePastAscii : {S : Type 0} → (S → ℕ → Option S) → Type 0
IsSamePastAscii {S} step = (q : S) (c d : ℕ) → 128 ≤ c → 128 ≤ d → step q c ≡ step q d

-- the byte at which character k begins
abbrev pub byte_at : ℕ → List ℕ → ℕ
byte_at k cs = length (encodes (take k cs))

-- Over the bytes the steps reach the same state as over the characters, and stop at the same character.
abbrev pub GoesOverBytes : {S : Type 0} → (S → ℕ → Option S) → Type 0
GoesOverBytes {S} step = IsSamePastAscii step → (q : S) (cs : List ℕ) → reach (byte_step step) q (encodes cs) ≡ (byte_at (reach step q cs).0 cs, (reach step q cs).1)

-- a state, and a value that each character changes
abbrev pub with_value : {S X : Type 0} → (S → ℕ → Option S) → (X → ℕ → X) → S × X → ℕ → Option (S × X)
with_value step f s c = option_map (λ p. (p, f s.1 c)) (step s.0 c)

-- one more
abbrev pub count_one : ℕ → ℕ → ℕ
count_one n c = n + 1

-- this many elements before
abbrev pub on : {S : Type 0} → ℕ → ℕ × S → ℕ × S
on n r = (n + r.0, r.1)

-- A loop over a text stands at place i in this state, of the steps from q0 on.
pub record Walked {S : Type 0} (step : S → ℕ → Option S) (q0 : S) (text : List ℕ) (i : ℕ) (q : S) : Type 0 where
  pub within : i ≤ length text
  pub same : on i (reach step q (drop i text)) ≡ reach step q0 text
