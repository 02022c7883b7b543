-- The steps of a token over bytes, a run at a time.
use Rattle.std.proofs.Common.{◌≡◌, ℕ, ◌+◌, ◌-◌, ◌≤◌, ◌<◌, true, false, List, [], ◌∷◌, length, take, drop, get_or, Some, None, refl, sym, ap, ap₂, subst, ◌∙◌, arith}
use Rattle.std.specs.Prelude.{is_some}
use Rattle.std.specs.List.{fold}
use Rattle.std.specs.Str.{chars, IsUtf8}
use Rattle.std.proofs.lemmas.List.{length-take-le}
use Rattle.std.proofs.lemmas.Str.{encodes-chars}
use Rattle.graphql_lexical.specs.declared.state.State.{State}
use Rattle.graphql_lexical.specs.declared.state.State.TheVariants.{Start, Zero, InString, InBlock}
use Rattle.graphql_lexical.specs.declared.state.Block.TheVariants.{Inside}
use Rattle.graphql_lexical.specs.device.Machines.{reach}
use Rattle.graphql_lexical.specs.device.Scan.{step}
use Rattle.graphql_lexical.proofs.Public.{reach_is}
use Rattle.juniper_tokens.specs.declared.lexer.run.Run.{Run}
use Rattle.juniper_tokens.specs.declared.lexer.run.Run.TheVariants as run
use Rattle.juniper_tokens.specs.declared.lexer.text.Offset.{Offset}
use Rattle.juniper_tokens.specs.device.ByteRuns.{is_inner, byte_at, with_value, count_one, on}
use Rattle.juniper_tokens.specs.device.Walks.{run_test, RunsTo, token_machine, WalkedToken, StaysOver, is_in_float}
use Rattle.juniper_tokens.proofs.ByteRuns.{reach_bytes, reach_with_value, same_with_value, in_bytes, walked_on}
use Rattle.juniper_tokens.proofs.Offsets.{chars_within}
use Rattle.juniper_tokens.proofs.Runs.{counted_by_ones, FirstByte, low, high, first_byte}
use Rattle.juniper_tokens.proofs.RunWalks.{goes_over, walked_further, same_place, plus_none, plus_plus}
use Rattle.juniper_tokens.proofs.PastAscii.{step_same}

string_stays : (c : ℕ) → run_test run.Plain c ≡ true → step InString c ≡ Some InString
string_stays c e = rw e refl

block_stays : (c : ℕ) → run_test run.Block c ≡ true → step (InBlock Inside) c ≡ Some (InBlock Inside)
block_stays c e = grind (arith, e)

one_counted : (n k c : ℕ) → count_one (n + k) c ≡ n + (k + 1)
one_counted n k c = omega arith

stays_over : (r : Run) (q : State) → ((c : ℕ) → run_test r c ≡ true → step q c ≡ Some q) → (bytes : List ℕ) (b : Offset)
    → RunsTo r bytes b → StaysOver q bytes b
stays_over r q stays bytes b h n =
    subst (λ k. reach token_machine (q, k) bytes ≡ on b.bytes
    (reach token_machine (q, n + b.characters) (drop b.bytes bytes)))
    (plus_none n) (goes_over step count_one r q (λ k. n + k) stays (λ k c e. one_counted n k c) bytes b h)

pub string_over : (bytes : List ℕ) (b : Offset) → RunsTo run.Plain bytes b → StaysOver InString bytes b
string_over = stays_over run.Plain InString string_stays

pub block_over : (bytes : List ℕ) (b : Offset) → RunsTo run.Block bytes b → StaysOver (InBlock Inside) bytes b
block_over = stays_over run.Block (InBlock Inside) block_stays

pub token_step : (q p : State) (n b : ℕ) → is_inner b ≡ false → step q b ≡ Some p
    → token_machine (q, n) b ≡ Some (p, n + 1)
token_step q p n b e g = rw (e, g) refl

pub token_none : (q : State) (n b : ℕ) → is_inner b ≡ false → step q b ≡ None → token_machine (q, n) b ≡ None
token_none q n b e g = rw (e, g) refl

-- a step, and a run after it
pub walked_next : (bytes tail : List ℕ) (i n : ℕ) (q p : State) (b : Offset) → i < length bytes
    → is_inner (get_or bytes i 0) ≡ false → step q (get_or bytes i 0) ≡ Some p
    → tail ≡ take (length bytes - (i + 1)) (drop (i + 1) bytes) → StaysOver p tail b → b.bytes ≤ length tail
    → WalkedToken bytes i q n → WalkedToken bytes (i + (1 + b.bytes)) p (n + (1 + b.characters))
walked_next bytes tail i n q p b l e g t h s w =
    let one = walked_on token_machine (Start, 0) (q, n) (p, n + 1) bytes i l
    (token_step q p n (get_or bytes i 0) e g) w in
    let more = walked_further token_machine (Start, 0) (p, n + 1) (p, (n + 1) + b.characters) bytes tail
    (i + 1) b.bytes t s
    (h (n + 1)) one in
    subst (λ k. WalkedToken bytes (i + (1 + b.bytes)) p k) (plus_plus n 1 b.characters)
    (same_place token_machine (Start, 0) (p, (n + 1) + b.characters) bytes _ _ (plus_plus i 1 b.bytes) more)

-- where the steps over the bytes have stopped, those over the characters have
pub token_reached : (text bytes : List ℕ) (i n : ℕ) (q : State) → IsUtf8 text → bytes ≡ text
    → reach token_machine (Start, 0) bytes ≡ (i, (q, n))
    → (reach step Start (chars text) ≡ (n, q)) × (i ≡ byte_at n (chars text))
token_reached text bytes i n q u same h =
    let cs = chars text in
    let r = reach step Start cs in
    let both : (i, (q, n)) ≡ in_bytes cs (r.0, (r.1, fold count_one 0 (take r.0 cs))) =
    sym h ∙ (ap (reach token_machine (Start, 0)) (same ∙ sym (encodes-chars text u))
    ∙ (reach_bytes (with_value step count_one) (same_with_value step count_one step_same (λ x c d l m. refl))
    (Start, 0) cs
    ∙ ap (in_bytes cs) (reach_with_value step count_one Start 0 cs))) in
    let counted : n ≡ r.0 = ap (λ (x : ℕ × (State × ℕ)). x.1.1) both
    ∙ (counted_by_ones 0 (take r.0 cs) ∙ (none_plus (length (take r.0 cs))
    ∙ length-take-le r.0 cs (reach_is step Start cs).within)) in
    let state : q ≡ r.1 = ap (λ (x : ℕ × (State × ℕ)). x.1.0) both in (
      ap₂ (λ (a : ℕ) (b : State). (a, b)) (sym counted) (sym state),
      ap (λ (x : ℕ × (State × ℕ)). x.0) both ∙ ap (λ k. byte_at k cs) (sym counted),
    )
  where
    none_plus : (k : ℕ) → 0 + k ≡ k
    none_plus k = omega arith

-- the first byte of what stands after an integer part
pub in_float : (text bytes : List ℕ) → IsUtf8 text → bytes ≡ text → 0 < length bytes
    → is_some (step Zero (get_or bytes 0 0)) ≡ is_in_float (chars text)
in_float text bytes u same l =
    by_first (chars text) (get_or bytes 0 0) (first_byte (chars text) bytes (same ∙ sym (encodes-chars text u)) l)
  where
    by_first : (cs : List ℕ) (b : ℕ) → FirstByte cs b → is_some (step Zero b) ≡ is_in_float cs
    by_first _ b (low m) = refl
    by_first (c ∷ cs) b (high m h) = ap is_some (step_same Zero b c (omega (arith, h)) m)

pub not_in_float : (text bytes : List ℕ) → IsUtf8 text → bytes ≡ text → length bytes ≡ 0
    → false ≡ is_in_float (chars text)
not_in_float text bytes u same l = by_none (chars text) (omega (arith, chars_within text u, ap length same, l))
  where
    by_none : (cs : List ℕ) → length cs ≡ 0 → false ≡ is_in_float cs
    by_none [] e = refl
    by_none (c ∷ cs) e = absurd (omega (arith, e))
