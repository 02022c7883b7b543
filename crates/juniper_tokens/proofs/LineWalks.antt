-- A value that each character of a text changes, over bytes, a line at a time.
use Rattle.std.proofs.Common.{◌≡◌, ℕ, suc, ◌+◌, ◌-◌, ◌≤◌, ◌<◌, Bool, true, false, not, ◌==◌, List, [], ◌∷◌, length, take, drop, get_or, Option, Some, refl, sym, ap, subst, ◌∙◌, arith}
use Rattle.std.specs.List.{fold}
use Rattle.std.specs.Str.{chars, IsUtf8}
use Rattle.std.proofs.lemmas.List.{take_all}
use Rattle.std.proofs.lemmas.Str.{encodes-chars}
use Rattle.graphql_lexical.specs.device.Machines.{reach}
use Rattle.juniper_tokens.specs.declared.lexer.run.Run.TheVariants as run
use Rattle.juniper_tokens.specs.declared.lexer.text.Offset.{Offset}
use Rattle.juniper_tokens.specs.device.ByteRuns.{is_inner, with_value, on, Walked}
use Rattle.juniper_tokens.specs.device.Walks.{run_test, RunsTo, each_machine}
use Rattle.juniper_tokens.proofs.ByteRuns.{reach_bytes, reach_with_value, same_with_value, in_bytes, walked_on}
use Rattle.juniper_tokens.proofs.RunWalks.{goes_over, walked_further, walked_none, same_place, plus_plus}

abbrev always : Unit {0} → ℕ → Option (Unit {0})
always q c = Some q

all_gone : (cs : List ℕ) → (reach always tt cs).0 ≡ length cs
all_gone [] = refl
all_gone (c ∷ cs) = ap suc (all_gone cs)

pub no_feed_in_line : (c : ℕ) → run_test run.Line c ≡ true → (c == 10) ≡ false
no_feed_in_line c = not_so (c == 10)
  where
    not_so : (b : Bool) → not b ≡ true → b ≡ false
    not_so true e = absurd (cc e)
    not_so false e = refl

pub no_feed_past_ascii : (c : ℕ) → 128 ≤ c → (c == 10) ≡ false
no_feed_past_ascii c l = grind arith

none_plus : (k : ℕ) → 0 + k ≡ k
none_plus k = omega arith

-- f changes the value at each character; so many characters of a line change it by `along`
module _ {X : Type 0} (f : X → ℕ → X) (along : ℕ → X → X) (along_none : (x : X) → along 0 x ≡ x)
    (along_more : (x : X) (k c : ℕ) → run_test run.Line c ≡ true → f (along k x) c ≡ along (k + 1) x) where
  -- a run that ends no line
  pub walked_line : (start x : X) (bytes tail : List ℕ) (i : ℕ) (b : Offset)
      → tail ≡ take (length bytes - i) (drop i bytes) → RunsTo run.Line tail b → b.bytes ≤ length tail
      → Walked (each_machine f) (tt, start) bytes i (tt, x)
      → Walked (each_machine f) (tt, start) bytes (i + b.bytes) (tt, along b.characters x)
  walked_line start x bytes tail i b e h s w =
      walked_further (each_machine f) (tt, start) (tt, x) (tt, along b.characters x) bytes tail i b.bytes e s
      (subst (λ y. reach (each_machine f) (tt, y) tail
      ≡ on b.bytes (reach (each_machine f) (tt, along b.characters x) (drop b.bytes tail)))
      (along_none x)
      (goes_over always f run.Line tt (λ k. along k x) (λ c e. refl) (λ k c e. along_more x k c e) tail b h)) w

  -- the first line
  pub walked_first : (start : X) (bytes : List ℕ) (b : Offset) → RunsTo run.Line bytes b → b.bytes ≤ length bytes
      → Walked (each_machine f) (tt, start) bytes b.bytes (tt, along b.characters start)
  walked_first start bytes b h s =
      same_place (each_machine f) (tt, start) (tt, along b.characters start) bytes (0 + b.bytes) b.bytes
      (none_plus b.bytes)
      (walked_line start start bytes bytes 0 b (sym (take_all (length bytes - 0) bytes (omega arith))) h s
      (walked_none (each_machine f) (tt, start) bytes))

  -- a line feed, and a run after it
  pub walked_feed : (start x : X) (bytes tail : List ℕ) (i : ℕ) (b : Offset) → i < length bytes
      → get_or bytes i 0 ≡ 10
      → tail ≡ take (length bytes - (i + 1)) (drop (i + 1) bytes) → RunsTo run.Line tail b → b.bytes ≤ length tail
      → Walked (each_machine f) (tt, start) bytes i (tt, x)
      → Walked (each_machine f) (tt, start) bytes (i + (1 + b.bytes)) (tt, along b.characters (f x 10))
  walked_feed start x bytes tail i b l g e h s w =
      same_place (each_machine f) (tt, start) (tt, along b.characters (f x 10)) bytes _ _ (plus_plus i 1 b.bytes)
      (walked_line start (f x 10) bytes tail (i + 1) b e h s
      (walked_on (each_machine f) (tt, start) (tt, x) (tt, f x 10) bytes i l (ap (each_machine f (tt, x)) g) w))

  -- a byte that continues a character
  pub at_inner : (x : X) (b : ℕ) → is_inner b ≡ true → each_machine f (tt, x) b ≡ Some (tt, x)
  at_inner x b e = rw e refl

  -- where the bytes end, the characters of the text have changed the value
  pub reached : ((x : X) (c d : ℕ) → 128 ≤ c → 128 ≤ d → f x c ≡ f x d) → (text bytes : List ℕ) (i : ℕ) (start x : X)
      → IsUtf8 text → bytes ≡ text → reach (each_machine f) (tt, start) bytes ≡ (i, (tt, x))
      → x ≡ fold f start (chars text)
  reached alike text bytes i start x u same h =
      let cs = chars text in
      let r = reach always tt cs in
      let both : (i, (tt {0}, x)) ≡ in_bytes cs (r.0, (r.1, fold f start (take r.0 cs))) =
      sym h ∙ (ap (reach (each_machine f) (tt, start)) (same ∙ sym (encodes-chars text u))
      ∙ (reach_bytes (with_value always f)
      (same_with_value always f (λ q c d l m. refl) alike) (tt, start) cs
      ∙ ap (in_bytes cs) (reach_with_value always f tt start cs))) in
      ap (λ (y : ℕ × (Unit {0} × X)). y.1.1) both
      ∙ ap (fold f start) (take_all r.0 cs (omega (arith, all_gone cs)))
