-- Runs of characters that stand for themselves within a line of a block string: their bytes, and what they change.
use Rattle.std.proofs.Common.{◌≡◌, ◌≢◌, refl, sym, ap, ◌∙◌, ℕ, suc, ◌+◌, ◌≤◌, ◌<◌, ◌==◌, ◌⊎◌, inl, inr, Bool, true}
use Rattle.std.proofs.Common.{false, cond, not, List, [], ◌∷◌, ◌++◌, ◌%◌, ◌^◌, length, map, take, drop, get_or, Fits, w8}
use Rattle.std.proofs.Common.{IsUtf8, Option, append_assoc, append-nil, length-append, arith}
use Rattle.std.specs.List.{AllByRecursion}
use Rattle.std.specs.Str.{chars}
use Rattle.std.proofs.lemmas.Bool.{ne_eqb, or_parts, agree_below, agree_below_at}
use Rattle.std.proofs.lemmas.Str.{encode_ascii, encodes-chars, chars-nil}
use Rattle.std.proofs.lemmas.List.Sums.{prefix_len_is}
use Rattle.std.proofs.lemmas.Simd.{run_in_chunk_le, run_in_chunk_fails, run_in_chunk_stops}
use lib.Dec.{ltb}
use lib.Lanes.{chunk, mask_l, top}
use lib.Utf8.{encode, encodes}
use Rattle.graphql_lexical.specs.Characters.{is_line_end}
use Rattle.juniper_tokens.specs.LaneMasks.{first_set}
use Rattle.juniper_tokens.specs.device.ByteRuns.{is_inner, byte_at}
use Rattle.juniper_tokens.proofs.Public.{ascii_first, wide, low_or_high, counted}
use Rattle.juniper_values.specs.Text.{Text}
use Rattle.juniper_values.specs.device.BlockSteps.{lines_of, left_text, is_left_out, least_after, place_after}
use Rattle.juniper_values.specs.device.BlockSteps.{is_in_indent, ends_run, run_length, RunsOver}
use Rattle.juniper_values.specs.declared.block_string.Place.{Place}
use Rattle.juniper_values.specs.declared.block_string.Place.TheVariants.{First, Indent, AfterIndent}
use Rattle.juniper_values.proofs.BlockWritten.{stays}
use Rattle.juniper_values.proofs.BlockIndents.{least_with, turned}
use Rattle.juniper_values.proofs.BlockFeeds.{feeds_with, feeds_filled}

run_more : (c : ℕ) (t : List ℕ) → ends_run c ≡ false → run_length (c ∷ t) ≡ suc (run_length t)
run_more c t e = ap (λ b. cond (not b) (1 + run_length t) 0) e ∙ one_more (run_length t)
  where
    one_more : (n : ℕ) → 1 + n ≡ suc n
    one_more n = omega arith

run_none : (c : ℕ) (t : List ℕ) → ends_run c ≡ true → run_length (c ∷ t) ≡ 0
run_none c t e = ap (λ b. cond (not b) (1 + run_length t) 0) e

-- ---- the bytes of a run

-- no byte of a character past ASCII ends a run
goes_on_high : (b : ℕ) → 128 ≤ b → ends_run b ≡ false
goes_on_high b l = grind arith

inner_high : (b : ℕ) → is_inner b ≡ true → 128 ≤ b
inner_high b e = grind arith

past_inner : (bs r : List ℕ) → AllByRecursion (λ b. is_inner b ≡ true) bs
    → run_length (bs ++ r) ≡ length bs + run_length r
past_inner [] r h = none_more (run_length r)
  where
    none_more : (n : ℕ) → n ≡ 0 + n
    none_more n = omega arith
past_inner (b ∷ bs) r h =
    run_more b (bs ++ r) (goes_on_high b (inner_high b h.0)) ∙ ap (λ n. suc n) (past_inner bs r h.1)
    ∙ one_more (length bs) (run_length r)
  where
    one_more : (n m : ℕ) → suc (n + m) ≡ suc n + m
    one_more n m = omega arith

past_high : (c : ℕ) (r : List ℕ) → 128 ≤ c → run_length (encode c ++ r) ≡ length (encode c) + run_length r
past_high c r l =
    let w = wide c l in
    let high : 128 ≤ w.lead = omega (arith, w.high) in
    let one_more : suc (length w.inners + run_length r) ≡ suc (length w.inners) + run_length r = omega arith in
    rw w.is
    (run_more w.lead (w.inners ++ r) (goes_on_high w.lead high) ∙ ap (λ n. suc n) (past_inner w.inners r w.inner)
    ∙ one_more)

-- A run of characters ends where one of their bytes does.
run_bytes : (cs : Text) → run_length (encodes cs) ≡ byte_at (run_length cs) cs
run_bytes [] = refl
run_bytes (c ∷ cs) = by_size (low_or_high c) (ends_run c) refl (run_bytes cs)
  where
    by_size : (c < 128) ⊎ (128 ≤ c) → (b : Bool) → ends_run c ≡ b → run_length (encodes cs) ≡ byte_at (run_length cs) cs
        → run_length (encodes (c ∷ cs)) ≡ byte_at (run_length (c ∷ cs)) (c ∷ cs)
    by_size (inl l) true e h =
        ap (λ bs. run_length (bs ++ encodes cs)) (encode_ascii c l) ∙ run_none c (encodes cs) e
        ∙ ap (λ n. byte_at n (c ∷ cs)) (sym (run_none c cs e))
    by_size (inl l) false e h =
        ap (λ bs. run_length (bs ++ encodes cs)) (encode_ascii c l) ∙ run_more c (encodes cs) e
        ∙ ap (λ n. suc n) h
        ∙ sym (ascii_first c (run_length cs) cs l)
        ∙ ap (λ n. byte_at n (c ∷ cs)) (sym (run_more c cs e))
    by_size (inr l) b e h =
        past_high c (encodes cs) l
        ∙ ap (λ n. length (encode c) + n) h
        ∙ sym (length-append (encode c) (encodes (take (run_length cs) cs)))
        ∙ ap (λ n. byte_at n (c ∷ cs)) (sym (run_more c cs (goes_on_high c l)))

pub run_offset : (text : List ℕ) (n : ℕ) → IsUtf8 text → n ≡ run_length text
    → n ≡ byte_at (run_length (chars text)) (chars text)
run_offset text n utf8 e = e ∙ ap run_length (sym (encodes-chars text utf8)) ∙ run_bytes (chars text)

-- ---- the bytes of a run, compared

-- A loop over bytes came so far, and no byte before ends a run.
abbrev pub RunsTo : List ℕ → ℕ → Type 0
RunsTo bytes n = (n ≤ length bytes) × ((k : ℕ) → k < n → ends_run (get_or bytes k 0) ≡ false)

pub runs_on : (bytes : List ℕ) (i n : ℕ) → i + n ≤ length bytes → RunsTo bytes i → RunsOver bytes i n
    → RunsTo bytes (i + n)
runs_on bytes i n within before over = (within, λ k l. by_place k l (ltb k i) refl)
  where
    by_place : (k : ℕ) → k < i + n → (b : Bool) → ltb k i ≡ b → ends_run (get_or bytes k 0) ≡ false
    by_place k l true e = before.1 k (grind arith)
    by_place k l false e = over.1 k (grind arith) l

pub run_ends : (bytes : List ℕ) (i : ℕ) → RunsTo bytes i
    → (i < length bytes → ends_run (get_or bytes i 0) ≡ true) → i ≡ run_length bytes
run_ends bytes i before ends = sym (prefix_len_is (λ b. not (ends_run b)) bytes i 0 before.0
    (λ k l. ap not (before.1 k l)) (λ l. ap not (ends l)))

-- where the lanes that are set are those of bytes that end a run
pub over : (bytes : List ℕ) (i r : ℕ) (z : List ℕ) → i + 16 ≤ length bytes → ((k : ℕ) → Fits w8 (get_or bytes k 0))
    → r ≡ first_set (mask_l (map (top 7) z) % 2 ^ 64) 16 → (f : ℕ → ℕ) → z ≡ map f (chunk i 16 bytes)
    → agree_below ends_run (λ x. top 7 (f x)) 256 ≡ true → RunsOver bytes i r
over bytes i r z within fits found f lanes same =
    let ends : ℕ → Bool = λ x. top 7 (f x) in
    let before = counted bytes i r z within found f lanes in
    let here = λ (k : ℕ). agree_below_at ends_run ends 256 (get_or bytes k 0) same (fits k).fits in (
      run_in_chunk_le ends bytes i 16 r 0 within before,
      λ k from to. here k ∙ run_in_chunk_fails ends bytes i 16 r 0 within before k from to,
      λ short. here (i + r) ∙ run_in_chunk_stops ends bytes i 16 r 0 within before short,
    )

-- ---- what a run changes

in_line : (c : ℕ) → ends_run c ≡ false → is_line_end c ≡ false
in_line c e = (or_parts (c == 92) (is_line_end c) e).1

stays_in : (c : ℕ) (t : Text) → ends_run c ≡ false → is_left_out c t ≡ false
stays_in c t e =
    let backslash : (c == 92) ≡ false = (or_parts (c == 92) (is_line_end c) e).0 in
    let return : (c == 13) ≡ false = (or_parts (c == 10) (c == 13) (in_line c e)).1 in
    rw (backslash, return) refl

-- What holds in front of a text, and goes on past each character that ends no run, holds after the run.
past_run : (P : Text → Text → Type 0)
    → ((front : Text) (c : ℕ) (t : Text) → ends_run c ≡ false → P front (c ∷ t) → P (front ++ c ∷ []) t)
    → (front t : Text) → P front t → P (front ++ take (run_length t) t) (drop (run_length t) t)
past_run P on front [] h = rw (append-nil front) h
past_run P on front (c ∷ t) h =
    by_test (ends_run c) refl (λ e. past_run P on (front ++ c ∷ []) t (on front c t e h))
  where
    by_test : (b : Bool) → ends_run c ≡ b
        → (ends_run c ≡ false → P ((front ++ c ∷ []) ++ take (run_length t) t) (drop (run_length t) t))
        → P (front ++ take (run_length (c ∷ t)) (c ∷ t)) (drop (run_length (c ∷ t)) (c ∷ t))
    by_test true e later = rw (run_none c t e, append-nil front) h
    by_test false e later =
        rw (run_more c t e) (rw (append_assoc front (c ∷ []) (take (run_length t) t)) at later e)

-- a run stands for itself where no more of its line is removed
pub writes_run : (k n feeds : ℕ) (t run rest : Text) → n ≡ 0
    → run ≡ take (run_length t) t → rest ≡ drop (run_length t) t
    → left_text k n feeds (lines_of t) ≡ run ++ left_text k n feeds (lines_of rest)
writes_run k n feeds t run rest none front after =
    let left : Text → Text = λ u. left_text k 0 feeds (lines_of u) in
    rw (none, front, after) (sym (past_run (λ read u. read ++ left u ≡ left t)
    (λ read c u e so_far.
    append_assoc read (c ∷ []) (left u)
    ∙ ap (λ v. read ++ v) (sym (stays k 0 feeds c u (c ∷ u) refl (stays_in c u e) (in_line c e) refl))
    ∙ so_far)
    [] t refl))

pub goes_on_in_run : (c : ℕ) → c ≢ 92 → is_line_end c ≡ false → ends_run c ≡ false
goes_on_in_run c other on = rw (ne_eqb c 92 other) on

pub some_bytes : (bs : List ℕ) (c : ℕ) (t : Text) → chars bs ≡ c ∷ t → 0 < length bs
some_bytes [] c t e = absurd (let no : [] ≡ c ∷ t = sym chars-nil ∙ e in cc)
some_bytes (b ∷ bs) c t e = omega arith

-- there is one where a character comes that ends none
pub some_run : (c : ℕ) (t u run : Text) → u ≡ c ∷ t → ends_run c ≡ false → run ≡ take (run_length u) u
    → run ≡ c ∷ take (run_length t) t
some_run c t u run is e front =
    front ∙ ap (λ v. take (run_length v) v) is ∙ ap (λ n. take n (c ∷ t)) (run_more c t e)

place_stays : (place : Place) (c : ℕ) → is_in_indent place ≡ false → is_line_end c ≡ false → place_after place c ≡ place
place_stays First c e on = rw on refl
place_stays (Indent n) c e on = absurd (cc e)
place_stays AfterIndent c e on = rw on refl

least_stays : (o : Option ℕ) (place : Place) (c : ℕ) → is_in_indent place ≡ false → least_after o place c ≡ o
least_stays o First c e = refl
least_stays o (Indent n) c e = absurd (cc e)
least_stays o AfterIndent c e = refl

pub passes_run : (o : Option ℕ) (place : Place) (t rest : Text) (all : ℕ) → is_in_indent place ≡ false
    → rest ≡ drop (run_length t) t
    → least_with o place (lines_of t) ≡ all → least_with o place (lines_of rest) ≡ all
passes_run o place t rest all out is so_far = rw is
    (past_run (λ front u. least_with o place (lines_of u) ≡ all)
    (λ front c u e h.
    turned o o place place c u (c ∷ u) all (stays_in c u e) refl (sym (least_stays o place c out))
    (sym (place_stays place c out (in_line c e))) h)
    [] t so_far)

pub feeds_past_run : (ends : ℕ) (t rest : Text) (all : ℕ) → rest ≡ drop (run_length t) t
    → feeds_with ends ends (lines_of t) ≡ all → feeds_with ends ends (lines_of rest) ≡ all
feeds_past_run ends t rest all is so_far = rw is
    (past_run (λ front u. feeds_with ends ends (lines_of u) ≡ all)
    (λ front c u e h.
    feeds_filled ends ends c u (c ∷ u) all refl h AfterIndent (stays_in c u e) (in_line c e) (λ out. refl)
    (ap is_in_indent (place_stays AfterIndent c refl (in_line c e))))
    [] t so_far)
