-- A loop over white space and comments, which stands between two of them.
use Rattle.std.proofs.Common.{◌≡◌, ℕ, suc, ◌+◌, ◌-◌, ◌≤◌, ◌<◌, Bool, true, false, cond, ◌==◌, List, [], ◌∷◌, length, take, drop, drop-drop, get_or, get_or-drop, Option, Some, None, refl, sym, ap, subst, ◌∙◌, arith, length-drop, ◌++◌, rules}
use Rattle.std.specs.List.{fold}
use Rattle.std.specs.Str.{chars, IsUtf8}
use Rattle.std.proofs.lemmas.Bool.{eqb-true, ltb-true, lt-ltb, le-leb}
use Rattle.std.proofs.lemmas.List.{take_all, length-take-le}
use Rattle.std.proofs.lemmas.Str.{encode_ascii, length-le-encodes}
use denote.Enum.Bare.{sameb, same_true}
use lib.Utf8.{encode, encodes}
use Rattle.graphql_lexical.specs.Characters.{is_comment_character}
use Rattle.graphql_lexical.specs.device.Machines.{reach, onward}
use Rattle.graphql_lexical.specs.Place.{place, past_character, next_column, next_line}
use Rattle.graphql_lexical.specs.device.Scan.{ignored_step, ignored_size}
use Rattle.juniper_tokens.specs.contracts.byte_classes.ByteClass.{the_type}
use Rattle.juniper_tokens.specs.declared.byte_classes.ByteClass.{ByteClass}
use Rattle.juniper_tokens.specs.declared.byte_classes.ByteClass.TheVariants.{White, LineFeed, Hash, Lead, Control}
use Rattle.juniper_tokens.specs.declared.lexer.run.Run.TheVariants as run
use Rattle.juniper_tokens.specs.declared.lexer.text.Offset.{Offset}
use Rattle.juniper_tokens.specs.ByteClasses.{class_of, ignored_class}
use Rattle.juniper_tokens.specs.device.ByteRuns.{byte_at}
use Rattle.juniper_tokens.specs.device.BytePlaces.{BytePlace}
use Rattle.juniper_tokens.specs.device.LexingByScan.{IsPlaced, begins_with_mark}
use Rattle.juniper_tokens.specs.Positions.{columns_on}
use Rattle.juniper_tokens.specs.device.Walks.{run_size, RunsTo, first_class, never_ignored, PassesSpaces, IsInIgnored, EndsIgnored}
use Rattle.juniper_tokens.proofs.LexingByScan.{placed_on}
use Rattle.juniper_tokens.proofs.Offsets.{ascii_first}
use Rattle.juniper_tokens.proofs.ByteClasses.{ignored_class_tests, low_class, low_class_tests, lead_class_tests, feed_class_tests, ignored_none}
use Rattle.juniper_tokens.proofs.Places.{OnLine, line_fold, place_on}
use Rattle.juniper_tokens.proofs.Runs.{run_of, run_within, run_more, run_none, spaces_on_line, comment_on_line, rest_bytes, FirstByte, low, high, first_byte, first_low}

-- ---- how far ignored tokens go

none_more : (k : ℕ) → k ≡ 0 + k
none_more k = omega arith

one_more : (k n : ℕ) → suc (k + n) ≡ suc k + n
one_more k n = omega arith

suc_one : (k : ℕ) → suc k ≡ 1 + k
suc_one k = omega arith

one_white : (c : ℕ) (cs : List ℕ) → ignored_step false c ≡ Some false → ignored_size (c ∷ cs) ≡ suc (ignored_size cs)
one_white c cs e = ap (λ o. (onward false (λ p. reach ignored_step p cs) o).0) e

one_comment : (c : ℕ) (cs : List ℕ) → ignored_step false c ≡ Some true
    → ignored_size (c ∷ cs) ≡ suc (reach ignored_step true cs).0
one_comment c cs e = ap (λ o. (onward false (λ p. reach ignored_step p cs) o).0) e

spaces_ignored : (cs : List ℕ)
    → ignored_size cs ≡ run_size run.Spaces cs + ignored_size (drop (run_size run.Spaces cs) cs)
spaces_ignored [] = refl
spaces_ignored (c ∷ cs) = by_test (c == 32) refl (spaces_ignored cs)
  where
    by_test : (goes : Bool) → (c == 32) ≡ goes
        → ignored_size cs ≡ run_size run.Spaces cs + ignored_size (drop (run_size run.Spaces cs) cs)
        → ignored_size (c ∷ cs)
        ≡ run_size run.Spaces (c ∷ cs) + ignored_size (drop (run_size run.Spaces (c ∷ cs)) (c ∷ cs))
    by_test true e h =
        one_white c cs (ap (ignored_step false) (eqb-true c 32 e))
        ∙ (ap suc h ∙ (one_more (run_size run.Spaces cs) (ignored_size (drop (run_size run.Spaces cs) cs))
        ∙ sym (ap (λ k. k + ignored_size (drop k (c ∷ cs))) (run_more run.Spaces c cs e))))
    by_test false e h = none_more (ignored_size (c ∷ cs)) ∙ sym (ap (λ k. k + ignored_size (drop k (c ∷ cs)))
        (run_none run.Spaces c cs e))

-- where a comment ends, ignored tokens go on as outside one
comment_ignored : (cs : List ℕ) → (reach ignored_step true cs).0 ≡ run_size run.Comment cs
    + ignored_size (drop (run_size run.Comment cs) cs)
comment_ignored [] = refl
comment_ignored (c ∷ cs) = by_test (is_comment_character c) refl (comment_ignored cs)
  where
    outside : (o : Option Bool) → (onward true (λ p. reach ignored_step p cs) o).0
        ≡ (onward false (λ p. reach ignored_step p cs) o).0
    outside None = refl
    outside (Some p) = refl

    steps : (goes : Bool) → is_comment_character c ≡ goes
        → ignored_step true c ≡ cond goes (Some true) (ignored_step false c)
    steps goes e = ap (λ b. cond b (Some true) (ignored_step false c)) e

    by_test : (goes : Bool) → is_comment_character c ≡ goes
        → (reach ignored_step true cs).0 ≡ run_size run.Comment cs + ignored_size (drop (run_size run.Comment cs) cs)
        → (reach ignored_step true (c ∷ cs)).0 ≡ run_size run.Comment (c ∷ cs)
        + ignored_size (drop (run_size run.Comment (c ∷ cs)) (c ∷ cs))
    by_test true e h =
        ap (λ o. (onward true (λ p. reach ignored_step p cs) o).0) (steps true e)
        ∙ (ap suc h ∙ (one_more (run_size run.Comment cs) (ignored_size (drop (run_size run.Comment cs) cs))
        ∙ sym (ap (λ k. k + ignored_size (drop k (c ∷ cs))) (run_more run.Comment c cs e))))
    by_test false e h =
        ap (λ o. (onward true (λ p. reach ignored_step p cs) o).0) (steps false e) ∙ (outside (ignored_step false c)
        ∙ (none_more (ignored_size (c ∷ cs)) ∙ sym (ap (λ k. k + ignored_size (drop k (c ∷ cs)))
        (run_none run.Comment c cs e))))

-- a character with which ignored tokens don't go on
none_ignored : (c : ℕ) (cs : List ℕ) → ignored_step false c ≡ None → ignored_size (c ∷ cs) ≡ 0
none_ignored c cs e = ap (λ o. (onward false (λ p. reach ignored_step p cs) o).0) e

past_ascii : (c : ℕ) → 128 ≤ c → (c == 65279) ≡ false → ignored_step false c ≡ None
past_ascii c l n = grind arith

-- at the first byte of a text: a class with which ignored tokens don't go on
other_stops : (ds : List ℕ) (b : ℕ) → FirstByte ds b → b < 256 → (class : ByteClass) → class ≡ class_of b
    → (class ≡ White → ⊥) → (class ≡ LineFeed → ⊥) → (class ≡ Hash → ⊥) → (class ≡ Lead → ⊥) → ignored_size ds ≡ 0
other_stops [] b x s class e w f h n = elim x [ ]
other_stops (c ∷ cs) b (low m) s class e w f h n =
    none_ignored c cs (sym (ignored_class_tests c s) ∙ (ap ignored_class (sym e) ∙ ignored_none class w f h))
other_stops (c ∷ cs) b (high m l) s class e w f h n =
    absurd (n (e ∙ same_true the_type (search rules) (class_of b) Lead (lead_class_tests b s ∙ le-leb 192 b l)))

-- the first byte of a character past ASCII that is no byte order mark
lead_stops : (ds : List ℕ) (b : ℕ) → FirstByte ds b → b < 256 → Lead ≡ class_of b → begins_with_mark ds ≡ false
    → ignored_size ds ≡ 0
lead_stops [] b x s e n = elim x [ ]
lead_stops (c ∷ cs) b (low m) s e n = absurd (cc (ap low_class e ∙ low_class_tests c s ∙ lt-ltb c 128 m))
lead_stops (c ∷ cs) b (high m l) s e n = none_ignored c cs (past_ascii c m n)

none_left : (ds : List ℕ) → length ds ≤ 0 → ignored_size ds ≡ 0
none_left [] l = refl
none_left (d ∷ ds) l = absurd (omega (arith, l))

none_there : (ds : List ℕ) → length ds ≤ 0 → Control ≡ first_class ds
none_there [] l = refl
none_there (d ∷ ds) l = absurd (omega (arith, l))

three_bytes : (cs : List ℕ) → byte_at 1 (65279 ∷ cs) ≡ 3
unfolding encode
three_bytes cs = refl

-- all bytes after some
pub all_dropped : (bytes : List ℕ) (i : ℕ) → take (length bytes - i) (drop i bytes) ≡ drop i bytes
all_dropped bytes i = take_all (length bytes - i) (drop i bytes) (omega (arith, length-drop i bytes))

-- ---- the loop

-- further by some characters
ignored_on : (source : List ℕ) (start : ℕ) (p q : BytePlace) (n : ℕ) → (g : IsInIgnored source start p)
    → n ≤ length (drop p.place.index (chars source))
    → q.byte ≡ p.byte + byte_at n (drop p.place.index (chars source))
    → q.place ≡ fold past_character p.place (take n (drop p.place.index (chars source)))
    → ignored_size (drop p.place.index (chars source))
    ≡ n + ignored_size (drop n (drop p.place.index (chars source))) → IsInIgnored source start q
ignored_on source start p q n g l e f h =
    let cs = chars source in
    let k = p.place.index in
    let there : q.place ≡ place cs (k + n) =
    f ∙ (ap (λ x. fold past_character x (take n (drop k cs))) g.placed.place_is ∙ place_on cs k n) in
    let on = placed_on source p.byte n (byte_at n (drop k cs)) p.place q.place g.placed l refl there in
    record {
      placed = subst (λ b. IsPlaced source b q.place) (sym e) on.1;
      ignored =
          g.ignored ∙ (ap (λ m. k + m) (h ∙ ap (λ t. n + ignored_size t) (drop-drop n k cs))
          ∙ (plus_plus k n (ignored_size (drop (k + n) cs)) ∙ ap (λ m. m + ignored_size (drop m cs)) (sym on.0)));
    }
  where
    plus_plus : (a b c : ℕ) → a + (b + c) ≡ (a + b) + c
    plus_plus a b c = omega arith

-- The ignored tokens end there.
ignored_ended : (source : List ℕ) (start : ℕ) (p : BytePlace) (class : ByteClass) → (g : IsInIgnored source start p)
    → ignored_size (drop p.place.index (chars source)) ≡ 0 → class ≡ first_class (drop p.place.index (chars source))
    → EndsIgnored source start p class
ignored_ended source start p class g e h = record {
  placed = g.placed;
  index_is = omega (arith, g.ignored, e);
  class_is = h;
}

module _ (source bytes : List ℕ) (start : ℕ) (p : BytePlace) (u : IsUtf8 source) (same : bytes ≡ source)
    (g : IsInIgnored source start p) where
  abbrev pub cs : List ℕ
  cs = chars source

  abbrev k : ℕ
  k = p.place.index

  rest : drop p.byte bytes ≡ encodes (drop k cs)
  rest = ap (drop p.byte) same ∙ rest_bytes source p.byte k u g.placed.byte_is

  none_there_is : length bytes ≤ p.byte → length (drop k cs) ≤ 0
  none_there_is l =
      let none : length (encodes (drop k cs)) ≡ length (drop p.byte bytes) = ap length (sym rest) in
      omega (arith, l, none, length-drop p.byte bytes, length-le-encodes (drop k cs))

  pub none_at_end : length bytes ≤ p.byte → ignored_size (drop k cs) ≡ 0
  none_at_end l = none_left (drop k cs) (none_there_is l)

  pub class_at_end : length bytes ≤ p.byte → Control ≡ first_class (drop k cs)
  class_at_end l = none_there (drop k cs) (none_there_is l)

  pub all_read : length bytes ≤ p.byte → EndsIgnored source start p Control
  all_read l = ignored_ended source start p Control g (none_at_end l) (class_at_end l)

  module _ (l : p.byte < length bytes) (small : get_or bytes p.byte 0 < 256) where
    abbrev pub b : ℕ
    b = get_or bytes p.byte 0

    abbrev ds : List ℕ
    ds = drop 1 (drop k cs)

    first_there : get_or (drop p.byte bytes) 0 0 ≡ b
    first_there = get_or-drop p.byte bytes 0 0 ∙ ap (λ j. get_or bytes j 0) (plus_none p.byte)
      where
        plus_none : (j : ℕ) → j + 0 ≡ j
        plus_none j = omega arith

    first : FirstByte (drop k cs) b
    first =
        subst (FirstByte (drop k cs)) first_there
        (first_byte (drop k cs) (drop p.byte bytes) rest (omega (arith, l, length-drop p.byte bytes)))

    class_there : class_of b ≡ first_class (drop k cs)
    class_there = ap class_of (sym first_there ∙ ap (λ t. get_or t 0 0) rest)

    pub class_here : (class : ByteClass) → class ≡ class_of b → class ≡ first_class (drop k cs)
    class_here class e = e ∙ class_there

    pub other_ends : (class : ByteClass) → class ≡ class_of b
        → (class ≡ White → ⊥) → (class ≡ LineFeed → ⊥) → (class ≡ Hash → ⊥) → (class ≡ Lead → ⊥)
        → EndsIgnored source start p class
    other_ends class e w f h n =
        ignored_ended source start p class g (other_stops (drop k cs) b first small class e w f h n)
        (e ∙ class_there)

    pub never_ends : (class : ByteClass) → class ≡ class_of b → never_ignored class ≡ true
        → ignored_size (drop k cs) ≡ 0
    never_ends class e h =
        other_stops (drop k cs) b first small class e (no_class White refl) (no_class LineFeed refl)
        (no_class Hash refl) (no_class Lead refl)
      where
        no_class : (c : ByteClass) → never_ignored c ≡ false → class ≡ c → ⊥
        no_class c f w = let z : true ≡ false = sym h ∙ (ap never_ignored w ∙ f) in absurd (cc z)

    pub lead_ends : (class : ByteClass) → class ≡ class_of b → class ≡ Lead
        → begins_with_mark (drop k cs) ≡ false → EndsIgnored source start p class
    lead_ends class e lead n =
        ignored_ended source start p class g (lead_stops (drop k cs) b first small (sym lead ∙ e) n) (e ∙ class_there)

    pub mark_on : (q : BytePlace) → begins_with_mark (drop k cs) ≡ true
        → q ≡ record { byte = p.byte + 3; place = columns_on 1 p.place } → IsInIgnored source start q
    mark_on q m f = by_rest (drop k cs) refl m
      where
        by_rest : (es : List ℕ) → drop k cs ≡ es → begins_with_mark es ≡ true → IsInIgnored source start q
        by_rest [] e w = absurd (cc w)
        by_rest (c ∷ es) e w =
            let mark : drop k cs ≡ 65279 ∷ es = e ∙ ap (λ (x : ℕ). x ∷ es) (eqb-true c 65279 w) in
            ignored_on source start p q 1 g (omega (arith, ap length mark))
            (ap (λ (x : BytePlace). x.byte) f ∙ ap (λ j. p.byte + j) (sym (ap (byte_at 1) mark ∙ three_bytes es)))
            (ap (λ (x : BytePlace). x.place) f ∙ sym (ap (λ t. fold past_character p.place (take 1 t)) mark))
            (ap ignored_size mark ∙ (suc_one (ignored_size es) ∙ ap (λ t. 1 + ignored_size t) (sym (ap (drop 1) mark))))

    -- a character of ASCII, and a run after it
    module _ (class : ByteClass) (class_is : class ≡ class_of b) (is_low : low_class class ≡ true) where
      below : b < 128
      below = ltb-true b 128 (sym (low_class_tests b small) ∙ (ap low_class (sym class_is) ∙ is_low))

      here : drop k cs ≡ b ∷ ds
      here = first_low (drop k cs) b first below

      step_is : ignored_step false b ≡ ignored_class class
      step_is = sym (ignored_class_tests b small) ∙ ap ignored_class (sym class_is)

      over : (n m : ℕ) (q : BytePlace) → n ≤ length ds → m ≡ byte_at n ds → q.byte ≡ (p.byte + 1) + m
          → q.place ≡ fold past_character (past_character p.place b) (take n ds)
          → ignored_size (b ∷ ds) ≡ suc (n + ignored_size (drop n ds)) → IsInIgnored source start q
      over n m q w e j f h =
          ignored_on source start p q (suc n) g (omega (arith, ap length here, w))
          (omega (arith, e, j, ap (byte_at (suc n)) here ∙ ascii_first b n ds below))
          (f ∙ sym (ap (λ t. fold past_character p.place (take (suc n) t)) here))
          (ap ignored_size here ∙ (h ∙ (one_more n (ignored_size (drop n ds))
          ∙ ap (λ t. suc n + ignored_size t) (sym (ap (drop (suc n)) here)))))

      -- the bytes after it
      bytes_after : drop (p.byte + 1) bytes ≡ encodes ds
      bytes_after =
          sym (drop-drop 1 p.byte bytes) ∙ (ap (drop 1) (rest ∙ ap encodes here)
          ∙ ap (λ t. drop 1 (t ++ encodes ds)) (encode_ascii b below))

    pub white_on : (q : BytePlace) → White ≡ class_of b
        → q ≡ record { byte = p.byte + 1; place = next_column p.place } → IsInIgnored source start q
    white_on q c f =
        over White c refl 0 0 q (omega arith) refl (ap (λ (x : BytePlace). x.byte) f ∙ plus_none (p.byte + 1))
        (ap (λ (x : BytePlace). x.place) f ∙ ap (λ x. cond x (next_line p.place) (next_column p.place))
        (ap (λ j. sameb the_type j LineFeed) c ∙ feed_class_tests b small))
        (one_white b ds (step_is White c refl) ∙ ap suc (none_more (ignored_size ds)))
      where
        plus_none : (j : ℕ) → j ≡ j + 0
        plus_none j = omega arith

    pub feed_on : (q : BytePlace) → LineFeed ≡ class_of b → PassesSpaces (drop (p.byte + 1) bytes) p q
        → IsInIgnored source start q
    feed_on q c passes =
        let r = passes.0 in
        let spaces = run_of run.Spaces ds (drop (p.byte + 1) bytes) r (bytes_after LineFeed c refl) passes.1 in
        let n = r.characters in
        let within : n ≤ length ds = omega (arith, spaces.characters, run_within run.Spaces ds) in
        let feed : past_character p.place b ≡ next_line p.place = ap (λ x. cond x (next_line p.place) (next_column
        p.place))
        (sym (ap (λ j. sameb the_type j LineFeed) c ∙ feed_class_tests b small)) in
        let line : OnLine (take n ds) = subst (λ j. OnLine (take j ds)) (sym spaces.characters) (spaces_on_line ds) in
        over LineFeed c refl n r.bytes q within spaces.offset (ap (λ (x : BytePlace). x.byte) passes.2)
        (ap (λ (x : BytePlace). x.place) passes.2
        ∙ (ap (λ j. columns_on j (next_line p.place)) (sym (length-take-le n ds within))
        ∙ (sym (line_fold (next_line p.place) (take n ds) line)
        ∙ ap (λ x. fold past_character x (take n ds)) (sym feed))))
        (one_white b ds (step_is LineFeed c refl)
        ∙ ap suc (subst (λ j. ignored_size ds ≡ j + ignored_size (drop j ds)) (sym spaces.characters)
        (spaces_ignored ds)))

    pub comment_on : (q : BytePlace) (r : Offset) → Hash ≡ class_of b → RunsTo run.Comment (drop (p.byte + 1) bytes) r
        → q ≡ record { byte = (p.byte + 1) + r.bytes; place = columns_on r.characters (next_column p.place) }
        → IsInIgnored source start q
    comment_on q r c runs f =
        let comment = run_of run.Comment ds (drop (p.byte + 1) bytes) r (bytes_after Hash c refl) runs in
        let n = r.characters in
        let within : n ≤ length ds = omega (arith, comment.characters, run_within run.Comment ds) in
        let column : past_character p.place b ≡ next_column p.place =
        ap (λ x. cond x (next_line p.place) (next_column p.place))
        (sym (ap (λ j. sameb the_type j LineFeed) c ∙ feed_class_tests b small)) in
        let line : OnLine (take n ds) = subst (λ j. OnLine (take j ds)) (sym comment.characters) (comment_on_line ds) in
        over Hash c refl n r.bytes q within comment.offset (ap (λ (x : BytePlace). x.byte) f)
        (ap (λ (x : BytePlace). x.place) f
        ∙ (ap (λ j. columns_on j (next_column p.place)) (sym (length-take-le n ds within))
        ∙ (sym (line_fold (next_column p.place) (take n ds) line)
        ∙ ap (λ x. fold past_character x (take n ds)) (sym column))))
        (one_comment b ds (step_is Hash c refl)
        ∙ ap suc (subst (λ j. (reach ignored_step true ds).0 ≡ j + ignored_size (drop j ds)) (sym comment.characters)
        (comment_ignored ds)))
