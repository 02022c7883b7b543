-- Tokens that a run finds: Names, Ints, Strings without escapes; and punctuators of one character.
use Rattle.std.proofs.Common.{◌≡◌, ℕ, suc, ◌+◌, ◌-◌, ◌<◌, ◌≤◌, Bool, true, false, cond, ◌==◌, List, [], ◌∷◌, ◌++◌, length, take, drop, get_or, get_or-drop, Option, Some, None, refl, sym, ap, ap₂, subst, ◌∙◌, arith, length-drop}
use Rattle.std.specs.Prelude.{option_map, is_some, not, ◌&&◌}
use Rattle.std.specs.Str.{chars, IsUtf8}
use Rattle.std.proofs.lemmas.Bool.{eqb-true, ltb-true}
use Rattle.std.proofs.lemmas.List.{take_all}
use Rattle.std.proofs.lemmas.Str.{encodes-chars, encode_ascii}
use denote.Enum.Bare.{sameb}
use lib.Utf8.{encodes}
use Rattle.graphql_lexical.specs.Characters.{is_name_character, is_digit, is_plain}
use Rattle.graphql_lexical.specs.declared.kind.Kind.{Kind}
use Rattle.graphql_lexical.specs.declared.kind.Kind.TheVariants as kinds
use Rattle.graphql_lexical.specs.declared.state.State.{State}
use Rattle.graphql_lexical.specs.declared.state.State.TheVariants.{Start, Done, OneDot, TwoDots, InName, Zero, Digits, Quote, InString, Backslash}
use Rattle.graphql_lexical.specs.device.Machines.{onward, reach}
use Rattle.graphql_lexical.specs.device.Scan.{step, answer}
use Rattle.graphql_lexical.specs.device.Scan as scans
use Rattle.graphql_lexical.specs.Tokens.{punctuator}
use Rattle.graphql_lexical.proofs.Public.{Stops, reach_is}
use Rattle.juniper_tokens.specs.contracts.byte_classes.ByteClass.{the_type}
use Rattle.juniper_tokens.specs.declared.byte_classes.ByteClass.{ByteClass}
use Rattle.juniper_tokens.specs.declared.byte_classes.ByteClass.TheVariants as classes
use Rattle.juniper_tokens.specs.declared.lexer.run.Run.{Run}
use Rattle.juniper_tokens.specs.declared.lexer.run.Run.TheVariants as run
use Rattle.juniper_tokens.specs.declared.lexer.text.Offset.{Offset}
use Rattle.juniper_tokens.specs.ByteClasses.{class_of, name_class, digit_class, first_state}
use Rattle.juniper_tokens.specs.device.Offsets.{IsOffset}
use Rattle.juniper_tokens.specs.device.ByteRuns.{byte_at, is_inner}
use Rattle.juniper_tokens.specs.device.Scans.{Finds}
use Rattle.juniper_tokens.specs.device.Walks.{run_test, run_step, run_size, run_machine, RunsTo, token_machine, WalkedToken, is_in_float, first_class}
use Rattle.juniper_tokens.proofs.Offsets.{ascii_first, byte_at_on}
use Rattle.juniper_tokens.proofs.ByteClasses.{name_class_tests, digit_class_tests, first_state_tests, low_class, low_class_tests, quote_class_tests, dot_class_tests}
use Rattle.juniper_tokens.proofs.ByteRuns.{step_once, walked_on}
use Rattle.juniper_tokens.proofs.RunWalks.{walked_none, walked_further}
use Rattle.juniper_tokens.proofs.TokenWalks.{string_over, token_step}
use Rattle.juniper_tokens.proofs.Runs.{run_of, run_more, run_none, run_stops, rest_bytes, FirstByte, first_byte, first_low, begins_outer}

-- a token in state q, whose steps end after n characters
pub ended_token : (cs : List ℕ) (kind : Kind) (q : State) (b n : ℕ) → reach step Start cs ≡ (n, q)
    → answer q n cs ≡ scans.found n kind cs
    → b ≡ byte_at n cs → Finds cs (record { kind = kind; end = record { bytes = b; characters = n } })
ended_token cs kind q b n r a e = (ap (λ (x : ℕ × State). answer x.1 x.0 cs) r ∙ a, e)

done_stays : (kind : Kind) (cs : List ℕ) → reach step (Done kind) cs ≡ (0, Done kind)
done_stays kind [] = refl
done_stays kind (c ∷ cs) = refl

step_more : (q p r : State) (c n : ℕ) (cs : List ℕ) → step q c ≡ Some p → reach step p cs ≡ (n, r)
    → reach step q (c ∷ cs) ≡ (suc n, r)
step_more q p r c n cs e h = rw (e, h) refl

-- a token whose first character leads to a state in which it also stays
begins_in : (q : State) (b : ℕ) (cs : List ℕ) → step Start b ≡ Some q → step q b ≡ Some q
    → reach step Start (b ∷ cs) ≡ reach step q (b ∷ cs)
begins_in q b cs e s = rw (e, s) refl

-- Where a state is stayed in over a run, the steps go on from its end.
in_run : (r : Run) (q : State) → ((c : ℕ) → run_test r c ≡ true → step q c ≡ Some q) → (cs : List ℕ) (n : ℕ) (p : State)
    → reach step q (drop (run_size r cs) cs) ≡ (n, p) → reach step q cs ≡ (run_size r cs + n, p)
in_run r q stays [] n p e = e ∙ ap (λ i. (i, p)) (omega arith)
in_run r q stays (c ∷ cs) n p e = by_test (run_test r c) refl (in_run r q stays cs n p) e
  where
    by_test : (goes : Bool) → run_test r c ≡ goes
        → (reach step q (drop (run_size r cs) cs) ≡ (n, p) → reach step q cs ≡ (run_size r cs + n, p))
        → reach step q (drop (run_size r (c ∷ cs)) (c ∷ cs)) ≡ (n, p)
        → reach step q (c ∷ cs) ≡ (run_size r (c ∷ cs) + n, p)
    by_test true t more e =
        let k = run_more r c cs t in
        step_more q q p c (run_size r cs + n) cs (stays c t)
        (more (ap (λ i. reach step q (drop i (c ∷ cs))) (sym k) ∙ e)) ∙ ap (λ i. (i, p)) (omega (arith, k))
    by_test false t more e =
        let k = run_none r c cs t in
        ap (λ i. reach step q (drop i (c ∷ cs))) (sym k) ∙ (e ∙ ap (λ i. (i, p)) (omega (arith, k)))

-- the same, where they stop there
over_run : (r : Run) (q : State) → ((c : ℕ) → run_test r c ≡ true → step q c ≡ Some q) → (cs : List ℕ)
    → reach step q (drop (run_size r cs) cs) ≡ (0, q) → reach step q cs ≡ (run_size r cs, q)
over_run r q stays cs e = in_run r q stays cs 0 q e ∙ ap (λ i. (i, q)) (omega arith)

no_more : (u : Unit {0}) (goes : Bool) → cond goes (Some u) None ≡ None → goes ≡ false
no_more u true e = absurd (cc e)
no_more u false e = refl

name_stays : (c : ℕ) → run_test run.Name c ≡ true → step InName c ≡ Some InName
name_stays c e = ap (λ b. cond b (Some InName) None) e

name_ends : (u : Unit {0}) (cs : List ℕ) → Stops (run_step run.Name) u cs → reach step InName cs ≡ (0, InName)
name_ends u [] s = refl
name_ends u (c ∷ cs) s = ap (λ b. onward InName (λ p. reach step p cs) (cond b (Some InName) None))
    (no_more u (is_name_character c) s)

digit_stays : (c : ℕ) → run_test run.Digits c ≡ true → step Digits c ≡ Some Digits
digit_stays c e = ap (λ b. cond b (Some Digits) (step Zero c)) e

digits_end : (u : Unit {0}) (cs : List ℕ) → Stops (run_step run.Digits) u cs → is_in_float cs ≡ false
    → reach step Digits cs ≡ (0, Digits)
digits_end u [] s f = refl
digits_end u (c ∷ cs) s f =
    ap (onward Digits (λ p. reach step p cs))
    (ap (λ b. cond b (Some Digits) (step Zero c)) (no_more u (is_digit c) s) ∙ no_step (step Zero c) f)
  where
    no_step : (q : Option State) → is_some q ≡ false → q ≡ None
    no_step None f = refl
    no_step (Some q) f = absurd (cc f)

-- the step within a string at another character
abbrev step_by_quote : ℕ → Option State
step_by_quote c = cond (c == 34) (Some (Done kinds.String)) (cond (c == 92) (Some Backslash) None)

plain_stays : (c : ℕ) → run_test run.Plain c ≡ true → step InString c ≡ Some InString
plain_stays c e = ap (λ b. cond b (Some InString) (step_by_quote c)) e

string_ends : (cs t : List ℕ) → cs ≡ 34 ∷ t → reach step InString cs ≡ (1, Done kinds.String)
string_ends cs t e = ap (reach step InString) e ∙ step_more InString (Done kinds.String) (Done kinds.String) 34 0 t refl
    (done_stays kinds.String t)

same_after : (c : ℕ) (cs : List ℕ) → is_plain c ≡ true → reach step Quote (c ∷ cs) ≡ reach step InString (c ∷ cs)
same_after c cs e = rw e refl

string_read : (cs t : List ℕ) → 0 < run_size run.Plain cs → drop (run_size run.Plain cs) cs ≡ 34 ∷ t
    → reach step Start (34 ∷ cs) ≡ (suc (run_size run.Plain cs + 1), Done kinds.String)
string_read [] t l d = absurd (omega (arith, l))
string_read (c ∷ cs) t l d = by_plain (is_plain c) refl
  where
    by_plain : (is : Bool) → is_plain c ≡ is
        → reach step Start (34 ∷ (c ∷ cs)) ≡ (suc (run_size run.Plain (c ∷ cs) + 1), Done kinds.String)
    by_plain true e = step_more Start Quote (Done kinds.String) 34 _ (c ∷ cs) refl
        (same_after c cs e ∙ in_run run.Plain InString plain_stays (c ∷ cs) 1 (Done kinds.String) (string_ends _ t d))
    by_plain false e = absurd (omega (arith, l, run_none run.Plain c cs e))

-- the bytes of two and of three dots
dots_at_two : (t : List ℕ) → byte_at 2 (46 ∷ (46 ∷ t)) ≡ 2
dots_at_two t = ascii_first 46 1 (46 ∷ t) (omega arith) ∙ ap suc (ascii_first 46 0 t (omega arith))

dots_at_three : (t : List ℕ) → byte_at 3 (46 ∷ (46 ∷ (46 ∷ t))) ≡ 3
dots_at_three t = ascii_first 46 2 (46 ∷ (46 ∷ t)) (omega arith) ∙ ap suc (dots_at_two t)

dots_read : (t : List ℕ) → reach step Start (46 ∷ (46 ∷ (46 ∷ t))) ≡ (3, Done kinds.Ellipsis)
dots_read t = step_more Start OneDot (Done kinds.Ellipsis) 46 2 (46 ∷ (46 ∷ t)) refl
    (step_more OneDot TwoDots (Done kinds.Ellipsis) 46 1 (46 ∷ t) refl
    (step_more TwoDots (Done kinds.Ellipsis) (Done kinds.Ellipsis) 46 0 t refl (done_stays kinds.Ellipsis t)))

-- Over the bytes of a run after a String's first quote the steps are those within a String.
begun : (ds tail : List ℕ) (r : Offset) → tail ≡ encodes ds → RunsTo run.Plain tail r → 0 < r.characters → (n : ℕ)
    → reach token_machine (Quote, n) tail ≡ reach token_machine (InString, n) tail
begun ds [] r e h l n = absurd (omega (arith, l, ap (λ (x : ℕ × (Unit {0} × ℕ)). x.1.1) h))
begun ds (b ∷ bs) r e h l n = by_test (is_plain b) refl
  where
    outer : is_inner b ≡ false
    outer = begins_outer ds b (first_byte ds (b ∷ bs) e (omega arith))

    by_test : (goes : Bool) → is_plain b ≡ goes
        → reach token_machine (Quote, n) (b ∷ bs) ≡ reach token_machine (InString, n) (b ∷ bs)
    by_test true p = rw (outer, p) refl
    by_test false p =
        let stops : (not (is_inner b) && run_test run.Plain b) ≡ false = rw (outer, p) refl in
        let none : (0, (tt {0}, 0)) ≡ (r.bytes, (tt {0}, r.characters)) =
        sym (step_once (run_machine run.Plain) (tt, 0) bs b None (run_stops run.Plain 0 b stops outer)) ∙ h in
        absurd (omega (arith, l, ap (λ (x : ℕ × (Unit {0} × ℕ)). x.1.1) none))

-- ---- by the class of the first byte

pub class_there : (text : List ℕ) → IsUtf8 text → first_class (chars text) ≡ class_of (get_or text 0 0)
class_there text u = ap (λ t. class_of (get_or t 0 0)) (encodes-chars text u)

-- what is of another class than a zero byte is there
pub some_there : (text : List ℕ) (class : ByteClass) → class ≡ class_of (get_or text 0 0)
    → (class ≡ classes.Control → ⊥) → 0 < length text
some_there [] class e n = absurd (n e)
some_there (b ∷ text) class e n = omega arith

module _ (text bytes : List ℕ) (u : IsUtf8 text) (same : bytes ≡ text) (some : 0 < length text)
    (small : get_or text 0 0 < 256) where
  abbrev pub cs : List ℕ
  cs = chars text

  abbrev pub b : ℕ
  b = get_or text 0 0

  whole : bytes ≡ encodes cs
  whole = same ∙ sym (encodes-chars text u)

  module _ (class : ByteClass) (class_is : class ≡ class_of b) (is_low : low_class class ≡ true) where
    below : b < 128
    below = ltb-true b 128 (sym (low_class_tests b small) ∙ (ap low_class (sym class_is) ∙ is_low))

    front : cs ≡ b ∷ drop 1 cs
    front = first_low cs b (first_byte cs text (sym (encodes-chars text u)) some) below

    starts : step Start b ≡ first_state class b
    starts = sym (first_state_tests b small) ∙ ap (λ k. first_state k b) (sym class_is)

    -- the bytes after it
    bytes_after : (tail : List ℕ) → tail ≡ take (length bytes - 1) (drop 1 bytes) → tail ≡ encodes (drop 1 cs)
    bytes_after tail e =
        e ∙ (take_all (length bytes - 1) (drop 1 bytes) (omega (arith, length-drop 1 bytes))
        ∙ (ap (drop 1) (whole ∙ ap encodes front) ∙ ap (λ t. drop 1 (t ++ encodes (drop 1 cs))) (encode_ascii b below)))

  -- a token whose characters are a run, in one state
  of_run : (kind : Kind) (q : State) (r : Run) → ((c : ℕ) → run_test r c ≡ true → step q c ≡ Some q)
      → (class : ByteClass) → class ≡ class_of b → low_class class ≡ true
      → first_state class b ≡ Some q → run_test r b ≡ true → (e : Offset) → RunsTo r bytes e
      → reach step q (drop (run_size r cs) cs) ≡ (0, q)
      → answer q e.characters cs ≡ scans.found e.characters kind cs → Finds cs (record { kind = kind; end = e })
  of_run kind q r stays class c low first is e h ends a =
      let over = run_of r cs bytes e whole h in
      let f = front class c low in
      let begins : reach step Start cs ≡ reach step q cs = ap (reach step Start) f
      ∙ (begins_in q b (drop 1 cs) (starts class c low ∙ first) (stays b is) ∙ sym (ap (reach step q) f)) in
      ended_token cs kind q e.bytes e.characters
      (begins ∙ (over_run r q stays cs ends ∙ ap (λ k. (k, q)) (sym over.characters))) a over.offset

  pub name_found : (r : Offset) → classes.NameStart ≡ class_of b → RunsTo run.Name bytes r
      → Finds cs (record { kind = kinds.Name; end = r })
  name_found r c h =
      of_run kinds.Name InName run.Name name_stays classes.NameStart c refl refl
      (sym (name_class_tests b small) ∙ ap name_class (sym c)) r h
      (name_ends _ _ (reach_is (run_step run.Name) tt cs).stops) refl

  pub digits_offset : (r : Offset) → RunsTo run.Digits bytes r → IsOffset r cs
  digits_offset r h = (run_of run.Digits cs bytes r whole h).offset

  pub int_found : (r : Offset) → classes.Digit ≡ class_of b → (b == 48) ≡ false → RunsTo run.Digits bytes r
      → is_in_float (drop r.characters cs) ≡ false
      → Finds cs (record { kind = kinds.Int; end = r })
  int_found r c z h more =
      of_run kinds.Int Digits run.Digits digit_stays classes.Digit c refl (ap (λ x. cond x (Some Zero) (Some Digits)) z)
      (sym (digit_class_tests b small) ∙ ap digit_class (sym c)) r h
      (digits_end _ _ (reach_is (run_step run.Digits) tt cs).stops
      (ap (λ k. is_in_float (drop k cs)) (sym (run_of run.Digits cs bytes r whole h).characters) ∙ more)) refl

  pub mark_found : (kind : Kind) → classes.Punctuator ≡ class_of b → punctuator b ≡ Some kind
      → Finds cs (record { kind = kind; end = record { bytes = 1; characters = 1 } })
  mark_found kind c e =
      let f = front classes.Punctuator c refl in
      let goes : step Start b ≡ Some (Done kind) = starts classes.Punctuator c refl ∙ ap (option_map Done) e in
      ended_token cs kind (Done kind) 1 1 (ap (reach step Start) f
      ∙ step_more Start (Done kind) (Done kind) b 0 (drop 1 cs) goes (done_stays kind (drop 1 cs))) refl
      (sym (ap (byte_at 1) f ∙ ascii_first b 0 (drop 1 cs) (below classes.Punctuator c refl)))

  -- the ASCII character that begins at a byte
  stands_at : (i k a : ℕ) → i ≡ byte_at k cs → a < 128 → i < length bytes → get_or bytes i 0 ≡ a
      → drop k cs ≡ a ∷ drop 1 (drop k cs)
  stands_at i k a o l within e =
      let rest : drop i bytes ≡ encodes (drop k cs) = ap (drop i) same ∙ rest_bytes text i k u o in
      first_low (drop k cs) a (subst (λ x. FirstByte (drop k cs) x)
      (get_or-drop i bytes 0 0 ∙ (ap (λ n. get_or bytes n 0) (plus_none i) ∙ e))
      (first_byte (drop k cs) (drop i bytes) rest (omega (arith, within, length-drop i bytes)))) l
    where
      plus_none : (n : ℕ) → n + 0 ≡ n
      plus_none n = omega arith

  pub dots_found : classes.Dot ≡ class_of b → 2 < length bytes → get_or bytes 1 0 ≡ 46 → get_or bytes 2 0 ≡ 46
      → Finds cs (record { kind = kinds.Ellipsis; end = record { bytes = 3; characters = 3 } })
  dots_found c l second third =
      let dot : b ≡ 46 = eqb-true b 46 (sym (dot_class_tests b small)
      ∙ ap (λ k. sameb the_type k classes.Dot) (sym c)) in
      let one : cs ≡ 46 ∷ drop 1 cs = front classes.Dot c refl ∙ ap (λ (x : ℕ). x ∷ drop 1 cs) dot in
      let first : 1 ≡ byte_at 1 cs = sym (ap (byte_at 1) one ∙ ascii_first 46 0 (drop 1 cs) (omega arith)) in
      let more : drop 1 cs ≡ 46 ∷ drop 1 (drop 1 cs) =
      stands_at 1 1 46 first (omega arith) (omega (arith, l)) second in
      let two : cs ≡ 46 ∷ (46 ∷ drop 1 (drop 1 cs)) = one ∙ ap (λ (t : List ℕ). 46 ∷ t) more in
      let last : drop 2 cs ≡ 46 ∷ drop 1 (drop 2 cs) =
      stands_at 2 2 46 (sym (ap (byte_at 2) two ∙ dots_at_two (drop 1 (drop 1 cs)))) (omega arith) l third in
      let three : cs ≡ 46 ∷ (46 ∷ (46 ∷ drop 1 (drop 2 cs))) =
      two ∙ ap (λ (t : List ℕ). 46 ∷ (46 ∷ t)) (sym (ap (drop 2) two) ∙ last) in
      ended_token cs kinds.Ellipsis (Done kinds.Ellipsis) 3 3
      (ap (reach step Start) three ∙ dots_read (drop 1 (drop 2 cs)))
      refl (sym (ap (byte_at 3) three ∙ dots_at_three (drop 1 (drop 2 cs))))

  -- at a quote after the run
  pub string_found : (r : Offset) (tail : List ℕ) → classes.Quote ≡ class_of b
      → tail ≡ take (length bytes - 1) (drop 1 bytes) → RunsTo run.Plain tail r
      → 0 < r.characters → 1 + r.bytes < length bytes → get_or bytes (1 + r.bytes) 0 ≡ 34
      → Finds cs (record {
        kind = kinds.String;
        end = record {
          bytes = (1 + r.bytes) + 1;
          characters = 2 + r.characters;
        };
      })
  string_found r tail c t h l k e =
      let ds = drop 1 cs in
      let n = r.characters in
      let quote : b ≡ 34 = eqb-true b 34 (sym (quote_class_tests b small)
      ∙ ap (λ k. sameb the_type k classes.Quote) (sym c)) in
      let units = run_of run.Plain ds tail r (bytes_after classes.Quote c refl tail t) h in
      let f = front classes.Quote c refl in
      let offset : 1 + r.bytes ≡ byte_at (suc n) cs = omega (
        arith,
        units.offset,
        ap (byte_at (suc n)) f ∙ ascii_first b n ds (below classes.Quote c refl),
      ) in
      let past : drop (suc n) cs ≡ drop n ds = ap (drop (suc n)) f in
      let last : drop n ds ≡ 34 ∷ drop 1 (drop n ds) =
      sym past
      ∙ (stands_at (1 + r.bytes) (suc n) 34 offset (omega arith) k e ∙ ap (λ (t : List ℕ). 34 ∷ drop 1 t) past) in
      let reached : reach step Start cs ≡ (2 + n, Done kinds.String) =
      ap (reach step Start) (f ∙ ap (λ (x : ℕ). x ∷ ds) quote)
      ∙ (string_read ds (drop 1 (drop n ds)) (omega (arith, units.characters, l))
      (ap (λ k. drop k ds) (sym units.characters) ∙ last)
      ∙ ap (λ k. (k, Done kinds.String)) (omega (arith, units.characters))) in
      let two : 2 + n ≡ suc n + 1 = omega arith in
      let ends : (1 + r.bytes) + 1 ≡ byte_at (2 + n) cs =
      ap₂ (λ x y. x + y) offset (sym (ap (byte_at 1) (ap (drop (suc n)) f ∙ last)
      ∙ ascii_first 34 0 (drop 1 (drop n ds)) (omega arith)))
      ∙ (byte_at_on (suc n) 1 cs ∙ ap (λ k. byte_at k cs) (sym two)) in
      ended_token cs kinds.String (Done kinds.String) ((1 + r.bytes) + 1) (2 + n) reached refl ends

  -- Up to the end of the run a String has begun.
  pub string_begun : (r : Offset) (tail : List ℕ) → classes.Quote ≡ class_of b
      → tail ≡ take (length bytes - 1) (drop 1 bytes) → RunsTo run.Plain tail r
      → r.bytes ≤ length tail → 0 < r.characters → WalkedToken text (1 + r.bytes) InString (1 + r.characters)
  string_begun r tail c t h within l =
      let quote : b ≡ 34 = eqb-true b 34 (sym (quote_class_tests b small)
      ∙ ap (λ k. sameb the_type k classes.Quote) (sym c)) in
      let outer : is_inner b ≡ false = ap is_inner quote in
      let opens : step Start b ≡ Some Quote = ap (step Start) quote in
      let one : WalkedToken text 1 Quote 1 = walked_on token_machine (Start, 0) (Start, 0) (Quote, 1) text 0 some
      (token_step Start Quote 0 b outer opens) (walked_none token_machine (Start, 0) text) in
      let steps = begun (drop 1 cs) tail r (bytes_after classes.Quote c refl tail t) h l 1 in
      walked_further token_machine (Start, 0) (Quote, 1) (InString, 1 + r.characters) text tail 1 r.bytes
      (t ∙ ap (λ bs. take (length bs - 1) (drop 1 bs)) same) within (steps ∙ string_over tail r h 1) one
