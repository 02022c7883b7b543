-- A device: where the loops over bytes stop.
use Rattle.std.specs.Prelude.{◌≡◌, ℕ, ◌==◌, ◌+◌, Bool, true, false, not, ◌&&◌, if◌then◌else◌, Option, Some, None, is_some, List, [], ◌∷◌, get_or, drop}
use lib.Utf8.{encodes}
use Rattle.graphql_lexical.specs.Characters.{is_source, is_name_character, is_digit, is_plain, is_comment_character}
use Rattle.graphql_lexical.specs.device.Machines.{reach}
use Rattle.std.specs.Str.{chars}
use Rattle.graphql_lexical.specs.Place.{Place, past_character, next_line}
use Rattle.graphql_lexical.specs.declared.state.State.{State}
use Rattle.graphql_lexical.specs.declared.state.State.TheVariants.{Start, Zero}
use Rattle.graphql_lexical.specs.device.Scan.{ignored_size, step}
use Rattle.juniper_tokens.specs.declared.lexer.run.Run.{Run}
use Rattle.juniper_tokens.specs.declared.lexer.run.Run.TheVariants as run
use Rattle.juniper_tokens.specs.declared.lexer.text.Offset.{Offset}
use Rattle.juniper_tokens.specs.declared.byte_classes.ByteClass.{ByteClass}
use Rattle.juniper_tokens.specs.declared.byte_classes.ByteClass.TheVariants.{White, LineFeed, Hash, Quote, Dot, Minus}
use Rattle.juniper_tokens.specs.declared.byte_classes.ByteClass.TheVariants.{NameStart, Digit, Punctuator, Control}
use Rattle.juniper_tokens.specs.declared.byte_classes.ByteClass.TheVariants.{Other, Inner, Lead}
use Rattle.juniper_tokens.specs.ByteClasses.{class_of}
use Rattle.juniper_tokens.specs.Positions.{columns_on}
use Rattle.juniper_tokens.specs.device.BytePlaces.{BytePlace}
use Rattle.juniper_tokens.specs.device.LexingByScan.{IsPlaced}
use Rattle.juniper_tokens.specs.device.ByteRuns.{byte_step, with_value, count_one, on, Walked}

-- the kind of a run
abbrev pub run_test : Run → ℕ → Bool
run_test run.Name c = is_name_character c
run_test run.Digits c = is_digit c
run_test run.Plain c = is_plain c
run_test run.Block c = is_source c && (not (c == 34) && not (c == 92))
run_test run.Comment c = is_comment_character c
run_test run.Line c = not (c == 10)
run_test run.Spaces c = c == 32

abbrev pub run_step : Run → Unit {0} → ℕ → Option (Unit {0})
run_step run q c = if run_test run c then Some q else None

-- how many characters a run has
abbrev pub run_size : Run → List ℕ → ℕ
run_size run cs = (reach (run_step run) tt cs).0

-- the steps of a run over bytes, with the number of characters
abbrev pub run_machine : Run → Unit {0} × ℕ → ℕ → Option (Unit {0} × ℕ)
run_machine run = byte_step (with_value (run_step run) count_one)

-- this many bytes and characters
abbrev pub RunsTo : Run → List ℕ → Offset → Type 0
RunsTo run bytes b = reach (run_machine run) (tt, 0) bytes ≡ (b.bytes, (tt, b.characters))

-- the steps of a token over bytes, with the number of characters
abbrev pub token_machine : State × ℕ → ℕ → Option (State × ℕ)
token_machine = byte_step (with_value step count_one)

-- A loop over the bytes of a token stands after this many of them and of its characters, in this state.
abbrev pub WalkedToken : List ℕ → ℕ → State → ℕ → Type 0
WalkedToken bytes i q n = Walked token_machine (Start, 0) bytes i (q, n)

-- From this state the steps of a token go over this many bytes and characters, and stay.
abbrev pub StaysOver : State → List ℕ → Offset → Type 0
StaysOver q bytes b = (n : ℕ) → reach token_machine (q, n) bytes ≡ on b.bytes (reach token_machine (
  q,
  n +
      b.characters,
) (drop b.bytes bytes))

-- this many characters, counted
abbrev pub count_to : ℕ → ℕ → ℕ → Option ℕ
count_to count n c = if n == count then None else Some (n + 1)

abbrev pub count_machine : ℕ → ℕ → ℕ → Option ℕ
count_machine count = byte_step (count_to count)

-- a value that each character changes, over bytes
abbrev pub each_machine : {X : Type 0} → (X → ℕ → X) → Unit {0} × X → ℕ → Option (Unit {0} × X)
each_machine f = byte_step (with_value (λ q c. Some q) f)

-- the place after each character, over bytes
abbrev pub place_machine : Unit {0} × Place → ℕ → Option (Unit {0} × Place)
place_machine = each_machine past_character

-- a fraction or an exponent follows the digits here
abbrev pub is_in_float : List ℕ → Bool
is_in_float [] = false
is_in_float (c ∷ cs) = is_some (step Zero c)

-- the class of the first byte of these characters, or of a zero byte where there are none
abbrev pub first_class : List ℕ → ByteClass
first_class cs = class_of (get_or (encodes cs) 0 0)

-- no ignored token begins with a byte of this class
abbrev pub never_ignored : ByteClass → Bool
never_ignored White = false
never_ignored LineFeed = false
never_ignored Hash = false
never_ignored Lead = false
never_ignored Quote = true
never_ignored Dot = true
never_ignored Minus = true
never_ignored NameStart = true
never_ignored Digit = true
never_ignored Punctuator = true
never_ignored Control = true
never_ignored Other = true
never_ignored Inner = true

-- After a line feed, and after the spaces that follow it, which begin these bytes.
abbrev pub PassesSpaces : List ℕ → BytePlace → BytePlace → Type 0
PassesSpaces bytes p q = (spaces : Offset) × RunsTo run.Spaces bytes spaces × (q ≡ record {
  byte = (p.byte + 1) +
      spaces.bytes;
  place = columns_on spaces.characters (next_line p.place);
})

-- between ignored tokens from character `start` of a source on, or at their end
pub record IsInIgnored (source : List ℕ) (start : ℕ) (p : BytePlace) : Type 0 where
  pub placed : IsPlaced source p.byte p.place
  pub ignored : start + ignored_size (drop start (chars source)) ≡ p.place.index + ignored_size (drop p.place.index
      (chars source))

-- where ignored tokens from character `start` of a source on end, and the class of the byte there
pub record EndsIgnored (source : List ℕ) (start : ℕ) (p : BytePlace) (class : ByteClass) : Type 0 where
  pub placed : IsPlaced source p.byte p.place
  pub index_is : p.place.index ≡ start + ignored_size (drop start (chars source))
  pub class_is : class ≡ first_class (drop p.place.index (chars source))
