-- What a cursor has left of its tokens, once more of them are taken.
use Rattle.std.proofs.Common.{◌≡◌, ℕ, zero, suc, ◌+◌, ◌-◌, ◌<◌, ◌≤◌, List, length, drop, get_or, refl, sym, ap, subst, le_refl, ◌∙◌, arith, length-drop, drop-cons, true, false}
use Rattle.std.proofs.lemmas.List.{drop-drop, drop-map, get_or_default}
use Rattle.std.proofs.lemmas.List.Elements.{All-get_or}
use Rattle.graphql_lexical.specs.Place.{place}
use Rattle.graphql_lexical.specs.Cutting.{Lexeme}
use Rattle.graphql_lexical.specs.declared.kind.Kind.TheVariants.{EndOfFile}
use Rattle.graphql_lexical.specs.Kinds.{same_kind}
use Rattle.juniper_tokens.specs.declared.token_range.TokenRange.{TokenRange}
use Rattle.juniper_tokens.specs.Cursor.{EndsOnce, first_of, kind_at}
use Rattle.juniper_tokens.specs.Delimited.{IsRest}
use Rattle.juniper_tokens.specs.Taking.{Taking, left, next_taken, last_end, GoesOn}
use Rattle.juniper_tokens.specs.declared.line.NearLines.{NearLines}
use Rattle.juniper_tokens.specs.LineTables.{StartLines, IsOnLine}
use Rattle.juniper_tokens.specs.device.LineSteps.{IsLine, IsBefore}
use Rattle.juniper_tokens.specs.device.Ranges.{range_lexeme, range_lexemes, IsRange, AreLeft, StandsOn}
use Rattle.juniper_tokens.proofs.InOrder.{ordered}
use Rattle.juniper_tokens.proofs.Lines.{lines_start}
use Rattle.juniper_tokens.proofs.Rests.{no_longer}
use Rattle.juniper_tokens.proofs.Steps.{some_ended, left_within, one_fewer}

pub within_tokens : (t : Taking) → EndsOnce (left t) → t.taken < length t.tokens
within_tokens t h = omega (arith, some_ended _ h, length-drop t.taken t.tokens)

pub stays : (t : Taking) → GoesOn t t
stays t = record { same = refl; on = le_refl t.taken; still = refl }

pub goes_further : (a b c : Taking) → GoesOn a b → GoesOn b c → GoesOn a c
goes_further a b c g h = record { same = h.same ∙ g.same; on = omega (arith, g.on, h.on); still = h.still ∙ g.still }

pub left_past : (t : Taking) → left (next_taken t) ≡ drop 1 (left t)
left_past t = sym (drop-drop 1 t.taken t.tokens)

-- a token is taken
pub goes_past : (t : Taking) → GoesOn t (next_taken t)
goes_past t = record { same = refl; on = omega arith; still = refl }

-- what is left is a rest of what was left
pub rest_of : (old new : Taking) → GoesOn old new → IsRest (left old) (left new)
rest_of old new g =
    let sum : old.taken + (new.taken - old.taken) ≡ new.taken = omega (arith, g.on) in
    record {
      taken = new.taken - old.taken;
      left =
          ap (drop new.taken) g.same
          ∙ (ap (λ k. drop k old.tokens) (sym sum) ∙ sym (drop-drop (new.taken - old.taken) old.taken old.tokens));
    }

pub not_longer : (old new : Taking) → GoesOn old new → length (left new) ≤ length (left old)
not_longer old new g = no_longer _ _ (rest_of old new g)

-- fewer are left, so some were taken
pub more_taken : (old new : Taking) → GoesOn old new → length (left new) < length (left old) → old.taken < new.taken
more_taken old new g shorter = omega (
  arith,
  shorter,
  ap length (ap (drop new.taken) g.same),
  length-drop old.taken old.tokens,
  length-drop new.taken old.tokens,
)

pub some_taken : (old new : Taking) → GoesOn old new → length (left new) < length (left old) → 0 < new.taken
some_taken old new g shorter = omega (arith, more_taken old new g shorter)

-- A cursor over ranges of a source is seen as t.
module _ (source : List ℕ) (ranges : List TokenRange) (starts : List ℕ) (taken : ℕ)
    (here : AreLeft source ranges starts taken) (t : Taking)
    (seen : ◌≡◌ {A = Taking} (record { tokens = range_lexemes source ranges; taken = taken; whole = true }) t) where
  pub seen_left : range_lexemes source (drop taken ranges) ≡ left t
  seen_left = sym (drop-map (range_lexeme source) taken ranges) ∙ ap left seen

  pub seen_ended : EndsOnce (left t)
  seen_ended = subst EndsOnce seen_left here.ended

  pub seen_first : (d : TokenRange) → range_lexeme source (get_or ranges taken d) ≡ first_of (left t)
  seen_first d = sym (ap (λ rs. first_of (range_lexemes source rs))
      (drop-cons ranges taken d (left_within source ranges taken here.ended)))
      ∙ ap first_of seen_left

  pub first_is_range : (d : TokenRange) → IsRange source (get_or ranges taken d)
  first_is_range d = All-get_or (IsRange source) ranges taken d (left_within source ranges taken here.ended)
      here.are_ranges

  pub first_within : (d : TokenRange) → (get_or ranges taken d).start.characters ≤ length source
  first_within d = omega (arith, (first_is_range d).forward, (first_is_range d).within)

  before : taken - 1 < length ranges
  before = omega (arith, left_within source ranges taken here.ended)

  pub last_is_range : (d : TokenRange) → IsRange source (get_or ranges (taken - 1) d)
  last_is_range d = All-get_or (IsRange source) ranges (taken - 1) d before here.are_ranges

  -- the one that was taken last ends where the next one begins, or before
  pub last_before : (d : TokenRange) → 0 < taken
      → (get_or ranges (taken - 1) d).end.characters ≤ (get_or ranges taken d).start.characters
  last_before d some =
      let next : suc (taken - 1) ≡ taken = omega (arith, some) in
      subst (λ n. (get_or ranges (taken - 1) d).end.characters ≤ (get_or ranges n d).start.characters) next
      (ordered 0 ranges (taken - 1) d here.in_order
      (omega (arith, some, left_within source ranges taken here.ended)))

  pub seen_last : (d : TokenRange) → place source (get_or ranges (taken - 1) d).end.characters ≡ last_end t
  seen_last d = ap (λ (x : Lexeme). x.span.end) (sym (ap first_of (drop-map (range_lexeme source) (taken - 1) ranges
      ∙ ap (range_lexemes source) (drop-cons ranges (taken - 1) d before))))
      ∙ ap last_end seen

  pub past_seen : same_kind (kind_at (left t)) EndOfFile ≡ false → AreLeft source ranges starts (taken + 1)
  past_seen more = one_fewer source ranges starts taken here (left t) seen_left more

-- A cursor stands on lines of its source.
module _ (source : List ℕ) (ranges : List TokenRange) (starts : List ℕ) (taken : ℕ) (lines : NearLines)
    (here : StandsOn source ranges starts taken lines) (t : Taking)
    (seen : ◌≡◌ {A = Taking} (record { tokens = range_lexemes source ranges; taken = taken; whole = true }) t) where
  pub are_starts : StartLines starts
  are_starts = subst StartLines (sym here.left.lines_are) (lines_start source)

  -- the token that was taken last ends before the line after that of the next token
  pub last_within : (d : TokenRange) → 0 < taken
      → IsBefore starts (get_or ranges (taken - 1) d).end.characters (lines.line.number + 1)
  last_within d some next e = omega (
    arith,
    last_before source ranges starts taken here.left t seen d some,
    (here.on_line d).after next e,
  )

  -- where one more is taken
  pub next_after : (d : TokenRange) → same_kind (kind_at (left t)) EndOfFile ≡ false
      → lines.line.start ≤ (get_or ranges (taken + 1) d).start.characters
  next_after d more =
      let after = past_seen source ranges starts taken here.left t seen more in
      omega (
        arith,
        (here.on_line d).before,
        (first_is_range source ranges starts taken here.left t seen d).forward,
        subst (λ n. (get_or ranges n d).end.characters ≤ (get_or ranges (taken + 1) d).start.characters) one_back
            (last_before source ranges starts (taken + 1) after (next_taken t)
            (ap next_taken seen) d (omega arith)),
      )
    where
      one_back : (taken + 1) - 1 ≡ taken
      one_back = omega arith

  pub past_lines : (more : same_kind (kind_at (left t)) EndOfFile ≡ false) (new : NearLines) → IsLine starts new.line
      → (e : TokenRange) → IsOnLine starts (get_or ranges (taken + 1) e).start.characters new.line.number new.line.start
      → IsLine starts new.earlier
      → ((k : ℕ) → lines.line.start ≤ k → lines.earlier.start ≤ k → new.earlier.start ≤ k)
      → StandsOn source ranges starts (taken + 1) new
  past_lines more new line e on earlier not_after = record {
    left = past_seen source ranges starts taken here.left t seen more;
    line_is = line;
    on_line = λ d. subst (λ (r : TokenRange). IsOnLine starts r.start.characters new.line.number new.line.start)
        (get_or_default ranges (taken + 1) e d (left_within source ranges (taken + 1)
        (past_seen source ranges starts taken here.left t seen more).ended)) on;
    earlier_is = earlier;
    reaches = λ d. subst (λ n. new.earlier.start ≤ (get_or ranges n d).end.characters) (sym one_back)
        (not_after (get_or ranges taken d).end.characters (line_reaches d) (earlier_reaches d));
  }
    where
      one_back : (taken + 1) - 1 ≡ taken
      one_back = omega arith

      forward : (d : TokenRange) → (get_or ranges taken d).start.characters ≤ (get_or ranges taken d).end.characters
      forward d = (first_is_range source ranges starts taken here.left t seen d).forward

      line_reaches : (d : TokenRange) → lines.line.start ≤ (get_or ranges taken d).end.characters
      line_reaches d = omega (arith, (here.on_line d).before, forward d)

      by_taken : (n : ℕ) → taken ≡ n → (d : TokenRange) → lines.earlier.start ≤ (get_or ranges taken d).end.characters
      by_taken zero e d =
          let none : taken - 1 ≡ taken = omega (arith, e) in
          subst (λ n. lines.earlier.start ≤ (get_or ranges n d).end.characters) none (here.reaches d)
      by_taken (suc n) e d = omega (
        arith,
        here.reaches d,
        last_before source ranges starts taken here.left t seen d (omega (arith, e)),
        forward d,
      )

      earlier_reaches : (d : TokenRange) → lines.earlier.start ≤ (get_or ranges taken d).end.characters
      earlier_reaches d = by_taken taken refl d
