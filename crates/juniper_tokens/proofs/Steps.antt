-- The cursor's steps on the tokens that it holds.
use Rattle.std.proofs.Common.{◌≡◌, ℕ, zero, suc, ◌+◌, ◌-◌, ◌<◌, ◌≤◌, Ok, false, List, [], ◌∷◌, length, drop, refl, sym, ap, ◌∙◌, subst, arith, add-one, length-drop, get_or, drop-cons}
use Rattle.graphql_lexical.specs.declared.kind.Kind.{Kind}
use Rattle.graphql_lexical.specs.declared.kind.Kind.TheVariants.{EndOfFile}
use Rattle.graphql_lexical.specs.Kinds.{same_kind}
use Rattle.graphql_lexical.specs.Cutting.{Lexeme}
use Rattle.graphql_lexical.specs.Place.{Place, place}
use Rattle.juniper_tokens.specs.declared.token_range.TokenRange.{TokenRange}
use Rattle.juniper_tokens.specs.Cursor.{first_of, kind_at, next_at, EndsOnce}
use Rattle.std.proofs.lemmas.List.{drop-drop, drop-map, length-map, get_or_default}
use Rattle.std.proofs.lemmas.List.Elements.{All-get_or}
use Rattle.juniper_tokens.specs.declared.span.Spanning.{Spanning}
use Rattle.juniper_tokens.specs.declared.token.Token.{Token}
use Rattle.juniper_tokens.specs.Tokens.{view_token}
use Rattle.juniper_tokens.specs.LineTables.{IsOnLine}
use Rattle.juniper_tokens.specs.declared.line.Line.{Line}
use Rattle.juniper_tokens.specs.device.LineSteps.{IsLine}
use Rattle.juniper_tokens.specs.device.Ranges.{range_lexeme, range_lexemes, end_at, IsRange, AreLeft, IsCursor}
use Rattle.juniper_tokens.proofs.LinesSoFar.{its_line, line_of_place}
use Rattle.std.proofs.lemmas.Option.{slice_get_within}

-- past a token that is not the end, the list still ends once
pub still_ended : (ts : List Lexeme) → EndsOnce ts → same_kind (kind_at ts) EndOfFile ≡ false → EndsOnce (drop 1 ts)
still_ended [] h e = absurd h
still_ended (t ∷ []) h e = absurd (cc (e, ap (λ (k : Kind). same_kind k EndOfFile) h))
still_ended (t ∷ u ∷ ts) h e = h.1

-- the same past several tokens
pub ended_after : (k : ℕ) (ts : List Lexeme) → EndsOnce ts → k < length ts → EndsOnce (drop k ts)
ended_after zero ts h l = h
ended_after (suc k) [] h l = absurd h
ended_after (suc k) (t ∷ []) h l = absurd (omega (arith, l))
ended_after (suc k) (t ∷ u ∷ ts) h l = ended_after k (u ∷ ts) h.1 (omega (arith, l))

pub some_ended : (ts : List Lexeme) → EndsOnce ts → 0 < length ts
some_ended [] h = absurd h
some_ended (t ∷ ts) h = omega arith

-- ---- on the ranges that are left

pub some_left : (source : List ℕ) (ranges : List TokenRange) → EndsOnce (range_lexemes source ranges)
    → 0 < length ranges
some_left source [] h = absurd h
some_left source (r ∷ rs) h = omega arith

pub drop_one_more : (source : List ℕ) (ranges : List TokenRange) (i : ℕ)
    → range_lexemes source (drop (i + 1) ranges) ≡ drop 1 (range_lexemes source (drop i ranges))
drop_one_more source [] zero = refl
drop_one_more source [] (suc i) = rw add-one refl
drop_one_more source (x ∷ xs) zero = refl
drop_one_more source (x ∷ xs) (suc i) =
    rw add-one (sym (ap (λ k. range_lexemes source (drop k xs)) (add-one i)) ∙ drop_one_more source xs i)

-- what is left past a token that is not the end
pub one_fewer : (source : List ℕ) (ranges : List TokenRange) (starts : List ℕ) (taken : ℕ)
    → AreLeft source ranges starts taken
    → (left : List Lexeme) → range_lexemes source (drop taken ranges) ≡ left → same_kind (kind_at left) EndOfFile ≡ false
    → AreLeft source ranges starts (taken + 1)
one_fewer source ranges starts taken here left seen more = record {
  are_ranges = here.are_ranges;
  in_order = here.in_order;
  ended =
      subst EndsOnce (sym (drop_one_more source ranges taken))
      (still_ended _ here.ended (ap (λ ts. same_kind (kind_at ts) EndOfFile) seen ∙ more));
  lines_are = here.lines_are;
}

pub next_is_taken : (ts : List Lexeme) → EndsOnce ts → same_kind (kind_at ts) EndOfFile ≡ false
    → next_at ts ≡ Ok (first_of ts, drop 1 ts)
next_is_taken [] h e = absurd h
next_is_taken (t ∷ ts) h e = rw e refl

-- the token that stands next
pub first_left : (source : List ℕ) (ranges : List TokenRange) (i : ℕ) (r : TokenRange) → i < length ranges
    → get_or ranges i r ≡ r → first_of (range_lexemes source (drop i ranges)) ≡ range_lexeme source r
first_left source ranges i r l e = ap (λ rs. first_of (range_lexemes source rs)) (drop-cons ranges i r l)
    ∙ ap (range_lexeme source) e

-- something is left
pub left_within : (source : List ℕ) (ranges : List TokenRange) (i : ℕ) → EndsOnce (range_lexemes source (drop i ranges))
    → i < length ranges
left_within source ranges i h = omega (arith, some_left source (drop i ranges) h, length-drop i ranges)

-- r is the range that comes next.
module _ (source : List ℕ) (ranges : List TokenRange) (starts : List ℕ) (taken : ℕ) (here : AreLeft source ranges starts taken)
    (r : TokenRange) (next : r ≡ get_or ranges taken r) where
  pub next_is_range : IsRange source r
  next_is_range = subst (IsRange source) (sym next)
      (All-get_or (IsRange source) ranges taken r (left_within source ranges taken here.ended) here.are_ranges)

  pub next_is : first_of (range_lexemes source (drop taken ranges)) ≡ range_lexeme source r
  next_is = first_left source ranges taken r (left_within source ranges taken here.ended) (sym next)

  pub next_held : (token : Spanning Token) → view_token token ≡ range_lexeme source r
      → IsCursor source ranges starts taken token
  next_held token e = record { left = here; first = e ∙ sym next_is }

-- The token that is held stands on a line of the table.
module _ (source : List ℕ) (ranges : List TokenRange) (starts : List ℕ) (taken : ℕ) (current : Spanning Token)
    (here : IsCursor source ranges starts taken current) where
  held_at : (d : TokenRange) → (view_token current).span.start ≡ place source (get_or ranges taken d).start.characters
  held_at d = ap (λ (t : Lexeme). t.span.start) (here.first ∙ next_is source ranges starts taken here.left (get_or ranges taken d) next)
    where
      next : get_or ranges taken d ≡ get_or ranges taken (get_or ranges taken d)
      next = get_or_default ranges taken d (get_or ranges taken d) (left_within source ranges taken here.left.ended)

  starts_within : (d : TokenRange) → (get_or ranges taken d).start.characters ≤ length source
  starts_within d =
      let range = All-get_or (IsRange source) ranges taken d (left_within source ranges taken here.left.ended)
      here.left.are_ranges in
      omega (arith, range.forward, range.within)

  pub line_within : (l : ℕ) → l ≡ (view_token current).span.start.line → l < length starts
  line_within l e =
      let d = end_at (record { bytes = 0; characters = 0 }) in
      let line = its_line source starts (get_or ranges taken d).start.characters here.left.lines_are (starts_within d) in
      omega (arith, e, ap (λ (p : Place). p.line) (held_at d), slice_get_within starts _ line.0 line.1.begins)

  pub on_its_line : (line : Line) → IsLine starts line → line.number ≡ (view_token current).span.start.line
      → (d : TokenRange) → IsOnLine starts (get_or ranges taken d).start.characters line.number line.start
  on_its_line line is e d = line_of_place source starts (get_or ranges taken d).start.characters line here.left.lines_are
      (starts_within d) is (e ∙ ap (λ (p : Place). p.line) (held_at d))

-- Tokens are taken until so many are left.
module _ (source : List ℕ) (ranges : List TokenRange) (starts : List ℕ) (taken : ℕ) (here : AreLeft source ranges starts taken)
    (old : List Lexeme) (seen : range_lexemes source (drop taken ranges) ≡ old) (left : ℕ) (some : 0 < left)
    (fewer : left ≤ length old) (all : ℕ) (all_are : all ≡ length ranges) where
  pub left_many : range_lexemes source (drop (all - left) ranges) ≡ drop (length old - left) old
  left_many =
      let count : length old ≡ length ranges - taken = sym (ap length seen)
      ∙ length-map (drop taken ranges) (range_lexeme source) ∙ length-drop taken ranges in
      let sum : all - left ≡ taken + (length old - left) =
      omega (arith, all_are, count, fewer, left_within source ranges taken here.ended) in
      ap (λ k. range_lexemes source (drop k ranges)) sum
      ∙ ap (range_lexemes source) (sym (drop-drop (length old - left) taken ranges))
      ∙ sym (drop-map (range_lexeme source) (length old - left) (drop taken ranges))
      ∙ ap (drop (length old - left)) seen

  pub so_many_left : AreLeft source ranges starts (all - left)
  so_many_left = record {
    are_ranges = here.are_ranges;
    in_order = here.in_order;
    ended =
        subst EndsOnce (sym left_many)
        (ended_after (length old - left) old (subst EndsOnce seen here.ended) (omega (arith, some, fewer)));
    lines_are = here.lines_are;
  }

-- ---- the wanted token
