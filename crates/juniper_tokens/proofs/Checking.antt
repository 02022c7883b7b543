-- A source within limits, of which no token is kept.
use Rattle.std.proofs.Common.{◌≡◌, ℕ, ◌+◌, ◌<◌, ◌≤◌, inl, inr, true, false, List, [], ◌∷◌, ◌++◌, length, drop}
use Rattle.std.proofs.Common.{Some, None, Ok, refl, sym, ap, ap₂, subst, ◌∙◌, arith, append_assoc, length-append}
use Rattle.std.specs.Prelude.{Option, pos, ◌-ℤ◌, ◌<ℤ◌, ◌≤ℤ◌}
use Rattle.std.proofs.lemmas.Bool.{cases_Bool}
use Rattle.std.proofs.lemmas.Int.{ints}
use Rattle.std.proofs.lemmas.List.{length-map, map-append}
use Rattle.graphql_lexical.specs.declared.kind.Kind.{Kind}
use Rattle.graphql_lexical.specs.declared.kind.Kind.TheVariants.{EndOfFile}
use Rattle.graphql_lexical.specs.Kinds.{same_kind}
use Rattle.graphql_lexical.specs.Cutting.{Cut, Lexeme}
use Rattle.graphql_lexical.specs.Nesting.{opened, closed, nesting, ended_by, IsFirstDeeper}
use Rattle.graphql_lexical.specs.Place.{Place, place}
use Rattle.graphql_lexical.specs.device.Streams.{Tokens}
use Rattle.graphql_lexical.proofs.Public.{after_deeper, by_places, by_texts, crossed, one_deep, cut_streams, whole_cut}
use Rattle.graphql_lexical.proofs.Public.{DeeperFrom, ShallowFrom, Streams}
use Rattle.juniper_tokens.specs.declared.check.Brackets.{Brackets}
use Rattle.juniper_tokens.specs.declared.token_range.TokenRange.{TokenRange}
use Rattle.juniper_tokens.specs.declared.span.Span.{Span}
use Rattle.juniper_tokens.specs.Lexing.{LexerState, items_left, passed, ahead}
use Rattle.juniper_tokens.specs.Counting.{HasFew}
use Rattle.juniper_tokens.specs.Gathering.{HasLeft}
use Rattle.juniper_tokens.specs.Nesting.{EndsAtNesting, IsShallow}
use Rattle.juniper_tokens.specs.device.Nested.{AreNested, IsOfRange}
use Rattle.juniper_tokens.specs.device.Ranges.{range_lexeme, range_lexemes, range_steps}
use Rattle.juniper_tokens.specs.device.Streams.{streamed}
use Rattle.juniper_tokens.proofs.BracketCounts.{none_nested, ends_nested}
use Rattle.juniper_tokens.proofs.Gathering.{GatheredRanges, none_gathered, ranges_more, gathered_cut}
use Rattle.juniper_tokens.proofs.Lexing.{ranges_fewer}
use Rattle.juniper_tokens.proofs.TokenLimits.{cut_few}

-- ---- tokens are counted

-- A lexer went from state s over so many tokens to state t.
pub record Passes (s t : LexerState) (count most : ℕ) : Type 0 where
  pub ranges : List TokenRange
  pub gathered : GatheredRanges s ranges t
  pub going : t.ended ≡ false
  pub count_is : length ranges ≡ count
  pub few : count ≤ most
  pub fewer : count + items_left t ≤ items_left s

pub none_passed : (s : LexerState) (most : ℕ) → s.ended ≡ false → Passes s s 0 most
none_passed s most going = record {
  ranges = [];
  gathered = none_gathered s going;
  going = going;
  count_is = refl;
  few = omega arith;
  fewer = omega arith;
}

module _ (s t u : LexerState) (count most : ℕ) (h : Passes s t count most) (r : TokenRange)
    (step : range_steps t (Some (Ok r)) u) where
  pub goes_on : same_kind r.kind EndOfFile ≡ false → u.ended ≡ false
  goes_on other = elim (cases_Bool u.ended) [
    | inl y ↦
        let z : true ≡ false = sym (ap (λ (k : Kind). same_kind k EndOfFile) (step.2.ends.0 y)) ∙ other in
        absurd (cc z)
    | inr n ↦ n
  ]

  pub one_passed : same_kind r.kind EndOfFile ≡ false → count < most → Passes s u (count + 1) most
  one_passed other room = record {
    ranges = h.ranges ++ r ∷ [];
    gathered = ranges_more s h.ranges t u r h.gathered step;
    going = goes_on other;
    count_is = omega (arith, h.count_is, length-append h.ranges (r ∷ []));
    few = omega (arith, room);
    fewer = omega (arith, h.fewer, ranges_fewer t (Ok r) u step);
  }

  -- with the end those are all tokens of a source
  pub passed_all : r.kind ≡ EndOfFile
      → HasLeft s (range_lexemes s.source (h.ranges ++ r ∷ []))
      × (length (range_lexemes s.source (h.ranges ++ r ∷ [])) ≤ most + 1)
  passed_all end = (
    gathered_cut s (range_lexemes s.source (h.ranges ++ r ∷ [])) u
        (ranges_more s h.ranges t u r h.gathered step).gathered (step.2.ends.1 end),
    omega (
      arith,
      length-map (h.ranges ++ r ∷ []) (range_lexeme s.source),
      length-append h.ranges (r ∷ []),
      h.count_is,
      h.few,
    ),
  )

  pub passed_few : r.kind ≡ EndOfFile → HasFew (passed s.source s.index) (ahead s.source s.index) most
  passed_few end =
      let all = passed_all end in
      cut_few most _ _ (range_lexemes s.source (h.ranges ++ r ∷ [])) all.0 (omega (arith, all.1))

-- a lexer that goes on has an item left
pub some_items : (s t : LexerState) (count most : ℕ) → Passes s t count most → count < items_left s
some_items s t count most h =
    let one : items_left t ≡ length (drop t.index t.source) + 1 = rw h.going refl in omega (arith, h.fewer, one)

-- ---- their brackets, too

-- The same, with what is known of the brackets of the tokens between the two states.
pub record Checks (s t : LexerState) (count most depth : ℕ) (brackets : Brackets) : Type 0 where
  pub passes : Passes s t count most
  pub nested : AreNested depth (range_lexemes s.source passes.ranges) brackets
  pub fewer : brackets.opened + brackets.closed ≤ count

pub none_checked : (s : LexerState) (most depth : ℕ) → s.ended ≡ false
    → Checks s s 0 most depth (record { opened = 0; closed = 0; deep = None })
unfolding none_passed
none_checked s most depth going = record {
  passes = none_passed s most going;
  nested = none_nested depth;
  fewer = omega arith;
}

module _ (s t u : LexerState) (count most depth : ℕ) (brackets : Brackets)
    (h : Checks s t count most depth brackets) (r : TokenRange) (step : range_steps t (Some (Ok r)) u) where
  more : GatheredRanges s (h.passes.ranges ++ r ∷ []) u
  more = ranges_more s h.passes.ranges t u r h.passes.gathered step

  of_range : IsOfRange u r (range_lexeme s.source r)
  of_range =
      let source : s.source ≡ u.source = sym more.gathered.source in (
        refl,
        ap₂ (λ (x y : Place). record { start = x; end = y })
            (ap (λ (x : List ℕ). place x r.start.characters) source)
            (ap₂ place source (sym step.2.to)),
      )

  pub one_checked : same_kind r.kind EndOfFile ≡ false → count < most → (new : Brackets)
      → ((before : List Lexeme) (x : Lexeme) → IsOfRange u r x → AreNested depth before brackets
      → AreNested depth (before ++ x ∷ []) new)
      → new.opened + new.closed ≤ brackets.opened + brackets.closed + 1 → Checks s u (count + 1) most depth new
  unfolding one_passed
  one_checked other room new read few = record {
    passes = one_passed s t u count most h.passes r step other room;
    nested =
        subst (λ (ts : List Lexeme). AreNested depth ts new)
        (sym (map-append (range_lexeme s.source) h.passes.ranges (r ∷ [])))
        (read (range_lexemes s.source h.passes.ranges) (range_lexeme s.source r) of_range h.nested);
    fewer = omega (arith, few, h.fewer);
  }

  pub all_checked : r.kind ≡ EndOfFile → (lexemes : List Lexeme) × HasLeft s lexemes × (length lexemes ≤ most + 1)
      × ((new : List Lexeme) × EndsAtNesting depth lexemes brackets.deep new)
  all_checked end =
      let all = passed_all s t u count most h.passes r step end in (
        range_lexemes s.source (h.passes.ranges ++ r ∷ []),
        all.0,
        all.1,
        subst (λ (ts : List Lexeme). (new : List Lexeme) × EndsAtNesting depth ts brackets.deep new)
            (sym (map-append (range_lexeme s.source) h.passes.ranges (r ∷ [])))
            (ends_nested depth (range_lexemes s.source h.passes.ranges) (range_lexeme s.source r) brackets.opened
            brackets.closed brackets.deep h.nested end),
      )

-- ---- tokens are streamed

deep_counts : (depth o c : ℕ) → depth + (0 + c) < 0 + o → pos depth <ℤ (pos o -ℤ pos c)
deep_counts depth o c h = omega (arith, ints)

shallow_counts : (depth o c : ℕ) → 0 + o ≤ depth + (0 + c) → (pos o -ℤ pos c) ≤ℤ pos depth
shallow_counts depth o c h = omega (arith, ints)

pub first_deeper : (depth : ℕ) (ts before : List Lexeme) (x : Lexeme) → DeeperFrom depth 0 0 ts before x
    → IsFirstDeeper depth ts before x
first_deeper depth ts before x d = record {
  after = d.after;
  whole = d.whole;
  deeper = deep_counts depth (opened (before ++ x ∷ [])) (closed (before ++ x ∷ [])) d.deeper;
  first = λ front others e. shallow_counts depth (opened front) (closed front) (d.first front others e);
}

pub shallow_all : (depth : ℕ) (ts : List Lexeme) → ShallowFrom depth 0 0 ts → IsShallow depth ts
shallow_all depth ts h front others e = shallow_counts depth (opened front) (closed front) (h front others e)

-- where the nesting exceeds depth somewhere, it doesn't exceed it nowhere
not_shallow : (depth : ℕ) (ts before : List Lexeme) (x : Lexeme) → IsFirstDeeper depth ts before x → IsShallow depth ts
    → ⊥
not_shallow depth ts before x d h =
    crossed (nesting (before ++ x ∷ [])) depth
    (h (before ++ x ∷ []) d.after (d.whole ∙ sym (append_assoc before (x ∷ []) d.after))) d.deeper

same_parts : (us vs a b : List Lexeme) (x y : Lexeme) → us ++ x ∷ a ≡ vs ++ y ∷ b → length us ≡ length vs
    → (us ≡ vs) × (x ≡ y)
same_parts [] [] a b x y e l = (refl, cc)
same_parts [] (v ∷ vs) a b x y e l = absurd (omega (arith, l))
same_parts (u ∷ us) [] a b x y e l = absurd (omega (arith, l))
same_parts (u ∷ us) (v ∷ vs) a b x y e l =
    let rest : us ++ x ∷ a ≡ vs ++ y ∷ b = cc in
    let same : u ≡ v = cc in
    let more = same_parts us vs a b x y rest (omega (arith, l)) in
    (ap₂ (λ (z : Lexeme) (zs : List Lexeme). z ∷ zs) same more.0, more.1)

-- the first such token is one
one_first : (depth : ℕ) (ts us vs : List Lexeme) (x y : Lexeme) → IsFirstDeeper depth ts us x
    → IsFirstDeeper depth ts vs y
    → (us ≡ vs) × (x ≡ y)
one_first depth ts us vs x y d e =
    same_parts us vs d.after e.after x y (sym d.whole ∙ e.whole)
    (one_deep depth ts (length us) (length vs) x y (after_deeper depth ts us x d) (after_deeper depth ts vs y e))

module _ (source : List ℕ) (depth most : ℕ) where
  abbrev all : Tokens
  all = streamed source depth most

  pub streams_cut : (lexemes : List Lexeme) → Cut source lexemes → length lexemes ≤ most + 1
      → Streams depth 0 0 lexemes all
  streams_cut lexemes cut few =
      cut_streams depth most source 0 0 0 lexemes (omega arith) (by_places source lexemes cut) (omega (arith, few))

  -- what a whole stream is
  pub whole_stream : all.whole ≡ true → Cut source all.tokens × HasFew [] source most × IsShallow depth all.tokens
  whole_stream w =
      let whole = whole_cut depth most source 0 0 0 (omega arith) (omega arith) w in
      let cut = by_texts source all.tokens whole.0 in
      (cut, cut_few most [] source all.tokens cut whole.1, shallow_all depth all.tokens whole.2)

  -- what the stream of a source is that is cut into few tokens
  pub ended_stream : (lexemes : List Lexeme) (deep : Option Span) (new : List Lexeme) → Cut source lexemes
      → length lexemes ≤ most + 1 → EndsAtNesting depth lexemes deep new → all.tokens ≡ new
  ended_stream lexemes deep new cut few ends = by_streams deep ends (streams_cut lexemes cut few)
    where
      by_streams : (found : Option Span) → EndsAtNesting depth lexemes found new → Streams depth 0 0 lexemes all
          → all.tokens ≡ new
      by_streams None h (inl (shallow, e)) = ap (λ (ts : Tokens). ts.tokens) e ∙ sym h.1
      by_streams None h (inr (before, x, d, e)) =
          absurd (not_shallow depth lexemes before x (first_deeper depth lexemes before x d) h.0)
      by_streams (Some span) (before, x, d, at, e) (inl (shallow, same)) =
          absurd (not_shallow depth lexemes before x d (shallow_all depth lexemes shallow))
      by_streams (Some span) (before, x, d, at, e) (inr (front, y, g, same)) =
          let one = one_first depth lexemes front before y x (first_deeper depth lexemes front y g) d in
          same ∙ ap₂ ended_by one.0 one.1 ∙ sym e
