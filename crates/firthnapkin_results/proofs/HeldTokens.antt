-- What a buffer has of a source's tokens while a lexer goes over it.
use Rattle.std.proofs.Common.{◌≡◌, ◌∙◌, ℕ, ◌+◌, ◌≤◌, false, List, [], ◌∷◌, ◌++◌, length, set, inl, inr, refl, sym, ap, ap₂, subst, arith, length-append, zero-le}
use Rattle.std.specs.Prelude.{◌<◌, ◌^◌, IsUtf8, chars, Result, Ok, Err}
use Rattle.std.specs.Result.{IsErrAnd}
use Rattle.std.proofs.lemmas.List.{length-map, map-append}
use Rattle.graphql_lexical.specs.declared.kind.Kind.TheVariants.{EndOfFile}
use Rattle.graphql_lexical.specs.Place.{Place, Span}
use Rattle.graphql_lexical.specs.Kinds.{LexicalError}
use Rattle.graphql_lexical.specs.Cutting.{Lexeme, Stands, Leads, none, Cut, last, BreaksThere, Breaks, here}
use Rattle.graphql_lexical.specs.device.Indexed.{CutFrom}
use Rattle.graphql_lexical.proofs.Public.{stands_size, leads_size, leads_whole, leads_from_text, leads_more, cut_leads, breaks_lead}
use Rattle.juniper_tokens.specs.Lexing.{LexerState, started, passed, ahead, PassesToken, MeetsError}
use Rattle.juniper_tokens.proofs.Public.{chars_within}
use Rattle.firthnapkin_results.specs.Answers.{Fills}
use Rattle.firthnapkin_results.specs.CutTokens.{ReturnsTokens}
use Rattle.juniper_tokens.specs.Counting.{HasMore}
use Rattle.firthnapkin_results.specs.Tokens.{written_token, written_tokens, HasTokens, HasErrorAfter}
use Rattle.firthnapkin_results.specs.declared.source.Unread.{Unread}
use Rattle.firthnapkin_results.specs.declared.source.Unread.TheVariants as unread
use Rattle.firthnapkin_results.specs.declared.token.Token.{Token}
use Rattle.firthnapkin_results.specs.declared.tokens.Written.{Written}
use Rattle.firthnapkin_results.proofs.Buffers.{fills_none, fills_more}
use Rattle.graphql_lexical.proofs.Public.{by_places}

-- The lexer is after these tokens, none of them the end, and the buffer is filled with them.
pub record Held (source : List ℕ) (old : List Token) (lexer : LexerState) (buffer : List Token) (count : ℕ)
    : Type 0 where
  pub tokens : List Lexeme
  pub leads : Leads [] source tokens (passed source lexer.index) (ahead source lexer.index)
  pub same : lexer.source ≡ source
  pub going : lexer.ended ≡ false
  pub fills : Fills (written_tokens source tokens) old buffer
  pub count_is : count ≡ length tokens

pub held_first : (source : List ℕ) (old : List Token) → Held source old (started source) old 0
held_first source old = record {
  tokens = [];
  leads = none;
  same = refl;
  going = refl;
  fills = fills_none old;
  count_is = refl;
}

fills_next : (source : List ℕ) (xs : List Lexeme) (x : Lexeme) (old buffer : List Token) (count : ℕ) (written : Token)
    → Fills (written_tokens source xs) old buffer → count ≡ length xs → written ≡ written_token source x
    → Fills (written_tokens source (xs ++ x ∷ [])) old (set buffer count written)
fills_next source xs x old buffer count written f e is =
    let ts = written_tokens source xs in
    let at : count ≡ length ts = e ∙ sym (length-map xs (written_token source)) in
    let more = fills_more ts old buffer (written_token source x) f in
    subst (λ (ys : List Token). Fills ys old (set buffer count written))
    (sym (map-append (written_token source) xs (x ∷ [])))
    (subst (λ (new : List Token). Fills (ts ++ written_token source x ∷ []) old new)
    (ap₂ (λ (n : ℕ) (t : Token). set buffer n t) (sym at) (sym is)) more)

module _ (source : List ℕ) (old buffer : List Token) (s : LexerState) (count : ℕ) (h : Held source old s buffer count)
  where
    -- the token that stands in the source where the lexer does
    abbrev pub StandsHere : Lexeme → ℕ → Type 0
    StandsHere x next = Stands (passed source s.index) (ahead source s.index) x (passed source next) (ahead source next)

    -- what the lexer gives stands in the source
    pub stands_here : (x : Lexeme) (next : ℕ) → PassesToken s x next → StandsHere x next
    stands_here x next =
        subst (λ (text : List ℕ). Stands (passed text s.index) (ahead text s.index) x (passed text next)
        (ahead text next)) h.same

    pub breaks_here : (error : LexicalError) (at : Place) → MeetsError s error at
        → BreaksThere (passed source s.index) (ahead source s.index) error at
    breaks_here error at = subst (λ (text : List ℕ). BreaksThere (passed text s.index) (ahead text s.index) error at)
        h.same

    -- where the lexer stands is within the source
    pub all_there : passed source s.index ++ ahead source s.index ≡ source
    all_there = sym (leads_whole [] source (passed source s.index) (ahead source s.index) h.tokens h.leads)

    -- one token more is put after those
    pub held_written : (new : List Token) (written : Token) (x : Lexeme) → written ≡ written_token source x
        → new ≡ set buffer count written
        → Fills (written_tokens source (h.tokens ++ x ∷ [])) old new
    held_written new written x is put = subst (Fills (written_tokens source (h.tokens ++ x ∷ [])) old) (sym put)
        (fills_next source h.tokens x old buffer count written h.fills h.count_is is)

    -- and it is not the end
    pub held_more : (t : LexerState) (new : List Token) (written : Token) (x : Lexeme) → StandsHere x t.index
        → (x.kind ≡ EndOfFile → ⊥) → t.source ≡ s.source → t.ended ≡ false → written ≡ written_token source x
        → new ≡ set buffer count written → Held source old t new (count + 1)
    held_more t new written x stands other same going is put = record {
      tokens = h.tokens ++ x ∷ [];
      leads = leads_more _ _ _ _ _ _ h.tokens x h.leads stands other;
      same = same ∙ h.same;
      going = going;
      fills = held_written new written x is put;
      count_is = omega (arith, h.count_is, length-append h.tokens (x ∷ []));
    }

    -- the token after those is one too many
    pub held_many : (most : ℕ) (x : Lexeme) (next : ℕ) (span : Span) → count ≡ most → StandsHere x next
        → (x.kind ≡ EndOfFile → ⊥) → span ≡ x.span
        → (more : HasMore [] source most span) × Fills (written_tokens source more.front) old buffer
    held_many most x next span e stands other at = (
      record {
        front = h.tokens;
        done = passed source s.index;
        rest = ahead source s.index;
        leads = h.leads;
        count = sym h.count_is ∙ e;
        token = x;
        past = passed source next;
        after = ahead source next;
        stands = stands;
        other = other;
        at = at;
      },
      h.fills,
    )

    -- the token after those is the end
    pub held_all : (x : Lexeme) (next : ℕ) → StandsHere x next → x.kind ≡ EndOfFile → Cut source (h.tokens ++ x ∷ [])
    held_all x next stands end = cut_leads _ _ _ _ h.tokens (x ∷ []) h.leads (last stands end)

-- ---- where memory runs out before the first token

pub none_held : (source : List ℕ) (most : ℕ) (old : List Token) (result : Result Written Unread)
    → length source < 2 ^ 32
    → IsUtf8 source → IsErrAnd result (λ e. e ≡ unread.OutOfMemory) → ReturnsTokens source most old old result
none_held source most old (Ok x) l u e = absurd e
none_held source most old (Err unread.NotUtf8) l u e = absurd (cc)
none_held source most old (Err unread.TooLong) l u e = absurd (cc)
none_held source most old (Err unread.OutOfMemory) l u e = ((l, u), ([], [], chars source, none, fills_none old))

-- ---- how many tokens there are

pub cut_within : (source : List ℕ) (xs : List Lexeme) (k : ℕ) → k ≤ length source → CutFrom source k xs
    → length xs + k ≤ length source + 1
cut_within source [] k l c = absurd c
cut_within source (x ∷ xs) k l (n, s, inl (end, empty)) = omega (arith, l, ap length empty)
cut_within source (x ∷ xs) k l (n, s, inr (other, c)) =
    let z = stands_size source k x n l s other in
    omega (arith, z.0, cut_within source xs n z.1 c)

module _ (source : List ℕ) where
  pub few_tokens : (lexemes : List Lexeme) → HasTokens source lexemes → length lexemes ≤ length source + 1
  few_tokens lexemes h =
      omega (
        arith,
        cut_within (chars source) lexemes 0 zero-le (by_places (chars source) lexemes h.cut),
        chars_within
            source h.utf8,
      )

  few_leading : (before : List Lexeme) (done after : List ℕ) → IsUtf8 source → Leads [] (chars source) before done after
      → length before ≤ length source
  few_leading before done after u l =
      let z = leads_size (chars source) before 0 (length done) zero-le
      (leads_from_text [] (chars source) done after before l) in
      omega (arith, z.0, z.1, chars_within source u)

  pub few_before : (before : List Lexeme) (error : LexicalError) (at : Place) → HasErrorAfter source before error at
      → length before ≤ length source
  few_before before error at h = few_leading before h.done h.after h.utf8 h.leads

  pub few_in_limit : (most : ℕ) (span : Span) → IsUtf8 source → HasMore [] (chars source) most span
      → most ≤ length source
  few_in_limit most span u h = omega (arith, h.count, few_leading h.front h.done h.rest u h.leads)

-- ---- errors

pub error_after : (source : List ℕ) (before : List Lexeme) (error : LexicalError) (at : Place)
    → HasErrorAfter source before error at → Breaks (chars source) error at
error_after source before error at h = breaks_lead [] (chars source) h.done h.after before error at h.leads
    (here h.breaks)
