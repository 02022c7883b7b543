-- The tokens of a lexer, gathered one after another.
use Rattle.std.proofs.Common.{◌≡◌, ◌≤◌, ℕ, true, false, List, [], ◌∷◌, ◌++◌, ◌⊎◌, inl, inr, refl, sym, ◌∙◌, subst, rules, arith}
use Rattle.std.specs.Prelude.{Some, Result, Ok, Err, ◌↔◌}
use Rattle.std.specs.Result.{IsErrAnd}
use Rattle.std.specs.List.{All}
use Rattle.std.proofs.lemmas.List.Elements.{All-push}
use Rattle.std.proofs.lemmas.Bool.{cases_Bool}
use Rattle.std.proofs.lemmas.List.{map-append}
use Rattle.graphql_lexical.specs.declared.kind.Kind.TheVariants.{EndOfFile}
use Rattle.graphql_lexical.specs.Characters.{Text}
use Rattle.graphql_lexical.specs.Cutting.{Lexeme, Leads, CutAfter}
use Rattle.graphql_lexical.specs.Cutting as cutting
use Rattle.graphql_lexical.proofs.Public.{other_kind, leads_more, cut_leads, breaks_lead}
use Rattle.juniper_tokens.specs.declared.token_range.TokenRange.{TokenRange}
use Rattle.juniper_tokens.specs.declared.error.LexFailure.{LexFailure}
use Rattle.juniper_tokens.specs.declared.error.LexFailure.TheVariants as failures
use Rattle.juniper_tokens.specs.Errors.{view_lexer_error}
use Rattle.juniper_tokens.specs.Cursor.{EndsOnce}
use Rattle.juniper_tokens.specs.Lexing.{LexerState, passed, ahead, PassesToken, MeetsError, GivesFault}
use Rattle.juniper_tokens.specs.Gathering.{IfFault, HasLeft, BreaksOff, StandsLaterOrEnded}
use Rattle.juniper_tokens.specs.device.Ranges.{range_lexeme, range_lexemes, range_steps, GivesRangeItem, IsRange, InOrder}
use Rattle.juniper_tokens.proofs.InOrder.{end_of, order_more, end_more}

-- ---- a cut ends once

ends_once_more : (x : Lexeme) (xs : List Lexeme) → (x.kind ≡ EndOfFile → ⊥) → EndsOnce xs → EndsOnce (x ∷ xs)
ends_once_more x [] n h = absurd h
ends_once_more x (y ∷ ys) n h = (other_kind x.kind EndOfFile n, h)

pub cut_ends_once : (before left : Text) (xs : List Lexeme) → CutAfter before left xs → EndsOnce xs
cut_ends_once _ _ _ (cutting.last s e) = e
cut_ends_once _ _ _ (cutting.token {done = done} {after = after} {x = x} {xs = xs} s n c) =
    ends_once_more x xs n (cut_ends_once done after xs c)

-- ---- what the loop keeps

-- the tokens between two indexes of a source
abbrev LeadsOn : List ℕ → ℕ → List Lexeme → ℕ → Type 0
LeadsOn source k xs n = Leads (passed source k) (ahead source k) xs (passed source n) (ahead source n)

-- from state s on these tokens have been gathered, and the lexer is now in state t
pub record Gathered (s : LexerState) (xs : List Lexeme) (t : LexerState) : Type 0 where
  pub source : t.source ≡ s.source
  pub tokens : ((t.ended ≡ false) × LeadsOn s.source s.index xs t.index) ⊎ ((t.ended ≡ true) × HasLeft s xs)

pub gathered_open : (s : LexerState) (xs : List Lexeme) (t : LexerState) → Gathered s xs t → t.ended ≡ false
    → LeadsOn s.source s.index xs t.index
gathered_open s xs t g e = elim g.tokens [
  | inl o ↦ o.1
  | inr d ↦ absurd (cc)
]

-- a state at this index of the source
abbrev pub at_index : LexerState → ℕ → LexerState
at_index s k = record { source = s.source; index = k; ended = s.ended }

pub gathered_token : (s : LexerState) (xs : List Lexeme) (t u : LexerState) (x : Lexeme)
    → LeadsOn s.source s.index xs t.index → u.source ≡ s.source → PassesToken (at_index s t.index) x u.index
    → ((u.ended ≡ true) ↔ (x.kind ≡ EndOfFile)) → Gathered s (xs ++ x ∷ []) u
gathered_token s xs t u x l q stands ends =
    record {
      source = q;
      tokens = elim (cases_Bool u.ended) [
        | inl y ↦ inr (
          y,
          cut_leads _ _ _ _ xs (x ∷ []) l (cutting.last stands (ends.0 y)),
        )
        | inr n ↦ inl (
          n,
          leads_more _ _ _ _ _ _ xs x l stands (λ e. let z : true ≡ false = sym (ends.1 e) ∙ n in cc),
        )
      ];
    }

-- these ranges of tokens have been gathered
pub record GatheredRanges (s : LexerState) (ranges : List TokenRange) (t : LexerState) : Type 0 where
  pub gathered : Gathered s (range_lexemes s.source ranges) t
  pub are_ranges : All (IsRange s.source) ranges
  pub in_order : InOrder 0 ranges
  pub reached : end_of 0 ranges ≤ t.index

-- at the beginning
pub none_gathered : (s : LexerState) → s.ended ≡ false → GatheredRanges s [] s
none_gathered s going = record {
  gathered = record { source = refl; tokens = inl (going, cutting.none) };
  are_ranges = search rules;
  in_order = tt;
  reached = omega arith;
}

pub stays : (s : LexerState) → StandsLaterOrEnded s s
stays s = inl ([], cutting.none)

pub ranges_more : (s : LexerState) (ranges : List TokenRange) (t u : LexerState) (r : TokenRange)
    → GatheredRanges s ranges t → range_steps t (Some (Ok r)) u → GatheredRanges s (ranges ++ r ∷ []) u
ranges_more s ranges t u r g h =
    let p : t.source ≡ s.source = g.gathered.source in
    let stands : PassesToken (at_index s t.index) (range_lexeme s.source r) u.index =
    subst (λ (source : List ℕ). PassesToken (record { source = source; index = t.index; ended = s.ended }) (range_lexeme source r) u.index)
    p h.2.stands in
    let open_yet = gathered_open s (range_lexemes s.source ranges) t g.gathered h.0 in
    record {
      gathered =
          subst (λ (xs : List Lexeme). Gathered s xs u) (sym (map-append (range_lexeme s.source) ranges (r ∷ [])))
          (gathered_token s (range_lexemes s.source ranges) t u (range_lexeme s.source r) open_yet (h.1 ∙ p) stands
          h.2.ends);
      are_ranges = All-push (IsRange s.source) ranges r g.are_ranges
          (subst (λ (source : List ℕ). IsRange source r) p h.2.is_range);
      in_order = order_more 0 ranges r g.in_order (omega (arith, g.reached, h.2.from));
      reached = omega (arith, end_more 0 ranges r, h.2.to);
    }

pub gathered_cut : (s : LexerState) (xs : List Lexeme) (t : LexerState) → Gathered s xs t → t.ended ≡ true
    → HasLeft s xs
gathered_cut s xs t g e = elim g.tokens [
  | inl o ↦ absurd (cc)
  | inr d ↦ d.1
]

pub gathered_later : (s : LexerState) (xs : List Lexeme) (t : LexerState) → Gathered s xs t → StandsLaterOrEnded s t
gathered_later s xs t g = elim g.tokens [
  | inl o ↦ inl (xs, o.1)
  | inr d ↦ inr d.0
]

-- a fault after them is passed on
pub breaks_passed : (s : LexerState) (ranges : List TokenRange) (t u : LexerState) {X : Type 0}
    (result : Result X LexFailure) (failure : LexFailure)
    → GatheredRanges s ranges t → range_steps t (Some (Err failure)) u → IsErrAnd result (λ x. x ≡ failure)
    → IfFault result (λ fault. BreaksOff s (view_lexer_error fault.item) fault.span.start)
breaks_passed s ranges t u (Ok x) failure g h e = absurd e
breaks_passed s ranges t u (Err failures.Memory) failure g h e = tt
breaks_passed s ranges t u (Err (failures.Fault fault)) failure g h e =
    let gives : GivesFault t fault u = subst (λ (f : LexFailure). GivesRangeItem t (Err f) u) (sym e) h.2 in
    let breaks : MeetsError (at_index s t.index) (view_lexer_error fault.item) fault.span.start =
    subst (λ (source : List ℕ). MeetsError (record { source = source; index = t.index; ended = s.ended }) (view_lexer_error fault.item) fault.span.start)
    g.gathered.source gives.breaks in
    breaks_lead _ _ _ _ (range_lexemes s.source ranges) _ _
    (gathered_open s (range_lexemes s.source ranges) t g.gathered h.0) (cutting.here breaks)
