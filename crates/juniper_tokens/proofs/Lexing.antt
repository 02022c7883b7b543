-- Each item brings the end nearer.
use Rattle.std.proofs.Common.{◌≡◌, ℕ, ◌+◌, ◌<◌, List, ◌++◌, true, false, cond, inl, inr, length, ap, ◌∙◌, sym, arith}
use Rattle.std.proofs.lemmas.List.{length-append}
use Rattle.std.specs.Prelude.{Some, Result, Ok, Err, ◌↔◌}
use Rattle.std.proofs.lemmas.Bool.{cases_Bool}
use Rattle.graphql_lexical.specs.Cutting.{Lexeme}
use Rattle.graphql_lexical.specs.declared.kind.Kind.TheVariants.{EndOfFile}
use Rattle.graphql_lexical.proofs.Public.{reads_size, from_reads_text}
use Rattle.juniper_tokens.specs.declared.span.Spanning.{Spanning}
use Rattle.juniper_tokens.specs.declared.token.Token.{Token}
use Rattle.juniper_tokens.specs.declared.token_range.TokenRange.{TokenRange}
use Rattle.juniper_tokens.specs.declared.error.LexFailure.{LexFailure}
use Rattle.juniper_tokens.specs.declared.error.LexFailure.TheVariants as failure
use Rattle.juniper_tokens.specs.Tokens.{view_token}
use Rattle.juniper_tokens.specs.Lexing.{LexerState, ahead, PassesToken, lexer_steps, items_left}
use Rattle.juniper_tokens.specs.device.Ranges.{range_lexeme, range_steps}

left_open : (s : LexerState) → s.ended ≡ false → items_left s ≡ length (ahead s.source s.index) + 1
left_open s e = ap (λ b. cond b 0 (length (ahead s.source s.index) + 1)) e

left_ended : (s : LexerState) → s.ended ≡ true → items_left s ≡ 0
left_ended s e = ap (λ b. cond b 0 (length (ahead s.source s.index) + 1)) e

stands_nearer : (s : LexerState) (x : Lexeme) (n : ℕ) → PassesToken s x n → (x.kind ≡ EndOfFile → ⊥)
    → length (ahead s.source n) < length (ahead s.source s.index)
stands_nearer s x n h no_end =
    let rest = h.whole ++ ahead s.source n in
    let size = reads_size rest (length h.whole) x.kind x.text (from_reads_text h.whole (ahead s.source n) x.kind x.text h.reads) no_end in
    omega (
      arith,
      size.0,
      ap length h.left_is,
      length-append h.ignored rest,
      length-append h.whole (ahead s.source n),
    )

fewer_after_token : (s t : LexerState) (x : Lexeme) → s.ended ≡ false → t.source ≡ s.source
    → PassesToken s x t.index → ((t.ended ≡ true) ↔ (x.kind ≡ EndOfFile)) → items_left t < items_left s
fewer_after_token s t x going same stands ends = elim (cases_Bool t.ended) [
  | inl y ↦ omega (arith, left_open s going, left_ended t y)
  | inr n ↦
      let near = stands_nearer s x t.index stands (λ e. let z : true ≡ false = sym (ends.1 e) ∙ n in cc) in
      omega (arith, left_open s going, left_open t n, ap (λ (source : List ℕ). length (ahead source t.index)) same, near)
]

fewer_at_end : (s t : LexerState) → s.ended ≡ false → t.ended ≡ true → items_left t < items_left s
fewer_at_end s t going ended = omega (arith, left_open s going, left_ended t ended)

pub items_fewer : (s : LexerState) (item : Result (Spanning Token) LexFailure) (t : LexerState)
    → lexer_steps s (Some item) t → items_left t < items_left s
items_fewer s (Ok token) t h = fewer_after_token s t (view_token token) h.0 h.1 h.2.stands h.2.ends
items_fewer s (Err (failure.Fault fault)) t h = fewer_at_end s t h.0 h.2.ends
items_fewer s (Err failure.Memory) t h = fewer_at_end s t h.0 h.2.ends

pub ranges_fewer : (s : LexerState) (item : Result TokenRange LexFailure) (t : LexerState) → range_steps s (Some item) t
    → items_left t < items_left s
ranges_fewer s (Ok range) t h = fewer_after_token s t (range_lexeme s.source range) h.0 h.1 h.2.stands h.2.ends
ranges_fewer s (Err (failure.Fault fault)) t h = fewer_at_end s t h.0 h.2.ends
ranges_fewer s (Err failure.Memory) t h = fewer_at_end s t h.0 h.2.ends
