use Rattle.std.proofs.Common.{rules, refl}
use Rattle.std.proofs.Common.{◌≡◌, ◌∙◌, ℕ, ◌<◌, ◌^◌, List, ◌++◌, ◌∷◌, [], length, sym, subst, ap₂, arith, zero-le, length-append}
use Rattle.std.specs.Str.{chars}
use Rattle.graphql_lexical.specs.declared.kind.Kind.TheVariants.{EndOfFile}
use Rattle.juniper_tokens.specs.Errors.{view_lexer_error}
use Rattle.juniper_tokens.specs.Lexing.{LexerState, passed, ahead}
use Rattle.juniper_tokens.specs.Spans.{view_span}
use Rattle.juniper_tokens.specs.Tokens.{token_kind, view_token}
use Rattle.firthnapkin_results.specs.declared.token.Token.{Token}
use Rattle.firthnapkin_results.specs.Tokens.{token_at, written_token, HasErrorAfter}
use Rattle.firthnapkin_results.proofs.Fitting.{few_characters, broken_fits}
use Rattle.firthnapkin_results.proofs.Lexed.{given_token, given_error, goes_on}
use Rattle.firthnapkin_results.proofs.TokenCounts.{token_fits}
use Rattle.firthnapkin_results.proofs.HeldTokens.{Held, held_first, all_there, stands_here, breaks_here, held_more, held_many, held_all, held_written, error_after, none_held}
use Rattle.firthnapkin_results.proofs.tokens.tokens_of_text.Goals as goal

within_text : (text : List ℕ) (old buffer : List Token) (s : LexerState) (count : ℕ) (h : Held text old s buffer count)
    → length text < 2 ^ 32 → length (passed text s.index ++ ahead text s.index) < 2 ^ 32
within_text text old buffer s count h = subst (λ (t : List ℕ). length t < 2 ^ 32)
    (sym (all_there text old buffer s count h))

pub returns-then-count-most : goal.returns-then-count-most
returns-then-count-most c =
    let l = c.loop-token in
    let text = chars c.args.text.now in
    let held = l.invariant.held in
    let token = c.in-Some-Ok.token in
    let x = view_token token in
    let given = given_token _ _ _ c.in-Some-Ok.ensures.steps.2 token c.in-Some-Ok.field-0-is in
    let next = c.next.new.self.index in
    let stands = stands_here text _ _ l.lexer l.count held x next given.stands in
    let no_end : token_kind token.item ≡ EndOfFile → ⊥ = search rules in
    let span = view_span token.span in
    let few = few_characters c.args.text.now c.utf8.text c.requires in
    let fits = token_fits _ _ x _ _ stands span refl (within_text text _ _ l.lexer l.count held few) in
    let all : l.count ≡ c.args.most = omega (arith, c.if-count-most.true) in
    let more = held_many text _ _ l.lexer l.count held c.args.most x next span all stands no_end refl in
    (c.requires, c.utf8.text, (span, more.0, more.1, c.too_many_tokens_error.ensures text c.in_ok-table.ensures fits))

pub loop-token-preserved : goal.loop-token-preserved
loop-token-preserved c =
    let l = c.loop-token in
    let text = chars c.args.text.now in
    let held = l.invariant.held in
    let token = c.in-Some-Ok.token in
    let x = view_token token in
    let steps = c.in-Some-Ok.ensures.steps in
    let given = given_token _ _ _ steps.2 token c.in-Some-Ok.field-0-is in
    let next = c.next.new.self.index in
    let stands = stands_here text _ _ l.lexer l.count held x next given.stands in
    let no_end : token_kind token.item ≡ EndOfFile → ⊥ = search rules in
    let span = view_span token.span in
    let few = few_characters c.args.text.now c.utf8.text c.requires in
    let fits = token_fits _ _ x _ _ stands span refl (within_text text _ _ l.lexer l.count held few) in
    let written : c.token_at-in-Some-Ok.result ≡ written_token text x =
    c.token_at-in-Some-Ok.ensures text c.in_ok-table.ensures fits ∙ ap₂ (token_at text) c.kind-kind.ensures refl in
    let put = c.put-in-Some-Ok in record {
      held = held_more text _ _ l.lexer l.count held c.next.new.self put.new.buffer c.token_at-in-Some-Ok.result x
          stands
          no_end steps.1 (goes_on _ _ token given no_end) written put.ensures;
      few = omega (arith, l.invariant.few, c.if-count-most.false);
    }

pub returns-then-eq : goal.returns-then-eq
returns-then-eq c =
    let l = c.loop-token in
    let text = chars c.args.text.now in
    let held = l.invariant.held in
    let token = c.in-Some-Ok.token in
    let x = view_token token in
    let given = given_token _ _ _ c.in-Some-Ok.ensures.steps.2 token c.in-Some-Ok.field-0-is in
    let next = c.next.new.self.index in
    let stands = stands_here text _ _ l.lexer l.count held x next given.stands in
    let last : token_kind token.item ≡ EndOfFile = search rules in
    let span = view_span token.span in
    let few = few_characters c.args.text.now c.utf8.text c.requires in
    let fits = token_fits _ _ x _ _ stands span refl (within_text text _ _ l.lexer l.count held few) in
    let written : c.token_at.result ≡ written_token text x =
    c.token_at.ensures text c.in_ok-table.ensures fits ∙ ap₂ (token_at text) c.kind-kind.ensures refl in
    let more = length-append held.tokens (x ∷ []) in (
      c.requires,
      (
        held.tokens ++ x ∷ [],
        record { utf8 = c.utf8.text; cut = held_all text _ _ l.lexer l.count held x next stands last },
        omega (arith, more, held.count_is, l.invariant.few),
        held_written text _ _ l.lexer l.count held c.put.new.buffer c.token_at.result x written
            c.put.ensures,
        omega (arith, more, held.count_is),
      ),
    )

pub returns-in-Some-Err-Fault : goal.returns-in-Some-Err-Fault
returns-in-Some-Err-Fault c =
    let l = c.loop-token in
    let text = chars c.args.text.now in
    let held = l.invariant.held in
    let here = c.in-Some-Err-Fault in
    let error = view_lexer_error here.error.item in
    let at = here.error.span.start in
    let breaks = given_error _ _ _ here.ensures.steps.2 here.error here.field-0-0 here.field-0-is here.field-0-0-is in
    let met : HasErrorAfter c.args.text.now held.tokens error at = record {
      utf8 = c.utf8.text;
      done = passed text l.lexer.index;
      after = ahead text l.lexer.index;
      leads = held.leads;
      breaks = breaks_here text _ _ l.lexer l.count held error at breaks;
    } in
    let few = few_characters c.args.text.now c.utf8.text c.requires in
    let fits = broken_fits text error at few (error_after c.args.text.now held.tokens error at met) in (
      c.requires,
      (
        held.tokens,
        error,
        at,
        met,
        omega (arith, held.count_is, l.invariant.few),
        held.fills,
        held.count_is,
        (rw here.field-0-0-is at c.lexical_error-found.ensures text c.in_ok-table.ensures) fits,
      ),
    )

pub loop-token-init : goal.loop-token-init
loop-token-init c =
    let text = chars c.args.text.now in
    let buffer = c.args.buffer.now in record {
      held = subst (λ (s : LexerState). Held text buffer s buffer 0) (sym c.new-lexer.ensures) (held_first text buffer);
      few = zero-le;
    }

pub returns-in_err-table : goal.returns-in_err-table
returns-in_err-table c =
    none_held c.args.text.now c.args.most c.args.buffer.now c.from_residual.result c.requires c.utf8.text
    c.from_residual.ensures.1
