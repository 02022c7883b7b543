use Rattle.std.proofs.Common.{◌≡◌, ℕ, List, [], ◌++◌, false, Some, Ok, Err, sym, subst, rules}
use Rattle.std.specs.Prelude.{string_bytes, chars, encode_utf8_all}
use Rattle.juniper_tokens.specs.Tokens.{view_token}
use Rattle.juniper_tokens.specs.Lexing.{LexerState, lexer_steps}
use Rattle.juniper_canonical.proofs.Loop.{Kept, added_after, kept_first, kept_more, kept_fault, kept_cut}
use Rattle.juniper_canonical.proofs.text.canonical_text.Goals as goal

pub returns-in_err-token-clause-fault : goal.returns-in_err-token-clause-fault
returns-in_err-token-clause-fault c =
    let step : lexer_steps c.loop-item.lexer (Some (Err c.in_err-token.field-0.0)) c.next.new.self = search rules in
    kept_fault (chars c.args.source.now) c.loop-item.lexer c.next.new.self _ _ _ _ c.loop-item.invariant.1 step
    c.from_residual.ensures.1

pub loop-item-preserved : goal.loop-item-preserved
loop-item-preserved c =
    let step : lexer_steps c.loop-item.lexer (Some (Ok c.in_ok-token.field-0)) c.next.new.self = search rules in
    let grows : string_bytes c.write_token.new.out ≡ string_bytes c.loop-item.text
    ++ encode_utf8_all (added_after c.loop-item.is_bare (view_token c.in_ok-token.field-0)) =
    c.in-Ok-write_token.ensures.text in (
      (tt, tt),
      subst (Kept (chars c.args.source.now) c.next.new.self (string_bytes c.write_token.new.out))
          (sym c.in-Ok-write_token.ensures.bare) (kept_more (chars c.args.source.now) c.loop-item.lexer c.next.new.self
          _ _ _ _ c.loop-item.invariant.1 step grows),
    )

pub returns-clause-text : goal.returns-clause-text
returns-clause-text c =
    kept_cut (chars c.args.source.now) c.loop-item.lexer _ _ c.loop-item.invariant.1 (search rules)

pub loop-item-init : goal.loop-item-init
loop-item-init c =
    let source = chars c.args.source.now in (
      (tt, tt),
      subst (λ (text : List ℕ). Kept source c.new-lexer.result text false) (sym c.in-Ok.ensures.bytes)
          (subst (λ (s : LexerState). Kept source s [] false) (sym c.new-lexer.ensures) (kept_first source)),
    )
