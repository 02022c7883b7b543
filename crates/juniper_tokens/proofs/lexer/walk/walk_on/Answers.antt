use Rattle.std.proofs.Common.{◌≡◌, ◌≤◌, false, length, get_or, sym, ap, ◌∙◌, arith, refl, subst, rules}
use Rattle.graphql_lexical.specs.declared.state.State.TheVariants.{Start}
use Rattle.juniper_tokens.specs.device.ByteRuns.{is_inner}
use Rattle.juniper_tokens.specs.device.Walks.{token_machine, WalkedToken}
use Rattle.juniper_tokens.proofs.ByteRuns.{walked_stop, walked_end}
use Rattle.juniper_tokens.proofs.ByteClasses.{outer}
use Rattle.juniper_tokens.proofs.TokenWalks.{walked_next, token_none, token_reached}
use Rattle.juniper_tokens.proofs.lexer.walk.walk_on.Goals as goal

pub loop-i-init : goal.loop-i-init
loop-i-init c = (
  subst (λ bs. WalkedToken bs c.args.start.bytes c.args.from c.args.start.characters) (sym c.as_bytes-bytes.ensures.value)
      c.requires.walked,
  c.requires.fewer,
)

pub loop-i-preserved : goal.loop-i-preserved
loop-i-preserved c =
    let bytes = c.as_bytes-bytes.result.now in
    let b = get_or bytes c.loop-i.i 0 in
    let begins : is_inner b ≡ false = outer b c.byte_class.result false (omega (arith, c.type_inv.bytes c.loop-i.i))
    c.byte_class.ensures (sym c.if-is_inner.false ∙ c.is_inner.ensures) in (
      walked_next bytes _ c.loop-i.i c.loop-i.characters c.loop-i.state c.in-Some.next c.walk_run-run.result
          c.loop-i-test.true begins (sym c.step.ensures ∙ c.in-Some.is) refl c.walk_run-run.ensures.stays
          c.walk_run-run.ensures.within c.loop-i.invariant.0,
      omega (arith, c.loop-i.invariant.1, c.walk_run-run.ensures.fewer),
    )

pub returns-in-None : goal.returns-in-None
returns-in-None c =
    let bytes = c.as_bytes-bytes.result.now in
    let b = get_or bytes c.loop-i.i 0 in
    let begins : is_inner b ≡ false = outer b c.byte_class.result false
    (omega (arith, c.type_inv.text c.loop-i.i, ap (λ t. get_or t c.loop-i.i 0) c.as_bytes-bytes.ensures.value))
    c.byte_class.ensures (sym c.if-is_inner.false ∙ c.is_inner.ensures) in
    let reached = token_reached c.args.text.now bytes c.loop-i.i c.loop-i.characters c.loop-i.state c.utf8.text
    c.as_bytes-bytes.ensures.value
    (walked_stop token_machine (Start, 0) (c.loop-i.state, c.loop-i.characters) bytes c.loop-i.i c.loop-i-test.true
    (token_none c.loop-i.state c.loop-i.characters b begins
    (sym c.step.ensures ∙ c.in-None.is)) c.loop-i.invariant.0) in
    record { reached = reached.0; offset = reached.1; within = search rules }

pub returns : goal.returns
returns c =
    let bytes = c.as_bytes-bytes.result.now in
    let end : length bytes ≤ c.loop-i.i = omega (arith, c.loop-i-test.false) in
    let reached = token_reached c.args.text.now bytes c.loop-i.i c.loop-i.characters c.loop-i.state c.utf8.text
    c.as_bytes-bytes.ensures.value
    (walked_end token_machine (Start, 0) (c.loop-i.state, c.loop-i.characters) bytes c.loop-i.i end
    c.loop-i.invariant.0) in
    record { reached = reached.0; offset = reached.1; within = search rules }
