use Rattle.std.proofs.Common.{◌≡◌, ◌≤◌, Ok, true, false, length, refl, sym, subst, arith, rules}
use Rattle.std.specs.Str.{chars}
use Rattle.graphql_lexical.specs.declared.kind.Kind.TheVariants.{EndOfFile}
use Rattle.graphql_lexical.specs.Kinds.{same_kind}
use Rattle.graphql_lexical.proofs.Public.{kind_is}
use Rattle.juniper_tokens.specs.Lexing.{LexerState, started}
use Rattle.juniper_tokens.proofs.Checking.{Passes, none_passed, one_passed, goes_on, passed_few}
use Rattle.juniper_tokens.proofs.Lexing.{ranges_fewer}
use Rattle.juniper_tokens.proofs.TokenLimits.{few_before, one_too_many, span_of}
use Rattle.juniper_tokens.proofs.check.first_token_past.Goals as goal

pub loop-range-init : goal.loop-range-init
loop-range-init c =
    let s = started (chars c.args.source.now) in
    subst (λ (l : LexerState). Passes s l 0 c.args.most) (sym c.new-lexer.ensures) (none_passed s c.args.most refl)

pub next_range_or_none-requires : goal.next_range_or_none-requires
next_range_or_none-requires c = c.loop-range.invariant.going

pub returns-in_err-range-clause-few : goal.returns-in_err-range-clause-few
returns-in_err-range-clause-few c =
    let so_far = c.loop-range.invariant in
    let few : length so_far.ranges ≤ c.args.most = omega (arith, so_far.count_is, so_far.few) in
    λ _. few_before (started (chars c.args.source.now)) so_far.ranges c.loop-range.lexer c.next_range_or_none.new.self
    so_far.gathered
    c.in_err-range.ensures.0 c.in_err-range.ensures.1 c.args.most few

pub returns-then-eq-clause-few : goal.returns-then-eq-clause-few
returns-then-eq-clause-few c =
    let end : same_kind c.in_ok-range.range.kind EndOfFile ≡ true = search rules in
    λ _. passed_few (started (chars c.args.source.now)) c.loop-range.lexer c.next_range_or_none.new.self
    c.loop-range.count c.args.most c.loop-range.invariant c.in_ok-range.range c.in_ok-range.ensures
    (kind_is c.in_ok-range.range.kind EndOfFile end)

pub returns-then-count-most-clause-many : goal.returns-then-count-most-clause-many
returns-then-count-most-clause-many c =
    let so_far = c.loop-range.invariant in
    let s = started (chars c.args.source.now) in
    let t = c.loop-range.lexer in
    let u = c.next_range_or_none.new.self in
    let r = c.in_ok-range.range in
    let step = c.in_ok-range.ensures in
    let other : same_kind r.kind EndOfFile ≡ false = search rules in
    let full : length so_far.ranges ≡ c.args.most = omega (arith, so_far.count_is, so_far.few, c.if-count-most.true) in
    one_too_many s so_far.ranges t u so_far.gathered r step c.args.most full
    (goes_on s t u c.loop-range.count c.args.most so_far r step other) _
    (span_of u r u c.span_from.result refl step c.span_from.ensures.start c.span_from.ensures.end)

pub loop-range-smaller : goal.loop-range-smaller
loop-range-smaller c = ranges_fewer c.loop-range.lexer (Ok c.in_ok-range.range) c.next_range_or_none.new.self
    c.in_ok-range.ensures

pub loop-range-preserved : goal.loop-range-preserved
loop-range-preserved c =
    let other : same_kind c.in_ok-range.range.kind EndOfFile ≡ false = search rules in
    one_passed (started (chars c.args.source.now)) c.loop-range.lexer c.next_range_or_none.new.self c.loop-range.count
    c.args.most c.loop-range.invariant c.in_ok-range.range c.in_ok-range.ensures other
    (omega (arith, c.if-count-most.false))
