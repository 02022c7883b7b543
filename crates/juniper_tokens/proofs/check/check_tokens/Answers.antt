use Rattle.std.proofs.Common.{◌≡◌, ◌≤◌, None, Ok, true, false, length, refl, sym, subst, arith, rules}
use Rattle.std.specs.Str.{chars}
use Rattle.std.proofs.lemmas.Str.{encodes-chars, length-le-encodes}
use Rattle.graphql_lexical.specs.declared.kind.Kind.TheVariants.{EndOfFile}
use Rattle.graphql_lexical.specs.Kinds.{same_kind}
use Rattle.graphql_lexical.proofs.Public.{kind_is}
use Rattle.juniper_tokens.specs.Lexing.{LexerState, started}
use Rattle.juniper_tokens.proofs.Checking.{Checks, none_checked, one_checked, all_checked, goes_on, some_items}
use Rattle.juniper_tokens.proofs.Lexing.{ranges_fewer}
use Rattle.juniper_tokens.proofs.TokenLimits.{breaks_within, counted_before, cut_few, one_too_many, span_of}
use Rattle.juniper_tokens.proofs.check.check_tokens.Goals as goal

pub loop-range-init : goal.loop-range-init
loop-range-init c =
    let s = started (chars c.args.source.now) in
    subst (λ (l : LexerState). Checks s l 0 c.args.most c.args.depth (record { opened = 0; closed = 0; deep = None }))
    (sym c.new-lexer.ensures) (none_checked s c.args.most c.args.depth refl)

pub next_range-requires : goal.next_range-requires
next_range-requires c = c.loop-range.invariant.passes.going

pub returns-in_err-range-clause-fault : goal.returns-in_err-range-clause-fault
returns-in_err-range-clause-fault c =
    let so_far = c.loop-range.invariant.passes in
    breaks_within (started (chars c.args.source.now)) so_far.ranges c.loop-range.lexer c.next_range.new.self
    so_far.gathered
    c.in_err-range.field-0.0 c.in_err-range.ensures _ c.from_residual.ensures.1

pub returns-in_err-range-clause-few : goal.returns-in_err-range-clause-few
returns-in_err-range-clause-few c =
    let so_far = c.loop-range.invariant.passes in
    let few : length so_far.ranges ≤ c.args.most = omega (arith, so_far.count_is, so_far.few) in
    counted_before (started (chars c.args.source.now)) so_far.ranges c.loop-range.lexer c.next_range.new.self
    so_far.gathered
    c.in_err-range.field-0.0 c.in_err-range.ensures _ c.from_residual.ensures.1 c.args.most few

pub returns-then-eq-clause-nested : goal.returns-then-eq-clause-nested
returns-then-eq-clause-nested c =
    let end : same_kind c.in_ok-range.range.kind EndOfFile ≡ true = search rules in
    all_checked (started (chars c.args.source.now)) c.loop-range.lexer c.next_range.new.self c.loop-range.count
    c.args.most c.args.depth c.loop-range.brackets
    c.loop-range.invariant c.in_ok-range.range c.in_ok-range.ensures (kind_is c.in_ok-range.range.kind EndOfFile end)

pub returns-then-eq-clause-few : goal.returns-then-eq-clause-few
returns-then-eq-clause-few c =
    let cut = returns-then-eq-clause-nested c in
    cut_few c.args.most _ _ cut.0 cut.1 (omega (arith, cut.2))

pub returns-then-count-most-clause-many : goal.returns-then-count-most-clause-many
returns-then-count-most-clause-many c =
    let so_far = c.loop-range.invariant.passes in
    let s = started (chars c.args.source.now) in
    let t = c.loop-range.lexer in
    let u = c.next_range.new.self in
    let r = c.in_ok-range.range in
    let step = c.in_ok-range.ensures in
    let other : same_kind r.kind EndOfFile ≡ false = search rules in
    let full : length so_far.ranges ≡ c.args.most = omega (arith, so_far.count_is, so_far.few, c.if-count-most.true) in
    one_too_many s so_far.ranges t u so_far.gathered r step c.args.most full
    (goes_on s t u c.loop-range.count c.args.most so_far r step other) _
    (span_of u r u c.span_from-span.result refl step c.span_from-span.ensures.start c.span_from-span.ensures.end)

pub returns-then-count-most-clause-limited : goal.returns-then-count-most-clause-limited
returns-then-count-most-clause-limited c =
    let text = c.args.source.now in
    let so_far = c.loop-range.invariant.passes in
    let some = some_items (started (chars text)) c.loop-range.lexer c.loop-range.count c.args.most so_far in
    let few : length (chars text) ≤ length text =
    subst (λ bytes. length (chars text) ≤ length bytes) (encodes-chars text c.utf8.source) (length-le-encodes (chars
    text)) in
    search (rules, arith, some, few, c.if-count-most.true)

pub read-requires-clause-room : goal.read-requires-clause-room
read-requires-clause-room c =
    let text = c.args.source.now in
    let checked = c.loop-range.invariant in
    let some = some_items (started (chars text)) c.loop-range.lexer c.loop-range.count c.args.most checked.passes in
    let few : length (chars text) ≤ length text =
    subst (λ bytes. length (chars text) ≤ length bytes) (encodes-chars text c.utf8.source) (length-le-encodes (chars
    text)) in
    search (rules, arith, some, few, checked.fewer)

pub loop-range-smaller : goal.loop-range-smaller
loop-range-smaller c = ranges_fewer c.loop-range.lexer (Ok c.in_ok-range.range) c.next_range.new.self
    c.in_ok-range.ensures

pub loop-range-preserved : goal.loop-range-preserved
loop-range-preserved c =
    let other : same_kind c.in_ok-range.range.kind EndOfFile ≡ false = search rules in
    one_checked (started (chars c.args.source.now)) c.loop-range.lexer c.next_range.new.self c.loop-range.count
    c.args.most c.args.depth c.loop-range.brackets
    c.loop-range.invariant c.in_ok-range.range c.in_ok-range.ensures other (omega (arith, c.if-count-most.false))
    c.read.new.self c.read.ensures.nested c.read.ensures.more
