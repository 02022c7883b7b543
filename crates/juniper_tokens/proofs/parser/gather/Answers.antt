use Rattle.std.proofs.Common.{◌≡◌, ◌∷◌, [], ◌++◌, ◌∙◌, ◌≤◌, ◌+◌, Ok, Err, true, false, length, length-append, sym, ap, subst, rules, arith}
use Rattle.std.proofs.lemmas.List.{length-map}
use Rattle.graphql_lexical.specs.Kinds.{same_kind}
use Rattle.graphql_lexical.specs.declared.kind.Kind.TheVariants.{EndOfFile}
use Rattle.juniper_tokens.specs.device.Ranges.{range_lexeme}
use Rattle.juniper_tokens.proofs.Gathering.{GatheredRanges, none_gathered, stays, ranges_more, gathered_cut, gathered_later}
use Rattle.juniper_tokens.proofs.Lexing.{ranges_fewer}
use Rattle.juniper_tokens.proofs.Ranges.{plain_steps, other_steps}
use Rattle.juniper_tokens.proofs.TokenLimits.{breaks_within, counted_before, cut_few, one_too_many, span_of}
use Rattle.juniper_tokens.proofs.parser.gather.Goals.{in-Some+else-len-most, in-None+in_ok-range-in-None+else-eq+else-len-most-2}
use Rattle.juniper_tokens.proofs.parser.gather.Goals as goal

pub returns-in_err-lines-clause-lexer : goal.returns-in_err-lines-clause-lexer
returns-in_err-lines-clause-lexer c = let here = stays c.args.lexer.now in search (rules, here)

pub loop-range-init : goal.loop-range-init
loop-range-init c = record {
  gathered =
      subst (λ rs. GatheredRanges c.args.lexer.now rs c.args.lexer.now) (sym c.requires.none)
      (none_gathered c.args.lexer.now c.requires.going);
  going = c.requires.going;
  lines = search rules;
  few = omega (arith, ap length c.requires.none);
}

pub returns-then-len-most-clause-many : goal.returns-then-len-most-clause-many
returns-then-len-most-clause-many c =
    let s = c.loop-range.lexer in
    let u = c.next_frequent.new.self in
    let r = c.in-Some.range in
    let step = plain_steps s u c.loop-range.invariant.going c.in-Some.ensures.source r c.in-Some.ensures.takes in
    let full : length c.loop-range.ranges.items ≡ c.args.most = omega (
      arith,
      c.loop-range.invariant.few,
      c.if-len-most.true,
      c.len.ensures,
    ) in
    one_too_many c.args.lexer.now _ s u c.loop-range.invariant.gathered r step c.args.most full
    (c.in-Some.ensures.ended c.loop-range.invariant.going) _
    (span_of u r c.duplicate.result c.span_from-span.result c.duplicate.ensures step c.span_from-span.ensures.start
    c.span_from-span.ensures.end)

pub returns-then-len-most-clause-lexer : goal.returns-then-len-most-clause-lexer
returns-then-len-most-clause-lexer c =
    let s = c.loop-range.lexer in
    let u = c.next_frequent.new.self in
    let r = c.in-Some.range in
    let step = plain_steps s u c.loop-range.invariant.going c.in-Some.ensures.source r c.in-Some.ensures.takes in
    gathered_later _ _ _ (ranges_more c.args.lexer.now c.loop-range.ranges.items s u r c.loop-range.invariant.gathered
    step).gathered

pub returns-in_err-range-in-None-clause-fault : goal.returns-in_err-range-in-None-clause-fault
returns-in_err-range-in-None-clause-fault c =
    let s = c.loop-range.lexer in
    let failed = c.in_err-range-in-None in
    let same = failed.ensures.source ∙ c.in-None.ensures.source in
    let step = other_steps s c.scan_ahead.new.self c.loop-range.invariant.going same c.next_frequent.new.self
    (Err failed.field-0.0) c.in-None.ensures.takes failed.ensures.takes in
    breaks_within c.args.lexer.now _ s c.scan_ahead.new.self c.loop-range.invariant.gathered failed.field-0.0 step _
    c.from_residual-in_err-range-in-None.ensures.1

pub returns-in_err-range-in-None-clause-few : goal.returns-in_err-range-in-None-clause-few
returns-in_err-range-in-None-clause-few c =
    let s = c.loop-range.lexer in
    let failed = c.in_err-range-in-None in
    let same = failed.ensures.source ∙ c.in-None.ensures.source in
    let step = other_steps s c.scan_ahead.new.self c.loop-range.invariant.going same c.next_frequent.new.self
    (Err failed.field-0.0) c.in-None.ensures.takes failed.ensures.takes in
    counted_before c.args.lexer.now _ s c.scan_ahead.new.self c.loop-range.invariant.gathered failed.field-0.0 step _
    c.from_residual-in_err-range-in-None.ensures.1 c.args.most c.loop-range.invariant.few

pub returns-then-len-most-2-clause-many : goal.returns-then-len-most-2-clause-many
returns-then-len-most-2-clause-many c =
    let s = c.loop-range.lexer in
    let u = c.scan_ahead.new.self in
    let r = c.in_ok-range-in-None.range in
    let same = c.in_ok-range-in-None.ensures.source ∙ c.in-None.ensures.source in
    let step = other_steps s u c.loop-range.invariant.going same c.next_frequent.new.self (Ok r) c.in-None.ensures.takes
    c.in_ok-range-in-None.ensures.takes in
    let full : length c.loop-range.ranges.items ≡ c.args.most = omega (
      arith,
      c.loop-range.invariant.few,
      c.if-len-most-2.true,
      c.len-in-None.ensures,
    ) in
    let other : same_kind r.kind EndOfFile ≡ false = search rules in
    one_too_many c.args.lexer.now _ s u c.loop-range.invariant.gathered r step c.args.most full
    (c.in_ok-range-in-None.ensures.takes.ends ∙ other) _
    (span_of u r c.duplicate-then-len-most-2.result c.span_from-span-then-len-most-2.result c.duplicate-then-len-most-2.ensures step c.span_from-span-then-len-most-2.ensures.start
    c.span_from-span-then-len-most-2.ensures.end)

pub returns-then-len-most-2-clause-lexer : goal.returns-then-len-most-2-clause-lexer
returns-then-len-most-2-clause-lexer c =
    let s = c.loop-range.lexer in
    let r = c.in_ok-range-in-None.range in
    let same = c.in_ok-range-in-None.ensures.source ∙ c.in-None.ensures.source in
    let step = other_steps s c.scan_ahead.new.self c.loop-range.invariant.going same c.next_frequent.new.self (Ok r)
    c.in-None.ensures.takes c.in_ok-range-in-None.ensures.takes in
    gathered_later _ _ _ (ranges_more c.args.lexer.now c.loop-range.ranges.items s c.scan_ahead.new.self r
    c.loop-range.invariant.gathered step).gathered

pub returns-then-is_err-3-clause-lexer : goal.returns-then-is_err-3-clause-lexer
returns-then-is_err-3-clause-lexer c =
    let s = c.loop-range.lexer in
    let going = c.loop-range.invariant.going in
    elim c.match-next_frequent.branch [
      | in-Some+else-len-most w ↦
          let step = plain_steps s c.next_frequent.new.self going w.in-Some.ensures.source w.in-Some.range
          w.in-Some.ensures.takes in
          rw w.lexer-is (gathered_later _ _ _ (ranges_more c.args.lexer.now c.loop-range.ranges.items s
          c.next_frequent.new.self w.in-Some.range c.loop-range.invariant.gathered step).gathered)
      | in-None+in_ok-range-in-None+else-eq+else-len-most-2 w ↦
          let same = w.in_ok-range-in-None.ensures.source ∙ w.in-None.ensures.source in
          let step = other_steps s w.scan_ahead.new.self going same c.next_frequent.new.self
          (Ok w.in_ok-range-in-None.range) w.in-None.ensures.takes w.in_ok-range-in-None.ensures.takes in
          rw w.lexer-is (gathered_later _ _ _ (ranges_more c.args.lexer.now c.loop-range.ranges.items s
          w.scan_ahead.new.self w.in_ok-range-in-None.range c.loop-range.invariant.gathered step).gathered)
    ]

pub loop-range-smaller : goal.loop-range-smaller
loop-range-smaller c =
    let s = c.loop-range.lexer in
    let going = c.loop-range.invariant.going in
    elim c.match-next_frequent.branch [
      | in-Some+else-len-most w ↦
          let u = c.next_frequent.new.self in
          rw w.lexer-is (ranges_fewer s (Ok w.in-Some.range) u
          (plain_steps s u going w.in-Some.ensures.source w.in-Some.range w.in-Some.ensures.takes))
      | in-None+in_ok-range-in-None+else-eq+else-len-most-2 w ↦
          let same = w.in_ok-range-in-None.ensures.source ∙ w.in-None.ensures.source in
          rw w.lexer-is (ranges_fewer s (Ok w.in_ok-range-in-None.range) w.scan_ahead.new.self
          (other_steps s w.scan_ahead.new.self going same c.next_frequent.new.self
          (Ok w.in_ok-range-in-None.range) w.in-None.ensures.takes w.in_ok-range-in-None.ensures.takes))
    ]

pub loop-range-preserved : goal.loop-range-preserved
loop-range-preserved c =
    let s = c.loop-range.lexer in
    let going = c.loop-range.invariant.going in
    let kept : GatheredRanges c.args.lexer.now c.match-next_frequent.ranges.items c.match-next_frequent.lexer
    × (length c.match-next_frequent.ranges.items ≤ c.args.most) =
    elim c.match-next_frequent.branch [
      | in-Some+else-len-most w ↦
          let pushed : w.push-pushed.new.self.items ≡ c.loop-range.ranges.items ++ w.in-Some.range ∷ [] =
          search rules in
          let more : length w.push-pushed.new.self.items ≡ length c.loop-range.ranges.items + 1 =
          ap length pushed ∙ length-append c.loop-range.ranges.items (w.in-Some.range ∷ []) in
          let step = plain_steps s c.next_frequent.new.self going w.in-Some.ensures.source w.in-Some.range
          w.in-Some.ensures.takes in
          rw (w.lexer-is, w.ranges-is) (
            subst (λ rs. GatheredRanges c.args.lexer.now rs c.next_frequent.new.self) (sym pushed)
                (ranges_more c.args.lexer.now c.loop-range.ranges.items s c.next_frequent.new.self w.in-Some.range
                c.loop-range.invariant.gathered step),
            omega (arith, more, w.if-len-most.false, w.len.ensures),
          )
      | in-None+in_ok-range-in-None+else-eq+else-len-most-2 w ↦
          let pushed : w.push-pushed-in-None.new.self.items
          ≡ c.loop-range.ranges.items ++ w.in_ok-range-in-None.range ∷ [] = search rules in
          let more : length w.push-pushed-in-None.new.self.items ≡ length c.loop-range.ranges.items + 1 =
          ap length pushed ∙ length-append c.loop-range.ranges.items (w.in_ok-range-in-None.range ∷ []) in
          let same = w.in_ok-range-in-None.ensures.source ∙ w.in-None.ensures.source in
          let step = other_steps s w.scan_ahead.new.self going same c.next_frequent.new.self
          (Ok w.in_ok-range-in-None.range) w.in-None.ensures.takes w.in_ok-range-in-None.ensures.takes in
          rw (w.lexer-is, w.ranges-is) (
            subst (λ rs. GatheredRanges c.args.lexer.now rs w.scan_ahead.new.self) (sym pushed)
                (ranges_more c.args.lexer.now c.loop-range.ranges.items s w.scan_ahead.new.self
                w.in_ok-range-in-None.range c.loop-range.invariant.gathered step),
            omega (arith, more, w.if-len-most-2.false, w.len-in-None.ensures),
          )
    ] in
    let goes_on : c.match-next_frequent.lexer.ended ≡ false =
    elim c.match-next_frequent.branch [
      | in-Some+else-len-most w ↦ rw w.lexer-is (w.in-Some.ensures.ended going)
      | in-None+in_ok-range-in-None+else-eq+else-len-most-2 w ↦
          let other : same_kind w.in_ok-range-in-None.range.kind EndOfFile ≡ false = search rules in
          rw w.lexer-is (w.in_ok-range-in-None.ensures.takes.ends ∙ other)
    ] in
    record { gathered = kept.0; going = goes_on; lines = search rules; few = kept.1 }

pub returns-in-Ok : goal.returns-in-Ok
returns-in-Ok c =
    let s = c.loop-range.lexer in
    let same = c.in_ok-range-in-None.ensures.source ∙ c.in-None.ensures.source in
    let step = other_steps s c.scan_ahead.new.self c.loop-range.invariant.going same c.next_frequent.new.self
    (Ok c.in_ok-range-in-None.range) c.in-None.ensures.takes c.in_ok-range-in-None.ensures.takes in
    let pushed : c.push.new.self.items ≡ c.loop-range.ranges.items ++ c.in_ok-range-in-None.range ∷ [] = search rules in
    let is_end : same_kind c.in_ok-range-in-None.range.kind EndOfFile ≡ true = search rules in
    let all : GatheredRanges c.args.lexer.now c.push.new.self.items c.scan_ahead.new.self =
    subst (λ rs. GatheredRanges c.args.lexer.now rs c.scan_ahead.new.self) (sym pushed)
    (ranges_more c.args.lexer.now c.loop-range.ranges.items s c.scan_ahead.new.self
    c.in_ok-range-in-None.range c.loop-range.invariant.gathered step) in
    let ended = c.in_ok-range-in-None.ensures.takes.ends ∙ is_end in
    let cut = gathered_cut _ _ _ all.gathered ended in
    let more : length c.push.new.self.items ≡ length c.loop-range.ranges.items + 1 =
    ap length pushed ∙ length-append c.loop-range.ranges.items (c.in_ok-range-in-None.range ∷ []) in
    record {
      ranges = all.are_ranges;
      order = all.in_order;
      tokens = cut;
      lines = search rules;
      fault = search rules;
      zero_width = search rules;
      few =
          cut_few c.args.most _ _ _ cut
          (omega (
            arith,
            length-map c.push.new.self.items (range_lexeme c.args.lexer.now.source),
            more,
            c.loop-range.invariant.few,
          ));
      many = search rules;
      limited = search rules;
      source = search rules;
      lexer = search rules;
    }
