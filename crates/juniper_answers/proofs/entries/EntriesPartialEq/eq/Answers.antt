use Rattle.std.proofs.Common.{◌≡◌, ◌<◌, true, get_or, length, String, Global, sym, ap, subst, ◌∙◌, arith}
use borrow.Author.Count.{below_more}
use Rattle.std.specs.Map.{keys_of, lookup}
use Rattle.std.specs.Option.{option_eq}
use Rattle.std.specs.String.{string_eq, string_eq_equiv}
use Rattle.std_collections.proofs.HashMapEq.{key_at, own_value, unequal_at, unequal_len, equal_by_keys}
use Rattle.juniper_answers.specs.Entries.{entries_of}
use Rattle.juniper_answers.specs.Keys.{has_text}
use Rattle.juniper_answers.specs.Same.{as_map}
use Rattle.juniper_answers.proofs.entries.EntriesPartialEq.eq.Goals as goal

pub returns-then-len : goal.returns-then-len
returns-then-len g c =
    unequal_len string_eq string_eq_equiv g.V.PartialEq.eq (as_map (entries_of c.args.self.now))
    (as_map (entries_of c.args.other.now)) c.len-len.ensures.distinct c.len.ensures.distinct
    (λ e. c.if-len.true (c.len-len.ensures.len ∙ e ∙ sym c.len.ensures.len))

pub returns-then-not-eq : goal.returns-then-not-eq
returns-then-not-eq g c =
    let es = entries_of c.args.self.now in
    let fs = entries_of c.args.other.now in
    let k = c.pair_at.result.0.now in
    let within : c.loop-i.i < length es = omega (arith, c.loop-i-test.true, c.len-len.ensures.len) in
    let mine = own_value string_eq string_eq_equiv es c.loop-i.i k _ c.pair_at.ensures c.len-len.ensures.distinct
    within in
    let theirs = c.in-Some.ensures ∙ ap (λ bs. lookup (has_text bs) fs) c.as_str.ensures.value in
    unequal_at string_eq string_eq_equiv g.V.PartialEq.eq (as_map es) (as_map fs) k
    ((λ j. option_eq g.V.PartialEq.eq (mine j) (sym theirs j)) ∙ sym c.eq.ensures ∙ c.if-not-eq.true)

pub returns-in-None : goal.returns-in-None
returns-in-None g c =
    let es = entries_of c.args.self.now in
    let fs = entries_of c.args.other.now in
    let k = c.pair_at.result.0.now in
    let within : c.loop-i.i < length es = omega (arith, c.loop-i-test.true, c.len-len.ensures.len) in
    let mine = own_value string_eq string_eq_equiv es c.loop-i.i k _ c.pair_at.ensures c.len-len.ensures.distinct
    within in
    let theirs = c.in-None.ensures ∙ ap (λ bs. lookup (has_text bs) fs) c.as_str.ensures.value in
    unequal_at string_eq string_eq_equiv g.V.PartialEq.eq (as_map es) (as_map fs) k
    (λ j. option_eq g.V.PartialEq.eq (mine j) (sym theirs j))

pub loop-i-preserved : goal.loop-i-preserved
loop-i-preserved g c =
    let es = entries_of c.args.self.now in
    let fs = entries_of c.args.other.now in
    let i = c.loop-i.i in
    let k = c.pair_at.result.0.now in
    let within : i < length es = omega (arith, c.loop-i-test.true, c.len-len.ensures.len) in
    let mine = own_value string_eq string_eq_equiv es i k _ c.pair_at.ensures c.len-len.ensures.distinct within in
    let theirs = c.in-Some.ensures ∙ ap (λ bs. lookup (has_text bs) fs) c.as_str.ensures.value in
    let agree = λ (x : String Global). option_eq g.V.PartialEq.eq (lookup (string_eq x) es) (lookup (string_eq x) fs)
    ≡ true in
    let here : agree k = (λ j. option_eq g.V.PartialEq.eq (mine j) (sym theirs j)) ∙ sym c.eq.ensures
    ∙ c.if-not-eq.false in
    below_more (λ n. (d : String Global) → agree (get_or (keys_of es) n d)) i c.loop-i.invariant
    (λ d. subst agree (sym (key_at string_eq string_eq_equiv es i k _ c.pair_at.ensures d)) here)

pub returns : goal.returns
returns g c =
    equal_by_keys string_eq string_eq_equiv g.V.PartialEq.eq (as_map (entries_of c.args.self.now))
    (as_map (entries_of c.args.other.now)) c.len-len.ensures.distinct c.len.ensures.distinct
    (omega (arith, c.if-len.false, c.len-len.ensures.len, c.len.ensures.len))
    (λ k p. c.loop-i.invariant k (omega (arith, c.loop-i-test.false, c.len-len.ensures.len)))
