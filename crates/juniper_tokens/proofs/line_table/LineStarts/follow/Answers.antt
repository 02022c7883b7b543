use Rattle.std.proofs.Common.{◌≡◌, ◌≤◌, ◌<◌, ◌-◌, ◌++◌, ◌∷◌, [], ℕ, length, le_refl, sym, ap, ap₂, subst, ◌∙◌, arith}
use Rattle.std.specs.Str.{chars}
use Rattle.graphql_lexical.specs.Place.{Place, place}
use Rattle.juniper_tokens.specs.device.ByteRuns.{byte_at}
use Rattle.juniper_tokens.specs.device.LineSteps.{AreStarts}
use Rattle.juniper_tokens.proofs.LinesSoFar.{no_line_more, one_line_more}
use Rattle.juniper_tokens.proofs.line_table.LineStarts.follow.Goals as goal

pub returns-then-line-count : goal.returns-then-line-count
returns-then-line-count c =
    let source = chars c.args.source.now in
    let few : (place source c.args.place.index).line < length c.args.self.now.starts.items = omega (
      arith,
      ap (λ (p : Place). p.line) c.requires.placed.place_is,
      c.line-line.ensures,
      c.len-count.ensures,
      c.if-line-count.true,
    ) in
    record {
      counts = c.requires.counts;
      before = c.requires.before;
      so_far = no_line_more source c.args.self.now.starts.items c.args.self.now.at.characters c.args.place.index
          c.requires.before c.requires.counts.counted few;
    }

pub returns : goal.returns
returns c =
    let source = chars c.args.source.now in
    let starts = c.args.self.now.starts.items in
    let k = c.args.place.index in
    let here = c.requires.placed.place_is in
    let index = sym c.index-here.ensures in
    let line : (place source k).line ≡ length starts = omega (
      arith,
      ap (λ (p : Place). p.line) here,
      c.line-line.ensures,
      c.len-count.ensures,
      c.if-line-count.false,
      c.if-line-count-2.false,
      c.args.self.now.starts.ok.0,
    ) in
    let start = ap₂ (λ (i j : ℕ). i - j) (c.index-here.ensures ∙ ap (λ (p : Place). p.index) here)
    (c.column.ensures ∙ ap (λ (p : Place). p.column) here) in
    let so_far = one_line_more source starts c.args.self.now.at.characters k c.requires.before c.requires.counts.counted
    c.push.new.self.items line (c.in_ok-push.ensures.items ∙ ap (λ n. starts ++ n ∷ []) start) in
    record {
      counts = record {
        offset = c.requires.placed.byte_is ∙ ap (λ i. byte_at i source) index;
        counted = subst (AreStarts c.push.new.self.items source) index so_far;
      };
      before = subst (λ i. i ≤ k) index (le_refl k);
      so_far = so_far;
    }
