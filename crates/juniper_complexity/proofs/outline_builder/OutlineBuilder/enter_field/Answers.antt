use Rattle.std.proofs.Common.{◌≡◌, ◌∙◌, ◌+◌, ℕ, List, Option, ap, max, refl, arith}
use Rattle.std.specs.Borrow.{Bor}
use Rattle.std.specs.Prelude.{option_map}
use Rattle.juniper_tree.specs.View.{view_word}
use Rattle.juniper_tokens.specs.declared.span.Spanning.{Spanning}
use Rattle.juniper_outlines.specs.Complexities.{capped}
use Rattle.juniper_complexity.specs.Parts.{alias_count}
use Rattle.juniper_outlines.specs.declared.complexity.Complexity.{Complexity}
use Rattle.juniper_complexity.specs.declared.outline_builder.OutlineBuilder.{OutlineBuilder}
use Rattle.juniper_complexity.proofs.Algebra.{same_complexity, capped_suc}
use Rattle.juniper_complexity.proofs.EnteredFields.{entered, entered_field, no_root, root_count}
use Rattle.juniper_complexity.proofs.outline_builder.OutlineBuilder.enter_field.Goals as goal
use Rattle.juniper_complexity.proofs.outline_builder.OutlineBuilder.enter_field.Goals.{in-None, in-Some}
use Rattle.juniper_complexity.proofs.outline_builder.OutlineBuilder.enter_field.Goals.{then-around-eq0}
use Rattle.juniper_complexity.proofs.outline_builder.OutlineBuilder.enter_field.Goals.{else-around-eq0}
use Rattle.juniper_complexity.proofs.outline_builder.OutlineBuilder.enter_field.Goals.{then-self-level}
use Rattle.juniper_complexity.proofs.outline_builder.OutlineBuilder.enter_field.Goals.{else-self-level}

pub returns-clause-opens : goal.returns-clause-opens
returns-clause-opens c = record {
  own_complexity = λ l x k e.
      let around = c.args.self.now.level in
      let word = option_map view_word c.args.alias.now in
      let own = c.args.self.now.own in
      let one = c.match-alias.self.own in
      let two = c.if-around-eq0.self.own in
      let few = ap (λ (z : Complexity). z.aliases) e in
      let roots = ap (λ (z : Complexity). z.root_fields) e in
      let count = λ (o : Option (Spanning (Bor (List ℕ)))). alias_count (option_map view_word o) in
      let first : one ≡
      record own { fields = capped (own.fields + 1); aliases = capped (own.aliases + alias_count word) } =
      elim c.match-alias.branch [
        | in-None w ↦
            let no : alias_count word ≡ 0 = ap count w.in-None.is in
            ap (λ (z : OutlineBuilder). z.own) w.self-is
            ∙ same_complexity _ _ c.saturating_add-self.ensures (omega (arith, no, few)) refl refl refl
        | in-Some w ↦
            let more : alias_count word ≡ 1 = ap count w.in-Some.is in
            let sum = w.saturating_add-self-in-Some.ensures in
            ap (λ (z : OutlineBuilder). z.own) w.self-is
            ∙ same_complexity _ _ c.saturating_add-self.ensures (omega (arith, more, sum)) refl refl refl
      ] in
      let second : two ≡ record one { root_fields = capped (one.root_fields + root_count around) } =
      elim c.if-around-eq0.branch [
        | then-around-eq0 w ↦
            let more : root_count around ≡ 1 = ap root_count w.if-around-eq0.true in
            let sum = w.saturating_add-self-then-around-eq0.ensures in
            ap (λ (z : OutlineBuilder). z.own) w.self-is
            ∙ same_complexity _ _ refl refl refl (omega (arith, more, sum)) refl
        | else-around-eq0 w ↦
            let no = no_root around w.if-around-eq0.false in
            let same = ap (λ (z : Complexity). z.root_fields) first in
            ap (λ (z : OutlineBuilder). z.own) w.self-is
            ∙ same_complexity _ _ refl refl refl (omega (arith, no, same, roots)) refl
      ] in
      let deeper = c.saturating_add-level.ensures in
      let third : c.if-self-level.self.own ≡ record two { depth = max two.depth (capped (around + 1)) } =
      elim c.if-self-level.branch [
        | then-self-level w ↦
            let is = w.if-self-level.true in
            ap (λ (z : OutlineBuilder). z.own) w.self-is
            ∙ same_complexity _ _ refl refl refl refl (omega (arith, is, deeper))
        | else-self-level w ↦
            let is = w.if-self-level.false in
            ap (λ (z : OutlineBuilder). z.own) w.self-is
            ∙ same_complexity _ _ refl refl refl refl (omega (arith, is, deeper))
      ] in
      third ∙ (ap (λ (z : Complexity). record z { depth = max z.depth (capped (around + 1)) }) (second
      ∙ ap (λ (z : Complexity). record z { root_fields = capped (z.root_fields + root_count around) }) first)
      ∙ (ap (entered around word) e ∙ entered_field x around l word k));
  deeper = λ l k. c.saturating_add-level.ensures ∙ capped_suc c.args.self.now.level l k;
  same_spreads =
      let one : c.match-alias.self.spreads ≡ c.args.self.now.spreads =
      elim c.match-alias.branch [
        | in-None w ↦ ap (λ (z : OutlineBuilder). z.spreads) w.self-is
        | in-Some w ↦ ap (λ (z : OutlineBuilder). z.spreads) w.self-is
      ] in
      let two : c.if-around-eq0.self.spreads ≡ c.match-alias.self.spreads =
      elim c.if-around-eq0.branch [
        | then-around-eq0 w ↦ ap (λ (z : OutlineBuilder). z.spreads) w.self-is
        | else-around-eq0 w ↦ ap (λ (z : OutlineBuilder). z.spreads) w.self-is
      ] in
      let three : c.if-self-level.self.spreads ≡ c.if-around-eq0.self.spreads =
      elim c.if-self-level.branch [
        | then-self-level w ↦ ap (λ (z : OutlineBuilder). z.spreads) w.self-is
        | else-self-level w ↦ ap (λ (z : OutlineBuilder). z.spreads) w.self-is
      ] in
      three ∙ (two ∙ one);
}
