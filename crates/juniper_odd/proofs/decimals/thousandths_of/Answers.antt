use Rattle.std.proofs.Common.{sym, ◌∙◌, subst, List, ℕ}
use Rattle.std.specs.Str.Parse.{ParsesSigned}
use mir.Syntax.{w64}
use Rattle.juniper_odd.proofs.Numbers.{read}
use Rattle.juniper_odd.proofs.decimals.thousandths_of.Goals as goal

pub returns : goal.returns
returns c =
    let before = c.args.whole.now in
    let after = c.args.fraction.now in
    c.ok.ensures.value ∙ read before after c.parse.result (sym c.is_decimal.ensures ∙ c.if-not-is_decimal.false)
    (subst (λ (digits : List ℕ). ParsesSigned w64 10 digits c.parse.result) (c.deref.ensures ∙ c.in_ok-digits.ensures)
    c.parse.ensures.value.0)
