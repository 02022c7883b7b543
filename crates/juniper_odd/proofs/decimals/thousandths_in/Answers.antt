use Rattle.std.proofs.Common.{arith, subst, ◌≡◌, Some, None, Option, ℤ, IfOk}
use Rattle.std.proofs.lemmas.Str.Pattern.{split_parts}
use Rattle.juniper_odd.proofs.Parts.{of_parts, of_no_point}
use Rattle.juniper_odd.proofs.decimals.thousandths_in.Goals as goal

pub returns-in-None : goal.returns-in-None
returns-in-None c = of_no_point c.args.text.now c.utf8.text
    (split_parts 46 c.args.text.now None c.in-None.ensures.cases (omega arith))

pub returns-in-Some : goal.returns-in-Some
returns-in-Some c =
    let parts = split_parts 46 c.args.text.now (Some (c.in-Some.whole, c.in-Some.fraction)) c.in-Some.ensures.cases
    (omega arith) in
    subst (λ (n : Option ℤ). IfOk c.thousandths_of.result (λ number. number ≡ n))
    (of_parts c.args.text.now c.in-Some.whole.now c.in-Some.fraction.now c.utf8.text parts.0 parts.1)
    c.thousandths_of.ensures
