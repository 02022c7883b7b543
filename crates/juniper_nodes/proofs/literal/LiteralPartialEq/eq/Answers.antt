use Rattle.std.proofs.Common.{◌∙◌, ◌&&◌, sym, ap}
use Rattle.std.specs.Ordering.{int_eq}
use Rattle.juniper_values.specs.View.{text_of}
use Rattle.juniper_nodes.proofs.Literals.{same_texts, same_meant}
use Rattle.juniper_nodes.proofs.literal.LiteralPartialEq.eq.Goals as goal

pub returns-in-Int-Int : goal.returns-in-Int-Int
returns-in-Int-Int c =
    let a = c.in-Int-Int.a in
    let b = c.in-Int-Int.b in
    rw (c.in-Int-Int.is-0, c.in-Int-Int.is-1)
    (c.same_int.ensures ∙ sym (ap (λ r. int_eq a.value b.value && r)
    (same_texts (text_of a.written) (text_of b.written))))

pub returns-in-LargeInt-LargeInt : goal.returns-in-LargeInt-LargeInt
returns-in-LargeInt-LargeInt c =
    rw (c.in-LargeInt-LargeInt.is-0, c.in-LargeInt-LargeInt.is-1)
    (c.same_string.ensures ∙ sym (same_texts (text_of c.in-LargeInt-LargeInt.a) (text_of c.in-LargeInt-LargeInt.b)))

pub returns-in-Float-Float : goal.returns-in-Float-Float
returns-in-Float-Float c =
    rw (c.in-Float-Float.is-0, c.in-Float-Float.is-1)
    (c.same_string-in-Float-Float.ensures ∙ sym (same_texts (text_of c.in-Float-Float.a) (text_of c.in-Float-Float.b)))

pub returns-in-String-String : goal.returns-in-String-String
returns-in-String-String c =
    let a = c.in-String-String.a in
    let b = c.in-String-String.b in
    rw (c.in-String-String.is-0, c.in-String-String.is-1)
    (c.same_literal.ensures ∙ sym (same_meant (text_of a.written) (text_of b.written) (text_of a.value)
    (text_of b.value)))

pub returns-in-BlockString-BlockString : goal.returns-in-BlockString-BlockString
returns-in-BlockString-BlockString c =
    let a = c.in-BlockString-BlockString.a in
    let b = c.in-BlockString-BlockString.b in
    rw (c.in-BlockString-BlockString.is-0, c.in-BlockString-BlockString.is-1)
    (c.same_literal-in-BlockString-BlockString.ensures
    ∙ sym (same_meant (text_of a.written) (text_of b.written) (text_of a.value) (text_of b.value)))
