use Rattle.std.proofs.Common.{ap, sym}
use Rattle.std.specs.Str.{chars}
use Rattle.juniper_values.specs.Escapes.{unescape, in_front}
use Rattle.juniper_values.proofs.escapes.numbered.Goals as goal

pub returns-clause-value : goal.returns-clause-value
returns-clause-value c =
    rw (c.in_ok-h.ensures.parts, c.in_ok-i.ensures.parts, c.in_ok-j.ensures.parts, c.in_ok-k.ensures.parts)
    (ap (λ d. in_front d (unescape (chars c.in_ok-k.rest.now))) (sym c.in_ok-unicode.ensures.value))
