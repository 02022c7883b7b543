use Rattle.std.proofs.Common.{refl, sym}
use Rattle.std.proofs.lemmas.Grind.{put_two}
use Rattle.std.proofs.lemmas.Str.{encodes-append}
use Rattle.std.specs.Str.{chars}
use Rattle.juniper_values.specs.ScalarDisplay.{wanted_text, scalar_display}
use Rattle.juniper_values.proofs.scalar.WrongInputScalarTypeErrorDisplay.fmt.Goals as goal

pub returns-clause-writes : goal.returns-clause-writes
returns-clause-writes g c p ok =
    let first = c.in_ok-write_wanted.ensures p refl in
    put_two _ _ _ _ _ _ _ first (c.write_scalar.ensures first.plain ok)
    (sym (encodes-append (wanted_text (chars c.args.self.now.type_name.now))
    (scalar_display g.S.ParseScalarValue.content g.S.ScalarValue.str_in g.S.ScalarValue.shown
    c.args.self.now.input.now)))
