use Rattle.std.proofs.Common.{refl}
use Rattle.std.proofs.lemmas.Grind.{put_two}
use Rattle.juniper_values.proofs.Displays.{key-bytes}
use Rattle.juniper_values.proofs.input_value.display.write_key.Goals as goal

pub returns : goal.returns
returns g c p ok =
    let first = c.in_ok-write_text.ensures p refl in
    put_two _ _ _ _ _ _ _ first (c.write_str.ensures.writes first.plain ok)
    (key-bytes c.args.key.now _ c.as_str.ensures.value)
