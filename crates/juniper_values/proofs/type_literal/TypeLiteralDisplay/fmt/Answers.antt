use Rattle.std.proofs.Common.{refl, ◌∙◌, ap, ◌≡◌}
use Rattle.std.specs.Str.{chars}
use Rattle.std.proofs.lemmas.Grind.{put_two}
use lib.Utf8.{encodes}
use Rattle.juniper_values.specs.TypeLiteral.{type_text}
use Rattle.juniper_values.proofs.Types.{type_text-bytes}
use Rattle.juniper_values.proofs.type_literal.TypeLiteralDisplay.fmt.Goals as goal

pub returns-clause-writes : goal.returns-clause-writes
returns-clause-writes g c p ok =
    let name_text = g.N.NameText.name_text in
    let first = c.in_ok-write_openings.ensures p refl in
    let second = c.in_ok-write_text.ensures first.plain refl in
    let rest = put_two _ _ _ _ _ _ _ second (c.write_closings.ensures second.plain ok) refl in
    let same : type_text (chars c.text.result.now) c.as_slice-modifiers.result.now
    ≡ type_text (name_text c.args.self.now.name) c.args.self.now.modifiers =
    (λ i. type_text (c.text.ensures i) (c.as_slice-modifiers.ensures i))
    ∙ ap (λ s. type_text (name_text s.name) s.modifiers) c.self.view_is in
    put_two _ _ _ _ _ _ _ first rest (type_text-bytes (chars c.text.result.now) c.as_slice-modifiers.result.now
    ∙ ap encodes same)
