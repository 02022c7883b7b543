use Rattle.std.proofs.Common.{◌≡◌, ℕ, ◌+◌, ◌-◌, length, ap, ap₂, arith}
use Rattle.std.specs.Prelude.{string_bytes}
use Rattle.std.specs.Str.{chars}
use Rattle.std.proofs.lemmas.Iterator.{YieldsList-from_chars}
use Rattle.std.proofs.lemmas.Iterator.Consumers.{count_from_yields_List}
use Rattle.std.proofs.lemmas.Str.{encodes-chars, length-le-encodes}
use Rattle.firthnapkin_results.proofs.error.shown_of_lexical.Goals as goal

pub returns-in-UnknownEscapeSequence : goal.returns-in-UnknownEscapeSequence
returns-in-UnknownEscapeSequence c = λ l.
    let text = c.as_str.result.now in
    let count = count_from_yields_List c.chars.result c.count.result c.count.ensures.ran
    (YieldsList-from_chars text c.as_str.utf8 c.chars.ensures.rest) in
    let few = length-le-encodes (chars text) in
    let bytes = ap length (encodes-chars text c.as_str.utf8) in
    let size = ap (λ t. length (chars t)) c.as_str.ensures.value in
    let end : c.saturating_add.result ≡ (c.args.at - 1) + length
    (chars (string_bytes c.in-UnknownEscapeSequence.escape)) =
    omega (
      arith,
      l,
      c.saturating_add.ensures,
      c.saturating_sub-start.ensures,
      count,
      few,
      bytes,
      size,
      c.as_str.type_inv.1,
    ) in
    rw c.in-UnknownEscapeSequence.is
    (ap₂ (λ (s e : ℕ). record { start = s; end = e }) c.saturating_sub-start.ensures end)
