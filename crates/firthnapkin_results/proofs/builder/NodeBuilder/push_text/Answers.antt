use Rattle.std.proofs.Common.{subst, sym}
use Rattle.std.proofs.lemmas.Str.{encodes-chars}
use Rattle.firthnapkin_results.specs.Builders.{AddsText}
use Rattle.firthnapkin_results.proofs.builder.NodeBuilder.push_text.Goals as goal

pub returns : goal.returns
returns c =
    subst (AddsText c.args.self.now c.push_bytes.new.self) (sym (encodes-chars c.args.text.now c.utf8.text))
    (rw c.as_bytes.ensures.value at c.push_bytes.ensures)
