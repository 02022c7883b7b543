use Rattle.std.proofs.Common.{◌∙◌, length, ap, arith}
use Rattle.std.proofs.lemmas.List.{take_all}
use Rattle.firthnapkin_results.specs.ByteTables.{starts_in}
use Rattle.firthnapkin_results.proofs.Bytes.{ascii_bytes, starts_whole}
use Rattle.firthnapkin_results.proofs.byte_table.ByteTable.new.Goals as goal

pub returns-then-is_ascii : goal.returns-then-is_ascii
returns-then-is_ascii c = ascii_bytes c.args.source.now (rw c.if-is_ascii.true at c.is_ascii.ensures.cases)

pub returns : goal.returns
returns c =
    let source = c.args.source.now in
    let bytes = c.as_bytes-bytes in
    let starts = c.push_starts.new.starts.items in
    let whole = take_all (length bytes.result.now) bytes.result.now (omega arith) ∙ bytes.ensures.value in
    starts_whole source starts c.utf8.source (c.push_starts.ensures.begun ∙ ap (starts_in 0) whole)
