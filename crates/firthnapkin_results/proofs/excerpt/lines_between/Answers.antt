use Rattle.std.proofs.Common.{◌∙◌, refl}
use Rattle.std.specs.Str.{chars}
use Rattle.firthnapkin_results.specs.device.Excerpts.{text_in}
use Rattle.firthnapkin_results.proofs.AroundPositions.{same_made, around_is}
use Rattle.firthnapkin_results.proofs.excerpt.lines_between.Goals as goal

pub returns-clause-around : goal.returns-clause-around
returns-clause-around c =
    same_made c.line_and_column-number.ensures.line c.line_and_column-number.ensures.column refl c.joined.ensures refl
    ∙ around_is (chars c.args.before.now) (chars c.last_line.result.1.now) (chars c.args.after.now)
    (chars c.first_line.result.0.now) (text_in c.last_line.result.0) (text_in c.first_line.result.1)
    (text_in c.line_above.result) (text_in c.line_below.result) c.last_line.ensures c.first_line.ensures
    c.line_above.ensures c.line_below.ensures
