use Rattle.std.proofs.Common.{◌∷◌, chars}
use Rattle.std.proofs.lemmas.Result.{on_ok_weaker}
use Rattle.gqlcheck_report.specs.Lines.{label_text}
use Rattle.gqlcheck_report.proofs.Growth.{grown, grown_none}
use Rattle.gqlcheck_report.proofs.lines.write_label.Goals as goal

pub returns-in-Unnamed : goal.returns-in-Unnamed
unfolding label_text
returns-in-Unnamed g c = rw c.in-Unnamed.is (grown_none _)

pub returns-in-Name : goal.returns-in-Name
unfolding label_text
returns-in-Name g c = rw c.in-Name.is c.write_name.ensures

pub returns-in-Text : goal.returns-in-Text
unfolding label_text
returns-in-Text g c = rw c.in-Text.is c.write_name-in-Text.ensures

pub returns-in_ok-write_name-in-Fragment : goal.returns-in_ok-write_name-in-Fragment
unfolding label_text
returns-in_ok-write_name-in-Fragment g c =
    let name = 32 ∷ chars c.in-Fragment.name.now.item.now in
    let condition = 32 ∷ chars c.in-Fragment.condition.now.item.now in
    rw c.in-Fragment.is
    (on_ok_weaker c.write_name-in-Fragment-2.result
    (λ e. grown _ _ _ name condition c.in_ok-write_name-in-Fragment.ensures e)
    c.write_name-in-Fragment-2.ensures)

pub returns-in-Type : goal.returns-in-Type
unfolding label_text
returns-in-Type g c = rw c.in-Type.is c.write_type.ensures
