use Rattle.std.proofs.Common.{string_bytes, sym}
use Rattle.std.proofs.lemmas.Map.Text.{is_eq-slice_cmp}
use Rattle.juniper_answers.proofs.laws.names_agree.Goals as goal

pub returns-clause-equal : goal.returns-clause-equal
returns-clause-equal c = λ a b. sym (is_eq-slice_cmp (string_bytes a.text) (string_bytes b.text))
