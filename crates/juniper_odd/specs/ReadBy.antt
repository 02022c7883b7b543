-- A scalar of the default type that is read in another way.
use Rattle.juniper_values.specs.Scalar.{Content}
use Rattle.juniper_values.specs.Default.{default_content}
use Rattle.juniper_odd.specs.declared.read_by.ReadBy.{ReadBy}

abbrev pub held_content : {R : Type 0} → ReadBy R → Content
held_content s = default_content s.scalar
