use Rattle.juniper_parser.proofs.Names.{says_true, says_false, says_null}
use Rattle.juniper_parser.proofs.parser.value.value_of_name.Goals as goal

pub returns-then-same_text : goal.returns-then-same_text
returns-then-same_text g c = rw (
  ← c.as_str-text.ensures,
  says_true _ _ _ c.same_text.ensures c.if-same_text.true,
  ← c.from_bool.ensures,
) c.scalar.ensures

pub returns-then-same_text-2 : goal.returns-then-same_text-2
returns-then-same_text-2 g c = rw (
  ← c.as_str-text.ensures,
  says_true _ _ _ c.same_text.ensures c.if-same_text.false,
  says_false _ _ _ c.same_text-else-same_text.ensures c.if-same_text-2.true,
  ← c.from_bool-then-same_text-2.ensures,
) c.scalar-then-same_text-2.ensures

pub returns-then-same_text-3 : goal.returns-then-same_text-3
returns-then-same_text-3 g c = rw (
  ← c.as_str-text.ensures,
  says_true _ _ _ c.same_text.ensures c.if-same_text.false,
  says_false _ _ _ c.same_text-else-same_text.ensures c.if-same_text-2.false,
  says_null _ _ _ c.same_text-else-same_text-2.ensures c.if-same_text-3.true,
) c.null.ensures

pub returns-else-same_text-3 : goal.returns-else-same_text-3
returns-else-same_text-3 g c = rw (
  ← c.as_str-text.ensures,
  says_true _ _ _ c.same_text.ensures c.if-same_text.false,
  says_false _ _ _ c.same_text-else-same_text.ensures c.if-same_text-2.false,
  says_null _ _ _ c.same_text-else-same_text-2.ensures c.if-same_text-3.false,
  c.as_str-text.ensures,
) c.enum_value.ensures
