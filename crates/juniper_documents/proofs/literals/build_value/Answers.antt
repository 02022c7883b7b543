use Rattle.std.proofs.Common.{◌∙◌, sym}
use Rattle.std.specs.Prelude.{not}
use Rattle.std.proofs.lemmas.Result.{err_from_is_err_and}
use Rattle.juniper_tokens.specs.Taking.{left}
use Rattle.juniper_tree.specs.Scalars.{stated}
use Rattle.juniper_documents.proofs.LiteralAnswers.{value_alone, value_fails, value_refused}
use Rattle.juniper_documents.proofs.literals.build_value.Goals as goal

pub returns-in_err-value : goal.returns-in_err-value
returns-in_err-value g c =
    let p = err_from_is_err_and c.from_residual.result c.from_residual.ensures.1 in
    rw (p.1, p.2) (value_fails (stated g.S.ParseScalarValue.reading g.S.ScalarValue.of_bool) (not c.args.is_const)
    (g.B.Builder.builds_value c.args.builder.now c.parse_value.new.builder) (left c.args.tokens.now)
    (left c.parse_value.new.tokens) c.in_err-value.field-0.0 c.in_err-value.ensures.ended c.in_err-value.ensures.gives)

pub returns-then-next_is : goal.returns-then-next_is
returns-then-next_is g c = let made = c.in_ok-value.ensures.gives in (
  made.part,
  made.is_built,
  value_alone (stated g.S.ParseScalarValue.reading g.S.ScalarValue.of_bool) (not c.args.is_const)
      (left c.args.tokens.now) (left c.parse_value.new.tokens) made.part c.in_ok-value.ensures.ended made.reads
      c.next_is.ensures.ended (sym c.next_is.ensures.is ∙ c.if-next_is.true),
)

pub returns : goal.returns
returns g c =
    let made = c.in_ok-value.ensures.gives in
    value_refused (stated g.S.ParseScalarValue.reading g.S.ScalarValue.of_bool) (not c.args.is_const)
    (g.B.Builder.builds_value c.args.builder.now c.parse_value.new.builder) (left c.args.tokens.now)
    (left c.parse_value.new.tokens) (left c.refuse.new.self) made.part c.refuse.result c.in_ok-value.ensures.ended
    made.reads c.next_is.ensures.ended (sym c.next_is.ensures.is ∙ c.if-next_is.false) c.refuse.ensures.never
    c.refuse.ensures.gives
