use Rattle.std.proofs.Common.{◌∙◌, ◌≡◌, refl, sym}
use Rattle.std.proofs.lemmas.Result.{err_from_is_err_and}
use Rattle.juniper_tokens.specs.Taking.{left}
use Rattle.juniper_tree.specs.View.{view_spanned_type}
use Rattle.juniper_documents.proofs.LiteralAnswers.{type_alone, type_fails, type_refused}
use Rattle.juniper_documents.proofs.literals.read_type.Goals as goal

pub returns-in_err-of_type : goal.returns-in_err-of_type
returns-in_err-of_type c =
    let p = err_from_is_err_and c.from_residual.result c.from_residual.ensures.1 in
    rw (p.1, p.2) (type_fails (λ x y. y ≡ view_spanned_type x) (left c.args.tokens.now)
    (left c.parse_any_type.new.tokens) c.in_err-of_type.field-0.0 c.in_err-of_type.ensures.ended
    c.in_err-of_type.ensures.gives)

pub returns-then-next_is : goal.returns-then-next_is
returns-then-next_is c = (
  view_spanned_type c.in_ok-of_type.of_type,
  refl,
  type_alone (left c.args.tokens.now) (left c.parse_any_type.new.tokens) (view_spanned_type c.in_ok-of_type.of_type)
      c.in_ok-of_type.ensures.ended c.in_ok-of_type.ensures.gives c.next_is.ensures.ended
      (sym c.next_is.ensures.is ∙ c.if-next_is.true),
)

pub returns : goal.returns
returns c =
    type_refused (λ x y. y ≡ view_spanned_type x) (left c.args.tokens.now) (left c.parse_any_type.new.tokens)
    (left c.refuse.new.self) (view_spanned_type c.in_ok-of_type.of_type) c.refuse.result c.in_ok-of_type.ensures.ended
    c.in_ok-of_type.ensures.gives c.next_is.ensures.ended (sym c.next_is.ensures.is ∙ c.if-next_is.false)
    c.refuse.ensures.never c.refuse.ensures.gives
