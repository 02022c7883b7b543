use Rattle.std.proofs.Common.{◌∙◌, sym, refl, drop, [], ◌∷◌, ◌++◌}
use Rattle.std.proofs.lemmas.Result.{err_from_is_err_and}
use Rattle.juniper_tokens.specs.Taking.{left}
use Rattle.juniper_tokens.proofs.Public.{goes_further, stays}
use Rattle.juniper_parser.proofs.Public.{each_more}
use Rattle.juniper_documents.proofs.Documents.{go_on, end, fail}
use Rattle.juniper_parser.proofs.Public.{before_none}
use Rattle.juniper_documents.proofs.document.parts.build_definitions.Goals as goal

pub loop-definitions-init : goal.loop-definitions-init
loop-definitions-init g c = record {
  parts = [];
  so_far = before_none _;
  built = rw c.none-definitions.ensures refl;
  goes = stays _;
}

pub returns-in_err-definition-clause-gives : goal.returns-in_err-definition-clause-gives
returns-in_err-definition-clause-gives g c =
    let p = err_from_is_err_and c.from_residual.result c.from_residual.ensures.1 in
    rw (p.1, p.2) (
      left c.parse_definition.new.tokens,
      (
        c.in_err-definition.field-0.0,
        refl,
        fail _ _ _ c.loop-definitions.invariant.so_far c.in_err-definition.field-0.0 _ c.in_err-definition.ensures.gives,
      ),
    )

pub returns-then-is_last-clause-gives : goal.returns-then-is_last-clause-gives
returns-then-is_last-clause-gives g c = let made = c.in_ok-definition.ensures.gives in (
  drop 1 (left c.parse_definition.new.tokens),
  record {
    part = c.loop-definitions.invariant.parts ++ made.part ∷ [];
    reads = end _ _ _ c.loop-definitions.invariant.so_far made.reads c.next_is-is_last.ensures.ended
        (sym c.next_is-is_last.ensures.is ∙ c.if-is_last.true);
    is_built = rw c.in_ok-gather.ensures
        (each_more g.B.Builder.builds_definition _ _ _ _ _ _ _ c.loop-definitions.invariant.built made.is_built);
  },
)

pub returns-then-is_last-clause-on : goal.returns-then-is_last-clause-on
returns-then-is_last-clause-on g c = goes_further _ _ _ c.loop-definitions.invariant.goes c.in_ok-definition.ensures.on

pub loop-definitions-preserved : goal.loop-definitions-preserved
loop-definitions-preserved g c = let made = c.in_ok-definition.ensures.gives in record {
  parts = c.loop-definitions.invariant.parts ++ made.part ∷ [];
  so_far = go_on _ _ _ c.loop-definitions.invariant.so_far made.reads c.next_is-is_last.ensures.ended
      (sym c.next_is-is_last.ensures.is ∙ c.if-is_last.false);
  built = rw c.in_ok-gather.ensures
      (each_more g.B.Builder.builds_definition _ _ _ _ _ _ _ c.loop-definitions.invariant.built made.is_built);
  goes = goes_further _ _ _ c.loop-definitions.invariant.goes c.in_ok-definition.ensures.on;
}
