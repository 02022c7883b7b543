use Rattle.std.proofs.Common.{rules, ◌∙◌, refl, sym, ap, Ok, Some, List, [], ◌∷◌, ◌++◌}
use Rattle.std.proofs.lemmas.Result.{err_from_is_err_and}
use Rattle.graphql_grammar.specs.Tokens.{Located}
use Rattle.graphql_grammar.specs.Tree.{Directive, Directives}
use Rattle.graphql_grammar.specs.device.Productions.{directives_of, directives}
use Rattle.juniper_tokens.specs.Cursor.{Read, ◌>>=◌}
use Rattle.juniper_tokens.specs.Taking.{left}
use Rattle.juniper_tokens.proofs.Public.{goes_further, stays}
use Rattle.juniper_values.specs.Scalar.{Content}
use Rattle.juniper_parser.proofs.Building.{each_more}
use Rattle.juniper_parser.proofs.Directives.{some_directives}
use Rattle.juniper_parser.proofs.Loops.{before_none, before_go_on, before_end, before_fail, after_fails}
use Rattle.juniper_parser.proofs.Readings.{directives_repeat}
use Rattle.juniper_parser.proofs.parser.directives.parse_directive_list.Goals as goal

pub loop-items-init : goal.loop-items-init
loop-items-init g c = record {
  parts = [];
  so_far = before_none _;
  built = rw c.none-items.ensures refl;
  not_longer = search rules;
  on = stays _;
  at = c.requires.at;
  ended = c.requires.ended;
}

pub returns-in_err-directive-clause-gives : goal.returns-in_err-directive-clause-gives
unfolding directives
returns-in_err-directive-clause-gives g c =
    let p = err_from_is_err_and c.from_residual.result c.from_residual.ensures.1 in
    rw (p.1, p.2) (after_fails c.in_err-directive.field-0.0 _ _ _
    (before_fail (directives_repeat _) _ _ c.loop-items.invariant.ended c.loop-items.invariant.so_far
    c.loop-items.invariant.at c.in_err-directive.field-0.0 _ c.in_err-directive.ensures.gives))

pub loop-items-preserved : goal.loop-items-preserved
loop-items-preserved g c = let made = c.in_ok-directive.ensures.gives in record {
  parts = c.loop-items.invariant.parts ++ made.part ∷ [];
  so_far = before_go_on (directives_repeat _) _ _ c.loop-items.invariant.ended c.loop-items.invariant.so_far
      c.loop-items.invariant.at made.reads;
  built = rw c.in_ok-gather.ensures
      (each_more g.B.Builder.builds_directive _ _ _ _ _ _ _ c.loop-items.invariant.built made.is_built);
  not_longer = search rules;
  on = goes_further _ _ _ c.loop-items.invariant.on c.in_ok-directive.ensures.on;
  at = sym c.next_is-has_more.ensures.is ∙ c.if-not-has_more.false;
  ended = c.next_is-has_more.ensures.ended;
}

pub returns-then-not-has_more-clause-gives : goal.returns-then-not-has_more-clause-gives
unfolding directives
returns-then-not-has_more-clause-gives g c =
    let made = c.in_ok-directive.ensures.gives in
    let none = sym c.next_is-has_more.ensures.is ∙ c.if-not-has_more.true in
    let so_far = before_go_on (directives_repeat _) _ _ c.loop-items.invariant.ended c.loop-items.invariant.so_far
    c.loop-items.invariant.at made.reads in record {
      part = Some (c.loop-items.invariant.parts ++ made.part ∷ []);
      reads = ap (λ (r : Read (List (Located (Directive Content)))). r >>= λ ds. Ok (directives_of ds.0, ds.1))
          (before_end (directives_repeat _) _ _ c.next_is-has_more.ensures.ended so_far none)
          ∙ ap (λ (o : Directives Content). Ok (o, left c.parse_directive.new.tokens))
          (some_directives c.loop-items.invariant.parts made.part);
      is_built = rw c.in_ok-gather.ensures
          (each_more g.B.Builder.builds_directive _ _ _ _ _ _ _ c.loop-items.invariant.built made.is_built);
    }
