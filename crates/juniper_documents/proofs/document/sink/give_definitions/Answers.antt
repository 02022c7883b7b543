use Rattle.std.proofs.Common.{◌∙◌, sym, [], ◌∷◌, ◌++◌, drop}
use Rattle.graphql_grammar.specs.device.Productions.{document}
use Rattle.std.proofs.lemmas.Result.{err_from_is_err_and}
use Rattle.juniper_tokens.specs.Taking.{left}
use Rattle.juniper_tree.specs.Scalars.{stated}
use Rattle.juniper_tree.specs.View.{view_definition}
use Rattle.juniper_parser.specs.device.Steps.{cursor}
use Rattle.juniper_parser.proofs.Public.{before_none}
use Rattle.juniper_documents.proofs.Documents.{go_on, end, fail}
use Rattle.juniper_documents.proofs.Sinks.{grown, grown_none, grown_still, none_read, one_more_read, read_before_end}
use Rattle.juniper_documents.proofs.document.sink.give_definitions.Goals as goal

pub loop-tokens-init : goal.loop-tokens-init
loop-tokens-init g c =
    let S = stated g.S.ParseScalarValue.reading g.S.ScalarValue.of_bool in record {
      front = [];
      so_far = before_none (cursor S document (left c.args.tokens.now));
      gains = grown_none g.D.DefinitionSink.holds c.args.definitions.now;
      were_read = none_read S (left c.args.tokens.now);
    }

pub loop-tokens-preserved : goal.loop-tokens-preserved
loop-tokens-preserved g c =
    let S = stated g.S.ParseScalarValue.reading g.S.ScalarValue.of_bool in
    let l = c.loop-tokens in
    let read = c.in_ok-parse_definition_tree in
    let ended = c.next_is.ensures.ended in record {
      front = l.invariant.front ++ view_definition g.S.ParseScalarValue.content read.field-0 ∷ [];
      so_far = go_on _ _ _ l.invariant.so_far read.ensures.gives ended (sym c.next_is.ensures.is ∙ c.if-next_is.false);
      gains = grown g.D.DefinitionSink.holds l.invariant.gains c.in_ok-take.ensures.taken;
      were_read = one_more_read S _ _ l.invariant.were_read read.ensures.gives ended;
    }

pub returns-in_err-parse_definition_tree : goal.returns-in_err-parse_definition_tree
returns-in_err-parse_definition_tree g c =
    let S = stated g.S.ParseScalarValue.reading g.S.ScalarValue.of_bool in
    let l = c.loop-tokens in
    let p = err_from_is_err_and c.from_residual.result c.from_residual.ensures.1 in
    let failed = c.in_err-parse_definition_tree in record {
      answer = rw (p.1, p.2) (
        left c.parse_definition_tree.new.tokens,
        fail _ _ _ l.invariant.so_far failed.field-0.0 _ failed.ensures.gives,
      );
      given = record {
        given = l.invariant.front;
        gains = l.invariant.gains;
        in_front = read_before_end S l.invariant.were_read;
      };
    }

pub returns-in_err-take-clause-given : goal.returns-in_err-take-clause-given
returns-in_err-take-clause-given g c =
    let S = stated g.S.ParseScalarValue.reading g.S.ScalarValue.of_bool in
    let l = c.loop-tokens in record {
      given = l.invariant.front;
      gains = grown_still g.D.DefinitionSink.holds l.invariant.gains c.in_err-take.ensures.kept;
      in_front = read_before_end S l.invariant.were_read;
    }

pub returns-then-next_is : goal.returns-then-next_is
returns-then-next_is g c =
    let S = stated g.S.ParseScalarValue.reading g.S.ScalarValue.of_bool in
    let l = c.loop-tokens in
    let read = c.in_ok-parse_definition_tree in
    let ended = c.next_is.ensures.ended in
    let given = l.invariant.front ++ view_definition g.S.ParseScalarValue.content read.field-0 ∷ [] in
    let gains = grown g.D.DefinitionSink.holds l.invariant.gains c.in_ok-take.ensures.taken in record {
      answer = (
        given,
        drop 1 (left c.parse_definition_tree.new.tokens),
        end _ _ _ l.invariant.so_far read.ensures.gives ended (sym c.next_is.ensures.is ∙ c.if-next_is.true),
        gains,
      );
      given = record {
        given = given;
        gains = gains;
        in_front = read_before_end S (one_more_read S _ _ l.invariant.were_read read.ensures.gives ended);
      };
    }
