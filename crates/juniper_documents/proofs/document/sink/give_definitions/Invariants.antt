-- What has come, and then what is read from here, is what is read in all.
use Rattle.std.proofs.Common.{◌≡◌, List, length}
use Rattle.graphql_grammar.specs.Tree.{Definition}
use Rattle.graphql_grammar.specs.device.Productions.{document}
use Rattle.juniper_values.specs.Scalar.{Content}
use Rattle.juniper_tokens.specs.Taking.{left}
use Rattle.juniper_tree.specs.Scalars.{stated}
use Rattle.juniper_documents.specs.Sinks.{Gains}
use Rattle.juniper_parser.specs.device.Steps.{cursor}
use Rattle.juniper_parser.proofs.Public.{before_others}
use Rattle.juniper_documents.proofs.Sinks.{WereRead}
use Rattle.juniper_documents.proofs.document.sink.give_definitions.Given as goal

abbrev pub invariant-loop-tokens : goal.invariant-loop-tokens
invariant-loop-tokens g l =
    let S = stated g.S.ParseScalarValue.reading g.S.ScalarValue.of_bool in
    let read = cursor S document in record {
      front : List (Definition Content);
      so_far : before_others front (read (left l.tokens)) ≡ read (left l.fn.tokens);
      gains : Gains g.D.DefinitionSink.holds l.initial.definitions l.definitions front;
      were_read : WereRead S (left l.fn.tokens) (left l.tokens) front;
    }

abbrev pub decreases-loop-tokens : goal.decreases-loop-tokens
decreases-loop-tokens g l = length (left l.tokens)
