use Rattle.std.proofs.Common.{ℕ, List, not, subst}
use Rattle.graphql_grammar.specs.Grammar.{IsLocated, IsValue}
use Rattle.graphql_nodes.specs.Nodes.{value_nodes}
use Rattle.graphql_nodes.proofs.Public.{value_has_nodes}
use Rattle.firthnapkin_results.specs.Answers.{scalars}
use Rattle.firthnapkin_results.specs.Literals.{IsDeepValue, IsOneValue, IsValueError, ReturnsValue}
use Rattle.firthnapkin_results.proofs.Bounds.{lengths_within}
use Rattle.firthnapkin_results.proofs.Sources.{literal_read}
use Rattle.firthnapkin_results.proofs.literal.write_value_nodes.Goals as goal

pub returns-clause-answer : goal.returns-clause-answer
returns-clause-answer c = subst (λ (t : List ℕ). ReturnsValue (not c.args.is_const) t c.args.limits.now c.args.nodes.now
    c.write_value_of_text.new.nodes c.args.texts.now c.write_value_of_text.new.texts c.write_value_of_text.result)
    c.in_ok-text_of.ensures.text.0 c.write_value_of_text.ensures

pub returns-clause-bounds : goal.returns-clause-bounds
returns-clause-bounds c =
    let free = not c.args.is_const in
    lengths_within (IsLocated (IsValue scalars free)) value_nodes (value_has_nodes scalars free) (IsOneValue free)
    (IsValueError free) (IsDeepValue free) (literal_read (IsLocated (IsValue scalars free))) c.args.source.now
    c.args.limits.now c.args.nodes.now c.write_value_of_text.new.nodes c.args.texts.now c.write_value_of_text.new.texts
    c.write_value_of_text.result
    (subst (λ (t : List ℕ). ReturnsValue free t c.args.limits.now c.args.nodes.now c.write_value_of_text.new.nodes
    c.args.texts.now c.write_value_of_text.new.texts c.write_value_of_text.result) c.in_ok-text_of.ensures.text.0
    c.write_value_of_text.ensures)
