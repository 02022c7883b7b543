-- What proofs of other crates may import of this crate's proofs, and all of it.
pub use Rattle.graphql_grammar.proofs.Answered.{closed_answer, each_answer, many_law, reads_answer, repeats_law, selections_answer, types_answer, values_answer}
pub use Rattle.graphql_grammar.proofs.TooDeep.{too_deep_after, after_too_deep}
pub use Rattle.graphql_grammar.proofs.Depths.{TellsDepth, t_goes_on, front_is, middle_of, short_ends, short_no_document, short_spelled, short_tells}
pub use Rattle.graphql_grammar.proofs.DocumentRules.{IsNullable, IsSpannedType, argument_rule, argument_takes, directive_rule, directive_takes, list_nullable, name_nullable, variable_definition_rule, variable_takes}
pub use Rattle.graphql_grammar.proofs.Elements.{all_each}
pub use Rattle.graphql_grammar.proofs.Faulty.{same_parts}
pub use Rattle.graphql_grammar.proofs.Begun.{document_or_refused, refused_in_text}
pub use Rattle.graphql_grammar.proofs.Found.{value_found}
pub use Rattle.graphql_grammar.proofs.Fuel.{Answers, settled}
pub use Rattle.graphql_grammar.proofs.Given.{document_given, type_given, value_given}
pub use Rattle.graphql_grammar.proofs.Errors.{document_error, document_error_alike, document_fault, document_or_error, one_document_error, type_error, value_error}
pub use Rattle.graphql_grammar.proofs.OneFault.{document_alike, document_or_fault}
pub use Rattle.graphql_grammar.proofs.OtherScalars.{document}
pub use Rattle.graphql_grammar.proofs.ReadScalars.{document_is_read}
pub use Rattle.graphql_grammar.proofs.Readers.{one_document}
pub use Rattle.graphql_grammar.proofs.Rules.{Rule}
pub use Rattle.graphql_grammar.proofs.SelectionRules.{definition_rule, definition_takes, document_rule, selection_rule, selection_takes}
pub use Rattle.graphql_grammar.proofs.Sequences.{back_takes, front_takes, is_takes, name_in, row, row_as, row_back, row_front, row_map, row_right, says_takes, token_in, token_is}
pub use Rattle.graphql_grammar.proofs.EndParts.{end_parts}
pub use Rattle.graphql_grammar.proofs.Spelling.{cut_ends, cut_spelled}
pub use Rattle.graphql_grammar.proofs.TokenTests.{of_kind}
pub use Rattle.graphql_grammar.proofs.Values.{IsField, field_rule, field_takes, value_rule, value_takes}
