-- What proofs of other crates may import of this crate's proofs, and all of it.
pub use Rattle.graphql_lexical.proofs.Answers.{finds_what_reads, misses_what_fails}
pub use Rattle.graphql_lexical.proofs.CanonicalSizes.{has_canonical_sizes}
pub use Rattle.graphql_lexical.proofs.Cuts.{cut_front, each_stands, leads_size, one_cut_or_break, reads_size, stands_size}
pub use Rattle.graphql_lexical.proofs.DeepTokens.{closed_push, crossed, deep_count, one_deep, opened_push, opening_no_end, opens}
pub use Rattle.graphql_lexical.proofs.Escapes.{counted_within, u_short}
pub use Rattle.graphql_lexical.proofs.Ignored.{ignored_is_longest}
pub use Rattle.graphql_lexical.proofs.Joints.{few_tokens}
pub use Rattle.graphql_lexical.proofs.Depths.{deeper_after, after_deeper, before_is, up_to_token, fronts_shallow}
pub use Rattle.graphql_lexical.proofs.NumberParts.{float_same, integer_same, name_same}
pub use Rattle.graphql_lexical.proofs.OneToken.{one_token, token_or_error}
pub use Rattle.graphql_lexical.proofs.Places.{place_after, place_push, steps_by_characters}
pub use Rattle.graphql_lexical.proofs.ReadByTexts.{from_reads_text}
pub use Rattle.graphql_lexical.proofs.Readings.{answer_finds, read_end, read_token, same_Ok}
pub use Rattle.graphql_lexical.proofs.Runs.{Stops, reach_is}
pub use Rattle.graphql_lexical.proofs.SameKind.{kind_is, other_kind}
pub use Rattle.graphql_lexical.proofs.Slices.{front_read, place_index, slices_in_order}
pub use Rattle.graphql_lexical.proofs.Spacing.{goes_on_spaced, last_next}
pub use Rattle.graphql_lexical.proofs.Streams.{cut_streams, stream_ends, whole_cut, DeeperFrom, ShallowFrom, Streams}
pub use Rattle.graphql_lexical.proofs.Spelled.{RunsAs, accepts, runs_as}
pub use Rattle.graphql_lexical.proofs.CutByTexts.{by_places, by_texts, breaks_by_places, stands_to_text, stands_from_text, there_to_text, done_whole, leads_whole, leads_from_text, leads_more, cut_leads, breaks_lead}
pub use Rattle.graphql_lexical.proofs.Wholes.{by_kind, spells_token, unquoted}
pub use Rattle.graphql_lexical.proofs.Widths.{IsWide, tokens_wide, tokens_in_order}
pub use Rattle.graphql_lexical.proofs.Writing.{writes_nothing, writes_token, writes_white}
