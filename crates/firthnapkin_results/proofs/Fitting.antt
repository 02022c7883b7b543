-- The numbers that C gets of a source of less than 4 GiB fit in 32 bits.
use Rattle.std.proofs.Common.{◌≡◌, ◌∙◌, ℕ, ◌+◌, ◌^◌, ◌<◌, ◌≤◌, List, [], ◌∷◌, ◌++◌, length, take, reverse, sym, ap, subst, arith, append_assoc, length-append, refl}
use Rattle.std.specs.List.{AllByRecursion, prefix_len, take_while}
use Rattle.std.specs.Prelude.{not, Bool}
use Rattle.std.specs.Str.{chars, IsUtf8}
use Rattle.std.proofs.lemmas.List.{length-take, length-reverse}
use Rattle.std.proofs.lemmas.List.Sums.{count_by-le-length}
use Rattle.std.proofs.lemmas.Str.{encodes-chars}
use Rattle.graphql_lexical.specs.Place as places
use Rattle.graphql_lexical.specs.Place.{place}
use Rattle.graphql_lexical.specs.Characters.{is_line_feed}
use Rattle.graphql_lexical.specs.Kinds.{LexicalError}
use Rattle.graphql_lexical.specs.Cutting.{Breaks, Cut, Lexeme}
use Rattle.graphql_lexical.specs.Nesting.{IsFirstDeeper}
use Rattle.graphql_lexical.proofs.Public.{breaks_by_places}
use Rattle.graphql_grammar.specs.Tree.{Definition}
use Rattle.graphql_nodes.specs.Nodes as nodes
use Rattle.graphql_nodes.specs.Nodes.{document_nodes}
use Rattle.graphql_nodes.specs.laws.SpanLaws.{IsPlaceOf, LiesIn, NodesLieIn}
use Rattle.graphql_nodes.proofs.Public.{HasNodes, definitions_have_nodes, few_nodes_of_source, descendants_follow, nodes_lie, tokens_lie, token_among, broken_lies}
use Rattle.juniper_tokens.specs.Errors as errors
use Rattle.juniper_tokens.proofs.Public.{chars_within}
use Rattle.juniper_values.specs.Scalar.{Content}
use Rattle.juniper_parser.specs.Promise.{IsRefusal, lexical, grammatical}
use Rattle.juniper_documents.specs.Literals as literals
use Rattle.juniper_documents.specs.Literals.{HasLiteralTooDeep, IsLiteralRefusal}
use Rattle.juniper_documents.specs.Within.{HasTooDeep}
use Rattle.juniper_nodes.specs.NodeTexts.{text_of_node, node_texts}
use Rattle.firthnapkin_results.specs.Nodes.{byte_count}
use Rattle.firthnapkin_results.specs.Fits.{PositionFits, SpanFits, NodesFit}
use Rattle.firthnapkin_results.specs.Answers.{HasDocument, scalars}
use Rattle.firthnapkin_results.specs.declared.limits.Limits.{Limits}
use Rattle.firthnapkin_results.proofs.ShortScalars.{short_texts}
use Rattle.firthnapkin_results.proofs.Sources.{AreDefinitions, IsRead, document_read}
use Rattle.firthnapkin_results.proofs.Written.{bytes-append}

-- ---- positions

-- the position after a text
pub position_after_fits : (text : List ℕ) → length text < 2 ^ 32 → PositionFits (places.position_after text)
position_after_fits text l =
    let pass : ℕ → Bool = λ (c : ℕ). not (is_line_feed c) in
    let lines = count_by-le-length is_line_feed text in
    let columns : length (take_while pass (reverse text)) ≤ length text =
    omega (arith, length-take (prefix_len pass (reverse text)) (reverse text), length-reverse text) in
    (l, omega (arith, lines, l), omega (arith, columns, l))

any_position_fits : (source : List ℕ) (m : ℕ) → length source < 2 ^ 32 → PositionFits (place source m)
any_position_fits source m l = position_after_fits (take m source) (omega (arith, length-take m source, l))

position_fits : (source : List ℕ) (p : places.Place) → length source < 2 ^ 32 → IsPlaceOf source p → PositionFits p
position_fits source p l h = subst PositionFits (sym h.is) (any_position_fits source p.index l)

pub broken_fits : (source : List ℕ) (error : LexicalError) (at : places.Place) → length source < 2 ^ 32
    → Breaks source error at → PositionFits at
broken_fits source error at l b = position_fits source at l (broken_lies source (breaks_by_places source error at b))

pub span_fits : (source : List ℕ) (span : places.Span) → length source < 2 ^ 32 → LiesIn source span → SpanFits span
span_fits source span l h = (position_fits source span.start l h.start, position_fits source span.end l h.end)

-- ---- errors

broken_span_lies : (source : List ℕ) (error : LexicalError) (at : places.Place) → Breaks source error at
    → LiesIn source (record { start = at; end = at })
broken_span_lies source error at b =
    let lies = broken_lies source (breaks_by_places source error at b) in record { start = lies; end = lies }

refusal_lies : (source : List ℕ) (error : errors.Fault) → IsRefusal scalars source error → LiesIn source error.span
refusal_lies source _ (lexical b) = broken_span_lies source _ _ b
refusal_lies source _ (grammatical {ts} {before} {t} cut refused begins ends) =
    token_among source ts before refused.0.after t refused.0.whole (tokens_lie source ts cut)

deeper_lies : (source : List ℕ) (depth : ℕ) (ts before : List Lexeme) (t : Lexeme) (span : places.Span)
    → Cut source ts → IsFirstDeeper depth ts before t → span ≡ t.span → LiesIn source span
deeper_lies source depth ts before t span cut deeper at =
    subst (LiesIn source) (sym at) (token_among source ts before deeper.after t deeper.whole (tokens_lie source ts cut))

module _ (text : List ℕ) (u : IsUtf8 text) (l : length text < 2 ^ 32) where
  pub few_characters : length (chars text) < 2 ^ 32
  few_characters = omega (arith, chars_within text u, l)

  pub refusal_fits : (error : errors.Fault) → IsRefusal scalars (chars text) error → SpanFits error.span
  refusal_fits error h = span_fits (chars text) error.span few_characters (refusal_lies (chars text) error h)

  pub deep_fits : (depth : ℕ) (span : places.Span) → HasTooDeep scalars depth (chars text) span → SpanFits span
  deep_fits depth span h = span_fits (chars text) span few_characters
      (deeper_lies (chars text) depth h.lexemes h.before h.token span h.cut h.deep.deeper h.at)

  -- ---- of a source that is to be a literal

  module _ {A : Type 0} (R : A → List Lexeme → Type 0) where
    literal_lies : (Names : List Lexeme → Lexeme → errors.Error → Type 0) (error : errors.Fault)
        → IsLiteralRefusal R Names (chars text) error → LiesIn (chars text) error.span
    literal_lies Names _ (literals.lexical b) = broken_span_lies (chars text) _ _ b
    literal_lies Names _ (literals.grammatical {ts} {before} {t} cut refused named) =
        token_among (chars text) ts before refused.after t refused.whole (tokens_lie (chars text) ts cut)

    pub literal_refusal_fits : (Names : List Lexeme → Lexeme → errors.Error → Type 0) (error : errors.Fault)
        → IsLiteralRefusal R Names (chars text) error → SpanFits error.span
    literal_refusal_fits Names error h =
        span_fits (chars text) error.span few_characters (literal_lies Names error h)

    pub deep_literal_fits : (depth : ℕ) (span : places.Span) → HasLiteralTooDeep R depth (chars text) span
        → SpanFits span
    deep_literal_fits depth span h = span_fits (chars text) span few_characters
        (deeper_lies (chars text) depth h.lexemes h.before h.token span h.cut h.deeper h.at)

-- ---- nodes

-- a node has no more descendants than there are nodes
few_descendants : (all before ns : List (nodes.Node Content)) → all ≡ before ++ ns
    → ((front after : List (nodes.Node Content)) (n : nodes.Node Content) → all ≡ front ++ n ∷ after
    → n.descendants ≤ length after)
    → AllByRecursion (λ (n : nodes.Node Content). n.descendants ≤ length all) ns
few_descendants all before [] e h = tt
few_descendants all before (n ∷ ns) e h = (
  omega (arith, h before ns n e, ap length e, length-append before (n ∷ ns)),
  few_descendants all (before ++ n ∷ []) ns (e ∙ sym (append_assoc before (n ∷ []) ns)) h,
)

each_fits : (source : List ℕ) (count at : ℕ) (ns : List (nodes.Node Content)) → length source < 2 ^ 32 → count < 2 ^ 32
    → at + byte_count (node_texts ns) < 2 ^ 32 → NodesLieIn source ns
    → AllByRecursion (λ (n : nodes.Node Content). n.descendants ≤ count) ns → NodesFit at ns
each_fits source count at [] l k t lie few = tt
each_fits source count at (n ∷ ns) l k t lie few =
    let both = bytes-append (text_of_node n) (node_texts ns) in (
      record {
        span = span_fits source n.span l lie.0;
        descendants = omega (arith, few.0, k);
        texts = omega (arith, t, both);
      },
      each_fits source count (at + byte_count (text_of_node n)) ns l k (omega (arith, t, both)) lie.1 few.1,
    )

pub nodes_fit : {A : Type 0} (R : A → List Lexeme → Type 0) (nodes_of_it : A → List (nodes.Node Content))
    → HasNodes scalars R nodes_of_it → (text : List ℕ) (x : A) → length text < 2 ^ 32 → IsRead R text x
    → NodesFit 0 (nodes_of_it x)
nodes_fit R nodes_of_it has text x l h =
    let source = chars text in
    let ns = nodes_of_it x in
    let characters = chars_within text h.utf8 in
    let few = few_nodes_of_source scalars R nodes_of_it has h.lexemes x h.alone source h.cut in
    let short = short_texts R nodes_of_it has source h.lexemes x h.cut h.alone in
    each_fits source (length ns) 0 ns (omega (arith, characters, l)) (omega (arith, few, characters, l))
    (omega (arith, short, ap length (encodes-chars text h.utf8), l))
    (nodes_lie scalars R nodes_of_it has h.lexemes x h.alone source h.cut)
    (few_descendants ns [] ns refl
    (λ (front after : List (nodes.Node Content)) (n : nodes.Node Content).
    descendants_follow ns front after n (has.forest x)))

pub document_nodes_fit : (text : List ℕ) (limits : Limits) (tree : List (Definition Content)) → length text < 2 ^ 32
    → HasDocument text limits tree → NodesFit 0 (document_nodes tree)
document_nodes_fit text limits tree l h = nodes_fit AreDefinitions document_nodes (definitions_have_nodes scalars) text
    tree l
    (document_read text limits tree h)
