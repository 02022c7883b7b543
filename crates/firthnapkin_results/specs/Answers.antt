-- What a call returns for a source, and what it leaves in the caller's memory.
use Rattle.std.specs.Prelude.{◌≡◌, ◌≢◌, ◌<◌, ◌≤◌, ◌^◌, ◌⊎◌, ◌↔◌, ℕ, List, [], ◌++◌, take, drop, length}
use Rattle.std.specs.Prelude.{encode_utf8_all, IsUtf8, chars, Result, Ok, Err}
use Rattle.graphql_lexical.specs.Place.{Span}
use Rattle.graphql_grammar.specs.Tree.{Scalars, Definition}
use Rattle.graphql_nodes.specs.Nodes as nodes
use Rattle.graphql_nodes.specs.Nodes.{document_nodes}
use Rattle.juniper_tokens.specs.Errors as errors
use Rattle.juniper_tokens.specs.Counting.{HasFew, HasMore}
use Rattle.juniper_values.specs.Scalar.{Content, boolean}
use Rattle.juniper_tree.specs.Scalars.{stated}
use Rattle.juniper_parser.specs.Promise.{HasTree, IsRefusal}
use Rattle.juniper_documents.specs.Within.{HasTooDeep, IsWithin}
use Rattle.juniper_nodes.specs.NodeTexts.{node_texts}
use Rattle.firthnapkin_results.specs.Nodes.{written_nodes}
use Rattle.firthnapkin_results.specs.Scalars.{scalar_reading}
use Rattle.firthnapkin_results.specs.Errors.{written_error, too_deep_error, too_many_tokens_error}
use Rattle.firthnapkin_results.specs.Limits.{AreInvalid}
use Rattle.firthnapkin_results.specs.Sources.{IsUnread}
use Rattle.firthnapkin_results.specs.declared.error.Error.{Error}
use Rattle.firthnapkin_results.specs.declared.source.Unread.{Unread}
use Rattle.firthnapkin_results.specs.declared.source.Unread.TheVariants.{OutOfMemory}
use Rattle.firthnapkin_results.specs.declared.flat.Failure.{Failure}
use Rattle.firthnapkin_results.specs.declared.flat.Failure.TheVariants as failure
use Rattle.firthnapkin_results.specs.declared.flat.Lengths.{Lengths}
use Rattle.firthnapkin_results.specs.declared.flat.Parsed.{Parsed}
use Rattle.firthnapkin_results.specs.declared.flat.Parsed.TheVariants as parsed
use Rattle.firthnapkin_results.specs.declared.limits.Limits.{Limits}
use Rattle.firthnapkin_results.specs.declared.node.Node.{Node}
use Rattle.firthnapkin_results.specs.declared.status.TheConstants.{SYNTAX_ERROR, NOT_UTF8, OUT_OF_MEMORY, TOO_DEEP}
use Rattle.firthnapkin_results.specs.declared.status.TheConstants.{TOO_MANY_TOKENS, SOURCE_TOO_LONG, INVALID_LIMIT}

-- every scalar that a source can write is read
abbrev pub scalars : Scalars Content errors.Error
scalars = stated scalar_reading boolean

-- the statuses of `firthnapkin_parse`
abbrev pub IsStatus : ℕ → Type 0
IsStatus n = n ≤ 8

-- ---- sources

-- The source is a document with this tree, within the limits.
pub record HasDocument (source : List ℕ) (limits : Limits) (tree : List (Definition Content)) : Type 0 where
  pub utf8 : IsUtf8 source
  pub has_tree : HasTree scalars (chars source) tree
  pub within : IsWithin scalars limits.depth (chars source)
  pub few : HasFew [] (chars source) limits.tokens

-- The source is a text and no document, and this is its error; no token before is nested too deep, and there are no
-- more tokens than the limit.
pub record HasRefusal (source : List ℕ) (limits : Limits) (error : errors.Fault) : Type 0 where
  pub utf8 : IsUtf8 source
  pub refusal : IsRefusal scalars (chars source) error
  pub within : IsWithin scalars limits.depth (chars source)
  pub few : HasFew [] (chars source) limits.tokens

-- The source's first token that is nested too deep has this span, and those up to it begin a document; there are no
-- more tokens than the limit.
pub record HasDeepToken (source : List ℕ) (limits : Limits) (span : Span) : Type 0 where
  pub utf8 : IsUtf8 source
  pub deep : HasTooDeep scalars limits.depth (chars source) span
  pub few : HasFew [] (chars source) limits.tokens

-- The source has more tokens than the limit, and the first one too many has this span.
pub record HasTokenTooMany (source : List ℕ) (limits : Limits) (span : Span) : Type 0 where
  pub utf8 : IsUtf8 source
  pub many : HasMore [] (chars source) limits.tokens span

-- ---- what is wrong with a source

-- the error is that of a source that is no document
abbrev pub IsSyntaxError : List ℕ → Limits → Error → Type 0
IsSyntaxError source limits error =
    (found : errors.Fault) × HasRefusal source limits found × (error ≡ written_error (chars source) found)

-- the error is at the first token that is nested too deep
abbrev pub IsTooDeep : List ℕ → Limits → Error → Type 0
IsTooDeep source limits error =
    (span : Span) × HasDeepToken source limits span × (error ≡ too_deep_error (chars source) span)

-- the error is at the first token past the limit
abbrev pub IsTooMany : List ℕ → Limits → Error → Type 0
IsTooMany source limits error =
    (span : Span) × HasTokenTooMany source limits span × (error ≡ too_many_tokens_error (chars source) span)

-- why a source isn't what a call reads, within the limits, where IsRefused and IsDeep say which two errors those are
abbrev pub IsFailureBy : (IsRefused IsDeep : List ℕ → Limits → Error → Type 0) → List ℕ → Limits → Failure → Type 0
IsFailureBy IsRefused IsDeep source limits (failure.Refused error) = IsRefused source limits error
IsFailureBy IsRefused IsDeep source limits (failure.TooDeep error) = IsDeep source limits error
IsFailureBy IsRefused IsDeep source limits (failure.TooMany error) = IsTooMany source limits error
IsFailureBy IsRefused IsDeep source limits failure.OutOfMemory = Unit {0}

-- why a source has no tree within the limits
abbrev pub IsFailure : List ℕ → Limits → Failure → Type 0
IsFailure = IsFailureBy IsSyntaxError IsTooDeep

-- ---- what is reported

-- nodes of a source, as C gets them
abbrev pub nodes_in : List ℕ → List (nodes.Node Content) → List Node
nodes_in source ns = written_nodes (chars source) 0 ns

-- the texts of nodes, in UTF-8
abbrev pub texts_in : List (nodes.Node Content) → List ℕ
texts_in ns = encode_utf8_all (node_texts ns)

-- the nodes of a tree
abbrev pub nodes_of : List ℕ → List (Definition Content) → List Node
nodes_of source tree = nodes_in source (document_nodes tree)

-- the texts of its nodes
abbrev pub texts_of : List (Definition Content) → List ℕ
texts_of tree = texts_in (document_nodes tree)

-- the buffer begins with these, and the rest of it is unchanged
abbrev pub Begins : {A : Type 0} → List A → List A → List A → Type 0
Begins xs old new = new ≡ xs ++ drop (length xs) old

-- the buffer begins with as many of these as it is long, and the rest of it is unchanged
abbrev pub Fills : {A : Type 0} → List A → List A → List A → Type 0
Fills xs old new = new ≡ take (length old) xs ++ drop (length xs) old

-- ---- what is written

-- These nodes of the source and their texts are in the buffers as far as they fit, and this is how many they are.
pub record AreWritten (source : List ℕ) (ns : List (nodes.Node Content)) (old_nodes new_nodes : List Node)
    (old_texts new_texts : List ℕ) (lengths : Lengths) : Type 0 where
  pub nodes : Fills (nodes_in source ns) old_nodes new_nodes
  pub texts : Fills (texts_in ns) old_texts new_texts
  pub nodes_count : lengths.nodes ≡ length (nodes_in source ns)
  pub texts_count : lengths.texts ≡ length (texts_in ns)

-- The source is a document with this tree within the limits, and its nodes are written.
pub record HasNodes (source : List ℕ) (limits : Limits) (tree : List (Definition Content))
    (old_nodes new_nodes : List Node) (old_texts new_texts : List ℕ) (lengths : Lengths) : Type 0 where
  pub document : HasDocument source limits tree
  pub written : AreWritten source (document_nodes tree) old_nodes new_nodes old_texts new_texts lengths

-- A call reads sources that are an A, with these nodes: how many nodes and bytes of texts a source has, with as many of
-- them in the buffers as fit; or why it has none.
module _ {A : Type 0} (Is : List ℕ → Limits → A → Type 0) (nodes_of_it : A → List (nodes.Node Content))
    (IsRefused IsDeep : List ℕ → Limits → Error → Type 0) where
  abbrev pub ReturnsBy : List ℕ → Limits → List Node → List Node → List ℕ → List ℕ → Result Parsed Unread → Type 0
  ReturnsBy source limits old_nodes new_nodes old_texts new_texts (Ok (parsed.Tree lengths)) = (length source < 2 ^ 32)
      × ((x : A) × Is source limits x
      × AreWritten source (nodes_of_it x) old_nodes new_nodes old_texts new_texts lengths)
  ReturnsBy source limits old_nodes new_nodes old_texts new_texts (Ok (parsed.Refused error)) =
      (length source < 2 ^ 32) × IsRefused source limits error
  ReturnsBy source limits old_nodes new_nodes old_texts new_texts (Ok (parsed.TooDeep error)) =
      (length source < 2 ^ 32) × IsDeep source limits error
  ReturnsBy source limits old_nodes new_nodes old_texts new_texts (Ok (parsed.TooMany error)) =
      (length source < 2 ^ 32) × IsTooMany source limits error
  ReturnsBy source limits old_nodes new_nodes old_texts new_texts (Err unread) = IsUnread source unread
      × (unread ≢ OutOfMemory → (new_nodes ≡ old_nodes) × (new_texts ≡ old_texts))

-- what is returned where there are no nodes
abbrev pub unparsed : Failure → Result Parsed Unread
unparsed (failure.Refused error) = Ok (parsed.Refused error)
unparsed (failure.TooDeep error) = Ok (parsed.TooDeep error)
unparsed (failure.TooMany error) = Ok (parsed.TooMany error)
unparsed failure.OutOfMemory = Err OutOfMemory

-- of documents
abbrev pub ReturnsParsed : List ℕ → Limits → List Node → List Node → List ℕ → List ℕ → Result Parsed Unread → Type 0
ReturnsParsed = ReturnsBy HasDocument document_nodes IsSyntaxError IsTooDeep

-- of the numbers of nodes and bytes of a source, where it has some
abbrev pub IfTree : Result Parsed Unread → (Lengths → Type 0) → Type 0
IfTree (Ok (parsed.Tree lengths)) P = P lengths
IfTree (Ok (parsed.Refused error)) P = Unit {0}
IfTree (Ok (parsed.TooDeep error)) P = Unit {0}
IfTree (Ok (parsed.TooMany error)) P = Unit {0}
IfTree (Err unread) P = Unit {0}

-- ---- what is left in the caller's memory

-- What a status says of a source that isn't what a call reads, within the limits, and which error is written. If the
-- source isn't read the buffers are unchanged. While it is parsed nodes are written into them.
pub record ReportsBy (IsRefused IsDeep : List ℕ → Limits → Error → Type 0) (source : List ℕ) (limits : Limits)
    (old_nodes new_nodes : List Node) (old_texts new_texts : List ℕ) (error : Error) (status : ℕ) : Type 0 where
  pub refused : status ≡ SYNTAX_ERROR → IsRefused source limits error
  pub too_deep : status ≡ TOO_DEEP → IsDeep source limits error
  pub too_many : status ≡ TOO_MANY_TOKENS → IsTooMany source limits error
  pub memory : status ≡ OUT_OF_MEMORY → IsUtf8 source
  pub not_utf8 : status ≡ NOT_UTF8 → ¬ IsUtf8 source
  pub too_long : status ≡ SOURCE_TOO_LONG ↔ 2 ^ 32 ≤ length source
  pub limits_refused : status ≡ INVALID_LIMIT ↔ (AreInvalid limits × (length source < 2 ^ 32))
  pub buffers_kept : (status ≡ NOT_UTF8) ⊎ ((status ≡ SOURCE_TOO_LONG) ⊎ (status ≡ INVALID_LIMIT))
      → (new_nodes ≡ old_nodes) × (new_texts ≡ old_texts)

-- of documents
abbrev pub ReportsFailure : List ℕ → Limits → List Node → List Node → List ℕ → List ℕ → Error → ℕ → Type 0
ReportsFailure = ReportsBy IsSyntaxError IsTooDeep
