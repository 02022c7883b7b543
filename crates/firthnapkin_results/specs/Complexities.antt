-- What a call returns for a source with the complexities of its operations.
use Rattle.std.specs.Prelude.{◌≡◌, ◌<◌, ◌-◌, ◌^◌, ◌⊎◌, ◌≤◌, ℕ, List, map, min, take, length, chars, Result, Ok, Err}
use Rattle.graphql_lexical.specs.Place.{Span}
use Rattle.graphql_grammar.specs.Tree.{Definition}
use Rattle.graphql_nodes.specs.Nodes.{document_nodes}
use Rattle.juniper_complexity.specs.Faults.{OperationsHave, FirstFault, OfUnknown, OfCycle}
use Rattle.juniper_outlines.specs.declared.operations.OperationComplexity.{OperationComplexity}
use Rattle.juniper_values.specs.Scalar.{Content}
use Rattle.firthnapkin_results.specs.Answers.{HasNodes, Fills, ReturnsParsed}
use Rattle.firthnapkin_results.specs.Errors.{unknown_fragment_error, fragment_cycle_error}
use Rattle.firthnapkin_results.specs.declared.flat.Lengths.{Lengths}
use Rattle.firthnapkin_results.specs.declared.flat.Parsed.TheVariants as parsed
use Rattle.firthnapkin_results.specs.declared.limits.Limits.{Limits}
use Rattle.firthnapkin_results.specs.declared.node.Node.{Node}
use Rattle.firthnapkin_results.specs.declared.complexity.Complexity.{Complexity}
use Rattle.firthnapkin_results.specs.declared.source.Unread.{Unread}
use Rattle.firthnapkin_results.specs.declared.complexities.Measured.{Measured}
use Rattle.firthnapkin_results.specs.declared.complexities.Measured.TheVariants as measured

-- the statuses of `firthnapkin_parse_complexities`
abbrev pub IsComplexitiesStatus : ℕ → Type 0
IsComplexitiesStatus n = (n ≤ 8) ⊎ ((10 ≤ n) × (n ≤ 11))

-- ---- complexities

-- a number in 32 bits, or the largest that they hold if it is larger
abbrev pub saturated : ℕ → ℕ
saturated n = min n (2 ^ 32 - 1)

-- the index of the node of the definition at this index
abbrev pub node_at : List (Definition Content) → ℕ → ℕ
node_at tree i = length (document_nodes (take i tree))

-- the complexity of an operation
abbrev pub complexity_of : List (Definition Content) → OperationComplexity → Complexity
complexity_of tree found = record {
  definition = node_at tree found.definition;
  fields = saturated found.complexity.fields;
  aliases = saturated found.complexity.aliases;
  directives = saturated found.complexity.directives;
  root_fields = saturated found.complexity.root_fields;
  depth = saturated found.complexity.depth;
}

-- The operations of this tree have these complexities, in their order.
pub record HaveComplexities (tree : List (Definition Content)) (found : List Complexity) : Type 0 where
  pub complexities : List OperationComplexity
  pub operations : OperationsHave tree 0 tree complexities
  pub are : found ≡ map (complexity_of tree) complexities

-- ---- spreads that can't be expanded

-- The first spread of the document that can't be expanded names no fragment, and has this span.
pub record HasUnknown (tree : List (Definition Content)) (span : Span) : Type 0 where
  pub definition : ℕ
  pub error : FirstFault tree definition (OfUnknown span)

-- The first spread of the document that can't be expanded is of a fragment in which it stands, and has this span.
pub record HasCycle (tree : List (Definition Content)) (span : Span) : Type 0 where
  pub definition : ℕ
  pub error : FirstFault tree definition (OfCycle span)

-- ---- what is written

module _ (source : List ℕ) (limits : Limits) (old_nodes new_nodes : List Node) (old_texts new_texts : List ℕ)
    (old_complexities new_complexities : List Complexity) where
  -- How many nodes, bytes of texts and operations a source has, with as many of them in the buffers as fit; or what is
  -- wrong with it. The complexities are unchanged then.
  abbrev pub ReturnsMeasured : Result Measured Unread → Type 0
  ReturnsMeasured (Ok (measured.Tree lengths count)) = (length source < 2 ^ 32) × ((tree : List (Definition Content))
      × HasNodes source limits tree old_nodes new_nodes old_texts new_texts lengths × ((found : List Complexity)
      × HaveComplexities tree found × Fills found old_complexities new_complexities × (count ≡ length found)))
  ReturnsMeasured (Ok (measured.Unknown lengths error)) = (length source < 2 ^ 32) × ((tree : List (Definition Content))
      × HasNodes source limits tree old_nodes new_nodes old_texts new_texts lengths × ((span : Span)
      × HasUnknown tree span × (error ≡ unknown_fragment_error (chars source) span)
      × (new_complexities ≡ old_complexities)))
  ReturnsMeasured (Ok (measured.Cycle lengths error)) = (length source < 2 ^ 32) × ((tree : List (Definition Content))
      × HasNodes source limits tree old_nodes new_nodes old_texts new_texts lengths × ((span : Span)
      × HasCycle tree span × (error ≡ fragment_cycle_error (chars source) span)
      × (new_complexities ≡ old_complexities)))
  ReturnsMeasured (Ok (measured.Refused error)) =
      ReturnsParsed source limits old_nodes new_nodes old_texts new_texts (Ok (parsed.Refused error))
      × (new_complexities ≡ old_complexities)
  ReturnsMeasured (Ok (measured.TooDeep error)) =
      ReturnsParsed source limits old_nodes new_nodes old_texts new_texts (Ok (parsed.TooDeep error))
      × (new_complexities ≡ old_complexities)
  ReturnsMeasured (Ok (measured.TooMany error)) =
      ReturnsParsed source limits old_nodes new_nodes old_texts new_texts (Ok (parsed.TooMany error))
      × (new_complexities ≡ old_complexities)
  ReturnsMeasured (Err unread) =
      ReturnsParsed source limits old_nodes new_nodes old_texts new_texts (Err unread)
      × (new_complexities ≡ old_complexities)

-- of the numbers of nodes, bytes of texts and operations of a source, where it has some
abbrev pub IfNodes : Result Measured Unread → (Lengths → ℕ → Type 0) → Type 0
IfNodes (Ok (measured.Tree lengths count)) P = P lengths count
IfNodes (Ok (measured.Unknown lengths error)) P = P lengths 0
IfNodes (Ok (measured.Cycle lengths error)) P = P lengths 0
IfNodes (Ok (measured.Refused error)) P = Unit {0}
IfNodes (Ok (measured.TooDeep error)) P = Unit {0}
IfNodes (Ok (measured.TooMany error)) P = Unit {0}
IfNodes (Err unread) P = Unit {0}
