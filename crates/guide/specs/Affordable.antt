-- What a server accepts, by the limits on a text and by how many fields each operation may have.
use Rattle.std.specs.Prelude.{◌≡◌, ◌<◌, ◌≤◌, ℕ, List, Some, slice_get}
use Rattle.graphql_grammar.specs.Tree.{Definition}
use Rattle.juniper_values.specs.Scalar.{Content}
use Rattle.juniper_tree.specs.Scalars.{default_scalars}
use Rattle.juniper_parser.specs.Promise.{HasTree}
use Rattle.juniper_documents.specs.Within.{IsWithin}
use Rattle.juniper_documents.specs.Limited.{HasFewTokens, FailsLimited}
use Rattle.juniper_documents.specs.declared.document.limited.Limits.{Limits}
use Rattle.juniper_complexity.specs.Faults.{OperationsHave, SpreadFault, FirstFault, view_failure}
use Rattle.juniper_outlines.specs.declared.operations.OperationComplexity.{OperationComplexity}
use Rattle.guide.specs.declared.limiter.CostFailure.{CostFailure}
use Rattle.guide.specs.declared.limiter.CostFailure.TheVariants as failure

-- None of these operations has more fields.
abbrev pub NoneAbove : ℕ → List OperationComplexity → Type 0
NoneAbove most complexities = (k : ℕ) (c : OperationComplexity) → slice_get complexities k ≡ Some c
    → c.complexity.fields ≤ most

-- Of these operations the definition at this index is the first that has more fields.
pub record IsFirstAbove (most : ℕ) (complexities : List OperationComplexity) (at : ℕ) : Type 0 where
  pub number : ℕ
  pub operation : OperationComplexity
  pub stands : slice_get complexities number ≡ Some operation
  pub is_at : operation.definition ≡ at
  pub above : most < operation.complexity.fields
  pub earlier : (k : ℕ) (c : OperationComplexity) → k < number → slice_get complexities k ≡ Some c
      → c.complexity.fields ≤ most

module _ (limits : Limits) (most : ℕ) (source : List ℕ) where
  -- the text is a document within the limits, with this tree
  pub record IsRead (tree : List (Definition Content)) : Type 0 where
    pub tree_is : HasTree default_scalars source tree
    pub few : HasFewTokens limits.tokens source
    pub shallow : IsWithin default_scalars limits.depth source

  -- it is, and no operation has more fields
  pub record IsAffordable (tree : List (Definition Content)) : Type 0 where
    pub read : IsRead tree
    pub complexities : List OperationComplexity
    pub have : OperationsHave tree 0 tree complexities
    pub below : NoneAbove most complexities

  -- Why not: the parser says so, a spread can't be expanded, or the definition at this index is the first operation
  -- that has more fields.
  abbrev pub IsUnaffordable : CostFailure → Type 0
  IsUnaffordable (failure.Text e) = FailsLimited default_scalars limits.depth limits.tokens source e
  IsUnaffordable (failure.Spread e) = (tree : List (Definition Content)) × IsRead tree
      × ((fault : SpreadFault) → view_failure e ≡ Some fault → (at : ℕ) × FirstFault tree at fault)
  IsUnaffordable (failure.Operation at) = (tree : List (Definition Content)) × IsRead tree
      × (complexities : List OperationComplexity) × OperationsHave tree 0 tree complexities
      × IsFirstAbove most complexities at
