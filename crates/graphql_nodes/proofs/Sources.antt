-- The nodes of a source that is a document, a value or a type: how many they are, and where they lie.
use Rattle.std.proofs.Common.{ℕ, ◌≡◌, ◌≤◌, ◌<◌, ◌∷◌, ◌++◌, ◌∙◌, [], Bool, List, ap, refl, subst, length, length-append, arith, rules}
use Rattle.std.specs.List.{sum_by}
use Rattle.std.proofs.lemmas.List.Sums.{sum_by-cons}
use Rattle.graphql_lexical.specs.declared.kind.Kind.TheVariants.{BracketOpen, EndOfFile, ExclamationMark}
use Rattle.graphql_lexical.specs.Cutting.{Lexeme, Cut}
use Rattle.graphql_lexical.specs.Parts.{◌·◌}
use Rattle.graphql_lexical.proofs.Public.{few_tokens}
use Rattle.graphql_grammar.specs.Tree.{Scalars, TypeRef, NamedType, ListType, NonNullType}
use Rattle.graphql_grammar.specs.Grammar.{Is, IsLocated, IsType, IsValue, IsDefinition, Several}
use Rattle.graphql_grammar.proofs.Public.{says_takes, is_takes, front_takes, back_takes, token_in}
use Rattle.graphql_nodes.specs.Forests.{IsForest}
use Rattle.graphql_nodes.specs.Nodes.{Node, document_nodes, type_nodes, value_nodes}
use Rattle.graphql_nodes.specs.laws.SpanLaws.{NodesLieIn}
use Rattle.graphql_nodes.proofs.Forests.{document_forest, type_forest, value_forest}
use Rattle.graphql_nodes.proofs.Lying.{definitions_lie, front_lies, tokens_lie, type_lies, value_lies}
use Rattle.graphql_nodes.proofs.Lying as lying
use Rattle.graphql_nodes.proofs.Measures.{Weighs, Within, definitions_within, type_within, value_within}

-- each counts for one
abbrev one : {A : Type 0} → A → ℕ
one x = 1

sum_of_ones : {A : Type 0} (xs : List A) → sum_by one xs ≡ length xs
sum_of_ones [] = search rules
sum_of_ones (x ∷ xs) = omega (arith, sum_by-cons one x xs, sum_of_ones xs)

some_token : (ts : List Lexeme) (x : TypeRef) → IsType x ts → 1 ≤ length ts
some_token ts (NamedType name) h = says_takes name ts h
some_token ts (ListType size x) h = front_takes (is_takes BracketOpen) ts h.0
some_token ts (NonNullType x) h = back_takes (is_takes ExclamationMark) ts h.0

ones : {C F : Type 0} (S : Scalars C F) → Weighs S one one
ones S = record {
  types = λ ts type span h. omega (arith, some_token ts type h, sum_of_ones ts);
  scalars = λ t content span s e. omega arith;
  truths = λ t b span. omega arith;
  others = λ t k span label inner u. omega arith;
}

module _ {C F A : Type 0} (S : Scalars C F) (R : A → List Lexeme → Type 0) (nodes : A → List (Node C)) where
  -- What holds of the nodes of a part that R recognizes: they measure at most what its tokens weigh, lie where these
  -- do, and are a forest.
  pub record HasNodes : Type 0 where
    pub within : (measure : Node C → ℕ) (weight : Lexeme → ℕ) (weighs : Weighs S measure weight) (ts : List Lexeme)
        (x : A)
        → R x ts → Within S measure weight weighs ts (nodes x)
    pub lie : (source : List ℕ) (ts : List Lexeme) (x : A) → R x ts → lying.Within S source ts (nodes x)
    pub forest : (x : A) → IsForest (nodes x)

  -- the tokens before the end, and what is counted of the part's nodes
  pub record Front (measure : Node C → ℕ) (weight : Lexeme → ℕ) (x : A) (ts : List Lexeme) : Type 0 where
    pub front : List Lexeme
    pub end : Lexeme
    pub whole : ts ≡ front ++ (end ∷ [])
    pub ends : end.kind ≡ EndOfFile
    pub le : sum_by measure (nodes x) ≤ sum_by weight front

  module _ (has : HasNodes) (ts : List Lexeme) (x : A) (h : (R x · Is EndOfFile) ts) where
    pub front_of : (measure : Node C → ℕ) (weight : Lexeme → ℕ) → Weighs S measure weight → Front measure weight x ts
    front_of measure weight weighs = record {
      front = h.front;
      end = token_in EndOfFile h.back h.second;
      whole = h.whole ∙ ap (λ us. h.front ++ us) h.second.2;
      ends = refl;
      le = (has.within measure weight weighs h.front x h.first).le;
    }

    pub few_nodes : length (nodes x) < length ts
    few_nodes =
        let front = front_of one one (ones S) in
        omega (
          arith,
          front.le,
          sum_of_ones (nodes x),
          sum_of_ones front.front,
          ap length front.whole,
          length-append front.front (front.end ∷ []),
        )

    pub few_nodes_of_source : (source : List ℕ) → Cut source ts → length (nodes x) ≤ length source
    few_nodes_of_source source c =
        let front = front_of one one (ones S) in
        let few = few_tokens source front.front front.end (subst (Cut source) front.whole c) in
        omega (arith, front.le, sum_of_ones (nodes x), sum_of_ones front.front, few.0)

    pub nodes_lie : (source : List ℕ) → Cut source ts → NodesLieIn source (nodes x)
    nodes_lie source c = (has.lie source h.front x h.first).lie (front_lies source ts h (tokens_lie source ts c))

-- ---- what a source may be

module _ {C F : Type 0} (S : Scalars C F) where
  pub definitions_have_nodes : HasNodes S (Several (IsDefinition S)) document_nodes
  definitions_have_nodes = record {
    within = λ measure weight weighs ts ds. definitions_within S measure weight weighs ts ds;
    lie = λ source ts ds. definitions_lie S source ts ds;
    forest = λ ds. document_forest ds;
  }

  pub value_has_nodes : (free : Bool) → HasNodes S (IsLocated (IsValue S free)) value_nodes
  value_has_nodes free = record {
    within = λ measure weight weighs ts v. value_within S measure weight weighs free ts v;
    lie = λ source ts v. value_lies S source free ts v;
    forest = λ v. value_forest v;
  }

  pub type_has_nodes : HasNodes S (IsLocated IsType) type_nodes
  type_has_nodes = record {
    within = λ measure weight weighs ts type. type_within S measure weight weighs ts type;
    lie = λ source ts type. type_lies S source ts type;
    forest = λ type. type_forest type;
  }
