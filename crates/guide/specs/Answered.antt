-- The answer to a request, by an executor of constants: which fields it has, and that it is written whole.
use Rattle.std.specs.Prelude.{◌≡◌, ℕ, List, [], ◌∷◌, Option, Some, None, Ok, Err, String, string_bytes}
use Rattle.std.specs.Str.{chars}
use Rattle.std.specs.String.{string_eq}
use Rattle.std.specs.declared.alloc.Global.{Global}
use Rattle.indexmap.specs.IndexMap.{insert_all}
use Rattle.serde_json.specs.Sent.{IsTextOf}
use Rattle.graphql_grammar.specs.Tokens.{Text, Word}
use Rattle.graphql_grammar.specs.Tree.{Selection, Field, Selections, no_selections, selection}
use Rattle.graphql_grammar.specs.Tree.{Definition, Operation, Fragment}
use Rattle.juniper_tokens.specs.Errors.{view_fault}
use Rattle.juniper_tokens.specs.declared.error.ParseFailure.TheVariants as parsing
use Rattle.juniper_values.specs.Default.{default_content}
use Rattle.juniper_values.specs.Scalar.{Content}
use Rattle.juniper_values.specs.declared.default_scalar.DefaultScalarValue.{DefaultScalarValue}
use Rattle.juniper_tree.specs.Scalars.{default_scalars}
use Rattle.juniper_parser.specs.Promise.{HasTree, IsRefusal}
use Rattle.juniper_requests.specs.Operations.{get_operation}
use Rattle.juniper_answers.specs.Data.{Data, object}
use Rattle.juniper_answers.specs.View.{fields_view}
use Rattle.juniper_answers.specs.declared.value.Value.{Value}
use Rattle.guide.specs.Json.{events}
use Rattle.guide.specs.declared.executor.AnswerFailure.{AnswerFailure}
use Rattle.guide.specs.declared.executor.AnswerFailure.TheVariants as failure

-- a field of an answer: its key and its value
abbrev pub Answer : Type 0
Answer = String Global × Value DefaultScalarValue

-- the alias of a field, or its name
abbrev pub response_key : Option Word → Word → Text
response_key (Some alias) name = alias.item
response_key None name = name.item

-- an answer to a field, under its response key
abbrev pub Answers : Selection Content → Answer → Type 0
Answers (Field alias name arguments directives inner span) answer =
    chars (string_bytes answer.0) ≡ response_key alias name
Answers _ answer = ⊥

-- an answer to each of these selections, all of which are fields, in their order
abbrev pub AnswersEach : Selections Content → List Answer → Type 0
AnswersEach no_selections [] = Unit {0}
AnswersEach no_selections (x ∷ xs) = ⊥
AnswersEach (selection s ss) [] = ⊥
AnswersEach (selection s ss) (x ∷ xs) = Answers s x × AnswersEach ss xs

-- Of answers under one key the object has the last, in the place of the first.
abbrev pub merged : List Answer → Data Content
merged answers = object (fields_view default_content (insert_all string_eq [] answers))

abbrev pub selections_in : Definition Content → Selections Content
selections_in (Operation kind name variables directives selections span) = selections
selections_in (Fragment name condition directives selections span) = selections

module _ (source : List ℕ) (name : Option Text) where
  -- The source is a document, and the text is the JSON of an answer to each field of the operation of this name.
  pub record IsAnswered (text : List ℕ) : Type 0 where
    pub tree : List (Definition Content)
    pub has_tree : HasTree default_scalars source tree
    pub operation : Definition Content
    pub chosen : get_operation tree name ≡ Ok operation
    pub answers : List Answer
    pub each : AnswersEach (selections_in operation) answers
    pub written : IsTextOf (Some (events (merged answers))) text

  -- What a failure says: the source is refused, or it is a document without the wanted operation, or a document.
  abbrev pub IsUnanswered : AnswerFailure → Type 0
  IsUnanswered (failure.Parse (parsing.Refused fault)) = IsRefusal default_scalars source (view_fault fault)
  IsUnanswered (failure.Operation why) = (tree : List (Definition Content)) × HasTree default_scalars source tree
      × (get_operation tree name ≡ Err why)
  IsUnanswered (failure.Fragment span) = (tree : List (Definition Content)) × HasTree default_scalars source tree
  IsUnanswered _ = Unit {0}
