-- What the code reads is what the grammar's readers read.
use Rattle.std.proofs.Common.{◌≡◌, ℕ, suc, length, arith, Bool, true, false, cond, Some, None, List, ◌++◌, codes, Ok, refl, ap, ◌∙◌, inl, inr, le_refl}
use Rattle.graphql_lexical.specs.declared.kind.Kind.TheVariants.{At, BracketClose, CurlyClose, ParenClose, EndOfFile}
use Rattle.graphql_lexical.specs.Kinds.{same_kind}
use Rattle.graphql_lexical.specs.Cutting.{Lexeme}
use Rattle.graphql_grammar.specs.Tree.{Scalars, Definition}
use Rattle.graphql_grammar.specs.Grammar.{IsLocated, IsValue, IsArgument, IsVariableDefinition, IsSelection, IsDirective, IsDefinition, IsDocument}
use Rattle.graphql_grammar.specs.declared.operation.OperationType.{OperationType}
use Rattle.graphql_grammar.specs.device.Reading.{of, word, passes, fully, a_value, a_type, a_selection, Symbol, symbol}
use Rattle.graphql_grammar.specs.device.Productions.{steps_of, symbol_at, reads, value, type, any_selection, key_and_value, argument, arguments_inner, directive, variable_definition, variables_inner, selections_inner, operation_word, operation_of, definition_parts, definition, document, operation, fragment, shorthand}
use Rattle.graphql_grammar.proofs.Public.{Answers, value_rule, value_takes, IsField, field_rule, field_takes, argument_rule, argument_takes, directive_rule, directive_takes, variable_definition_rule, variable_takes, selection_rule, selection_takes, definition_rule, definition_takes, document_rule, values_answer, types_answer, selections_answer, reads_answer, closed_answer}
use Rattle.juniper_tokens.specs.Errors.{Error}
use Rattle.juniper_tokens.specs.Cursor.{first_of, kind_at, next_at}
use Rattle.juniper_parser.specs.device.Seen.{seen}
use Rattle.juniper_parser.specs.device.Steps.{closing_at, no_scalars, value_read, type_read, selection_read, closed_read, cursor, each_read}
use Rattle.juniper_parser.proofs.Stepping.{seen_took}
use Rattle.juniper_parser.proofs.Loops.{Repeats, RepeatsSome, RepeatsWhile}
use Rattle.juniper_parser.proofs.CursorGoes.{Fits, shown, shown_fully}
use Rattle.juniper_parser.proofs.Symbols.{symbols_shown}
use Rattle.juniper_parser.proofs.CursorFits.{value_fits, type_fits, key_and_value_fits, argument_fits, directive_fits, variable_definition_fits, any_selection_fits, definition_fits, operation_no_end}
use Rattle.juniper_parser.proofs.Lists.{closed_repeats, several_repeats, each_unfolds}

module _ {C : Type 0} (S : Scalars C Error) where
  symbol_is : {A : Type 0} (r : Symbol C A) → Answers (λ n. symbol_at S n A r) → Fits S (steps_of S r) →
      (ts : List Lexeme)
      → seen (fully (λ n. symbol_at S n A r) ts) ≡ cursor S (steps_of S r) ts
  unfolding fully symbol_at
  symbol_is r w fits ts = elim (shown S (symbols_shown S) (steps_of S r) fits (length ts) ts) [
    | inl e ↦ absurd (w.at (suc (length ts)) ts (omega arith) e)
    | inr e ↦ e
  ]

  pub value_is : (free : Bool) (ts : List Lexeme) → value_read S free ts ≡ cursor S (value S free) ts
  unfolding value_read
  value_is free = symbol_is (a_value free) (values_answer S free) (value_fits S free)

  pub selection_is : (ts : List Lexeme) → selection_read S ts ≡ cursor S any_selection ts
  unfolding selection_read
  selection_is = symbol_is a_selection (selections_answer S) (any_selection_fits S)

pub type_is : (ts : List Lexeme) → type_read ts ≡ cursor no_scalars type ts
unfolding type_read
type_is = symbol_is no_scalars a_type (types_answer no_scalars) (type_fits no_scalars)

-- ---- lists

module _ {C : Type 0} (S : Scalars C Error) where
  pub values_repeat : (free : Bool)
      → Repeats (closing_at BracketClose) (value_read S free) (closed_read S (of BracketClose) (symbol (a_value free)))
  values_repeat free = closed_repeats S (symbol (a_value free)) tt (IsLocated (IsValue S free))
      (λ n. value_rule S free n n (le_refl n)) (value_takes S free) BracketClose refl (inl refl)

  pub fields_repeat : (free : Bool) → Repeats (closing_at CurlyClose) (cursor S (key_and_value free))
      (closed_read S (of CurlyClose) (key_and_value free))
  fields_repeat free = closed_repeats S (key_and_value free) (key_and_value_fits S free) (IsField S free)
      (λ n. field_rule S free n n (le_refl n)) (field_takes S free) CurlyClose refl (inl refl)

  pub arguments_repeat : RepeatsSome (closing_at ParenClose) (cursor S argument) (cursor S arguments_inner)
  unfolding arguments_inner
  arguments_repeat = several_repeats S argument (argument_fits S) (IsArgument S) (λ n. argument_rule S n n (le_refl n))
      (argument_takes S 0 0 (le_refl 0)) ParenClose refl (inl refl)

  pub directives_repeat : RepeatsWhile (λ ts. same_kind (kind_at ts) At) (cursor S directive)
      (each_read S (of At) directive)
  directives_repeat = record {
    unfolds = each_unfolds S directive (directive_fits S) (IsLocated (IsDirective S)) (λ n. directive_rule S n n (le_refl n))
        (directive_takes S 0 0 (le_refl 0)) At;
  }

  pub variables_repeat : RepeatsSome (closing_at ParenClose) (cursor S variable_definition) (cursor S variables_inner)
  unfolding variables_inner
  variables_repeat = several_repeats S variable_definition (variable_definition_fits S) (IsVariableDefinition S)
      (λ n. variable_definition_rule S n n (le_refl n)) (variable_takes S 0 0 (le_refl 0)) ParenClose refl (inl refl)

  pub selections_repeat : RepeatsSome (closing_at CurlyClose) (selection_read S) (cursor S selections_inner)
  unfolding selections_inner
  selections_repeat = several_repeats S (symbol a_selection) tt (IsSelection S) (λ n. selection_rule S n n (le_refl n))
      (selection_takes S) CurlyClose refl (inl refl)

  -- ---- documents

  document_fits : Fits S document
  unfolding document
  document_fits = (
    definition_fits S,
    λ x. (
      closed_answer S definition (IsDefinition S)
          (λ n. definition_rule S n n (le_refl n)) (definition_takes S) EndOfFile refl (inl refl),
      λ xs q. tt,
    ),
  )

  pub document_seen : (ts : List Lexeme) → seen (fully (λ n. reads S n document) ts) ≡ cursor S document ts
  document_seen = shown_fully S (symbols_shown S) document document_fits
      (reads_answer S document (IsDocument S) (λ n. document_rule S n n (le_refl n)))

  definition_seen : (ts : List Lexeme) → seen (fully (λ n. reads S n definition) ts) ≡ cursor S definition ts
  definition_seen = shown_fully S (symbols_shown S) definition (definition_fits S)
      (reads_answer S definition (IsDefinition S) (λ n. definition_rule S n n (le_refl n)))

  -- The tokens that were taken for a definition are that definition.
  pub definition_taken : (ts rest : List Lexeme) (d : Definition C) → cursor S definition ts ≡ Ok (d, rest)
      → (us : List Lexeme) × (ts ≡ us ++ rest) × IsDefinition S d us
  unfolding fully
  definition_taken ts rest d e =
      let n : ℕ = suc (length ts) in
      let took = seen_took (reads S n definition ts) d rest (definition_seen ts ∙ e) in
      let meets = rw took at ((definition_rule S n n (le_refl n)).at ts) in
      (meets.0, meets.1, meets.2)

  pub definitions_repeat : RepeatsSome (closing_at EndOfFile) (cursor S definition) (cursor S document)
  unfolding document
  definitions_repeat = several_repeats S definition (definition_fits S) (IsDefinition S)
      (λ n. definition_rule S n n (le_refl n)) (definition_takes S) EndOfFile refl (inl refl)

-- ---- operations

operation_says : (begins : Bool) (type o : OperationType) → cond begins (Some type) None ≡ Some o
    → (begins ≡ true) × (type ≡ o)
operation_says true type o e = (refl, cc e)
operation_says false type o e = absurd (cc e)

-- the word that an operation begins with is not the end
pub operation_is_no_end : (ts : List Lexeme) (o : OperationType)
    → cond (passes operation_word (first_of ts)) (Some (operation_of (first_of ts).text)) None ≡ Some o
    → same_kind (kind_at ts) EndOfFile ≡ false
operation_is_no_end ts o e =
    operation_no_end (first_of ts)
    (operation_says (passes operation_word (first_of ts)) (operation_of (first_of ts).text) o e).0

begins_no_operation : (begins : Bool) (type : OperationType) → cond begins (Some type) None ≡ None → begins ≡ false
begins_no_operation true type e = absurd (cc e)
begins_no_operation false type e = refl

-- A definition is read by its first token.
module _ {C : Type 0} (S : Scalars C Error) (ts : List Lexeme) where
  pub operation_begins : (o : OperationType) (rest : List Lexeme)
      → cond (passes operation_word (first_of ts)) (Some (operation_of (first_of ts).text)) None ≡ Some o
      → next_at ts ≡ Ok (first_of ts, rest) → cursor S definition_parts ts ≡ cursor S (operation o) rest
  operation_begins o rest e f =
      let says = operation_says (passes operation_word (first_of ts)) (operation_of (first_of ts).text) o e in
      rw (says.0, f) (ap (λ (x : OperationType). cursor S (operation x) rest) says.1)

  module _ (none : cond (passes operation_word (first_of ts)) (Some (operation_of (first_of ts).text)) None ≡ None)
    where
      no : passes operation_word (first_of ts) ≡ false
      no = begins_no_operation (passes operation_word (first_of ts)) (operation_of (first_of ts).text) none

      pub fragment_begins : (rest : List Lexeme) → passes (word (codes "fragment")) (first_of ts) ≡ true
          → next_at ts ≡ Ok (first_of ts, rest) → cursor S definition_parts ts ≡ cursor S fragment rest
      fragment_begins rest says f = rw (no, says, f) refl

      pub shorthand_begins : passes (word (codes "fragment")) (first_of ts) ≡ false
          → cursor S definition_parts ts ≡ cursor S shorthand ts
      shorthand_begins says = rw (no, says) refl
