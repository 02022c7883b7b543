-- Values at the fronts of texts, and whether two of them are the same.
use Rattle.std.specs.Prelude.{◌≡◌, ◌⊎◌, ℕ, Bool, true, List, ◌++◌}
use Rattle.graphql_lexical.specs.Place.{Place}
use Rattle.graphql_lexical.specs.Kinds.{LexicalError}
use Rattle.graphql_lexical.specs.Cutting.{Lexeme, Cut, Breaks}
use Rattle.graphql_grammar.specs.Tokens.{Located}
use Rattle.graphql_grammar.specs.Tree.{Scalars, Value}
use Rattle.graphql_grammar.specs.Grammar.{IsLocated, IsValue}
use Rattle.graphql_grammar.specs.Faults.{ValueRefusedAt}
use Rattle.juniper_tokens.specs.declared.span.Spanning.{Spanning}
use Rattle.juniper_tokens.specs.Errors.{Error, UnexpectedEndOfFile, Fault}
use Rattle.juniper_values.specs.Same.{same_but_place}
use Rattle.juniper_values.specs.View.{view}
use Rattle.juniper_values.specs.declared.input_value.InputValue.{InputValue}
use Rattle.juniper_parser.specs.Promise.{lexical_fault, unexpected, Refuses}
use Rattle.juniper_tree.specs.View.{view_value}

module _ {C : Type 0} (scalars : Scalars C Error) where
  -- The text can be tokenized, and its first tokens are this value, with or without variables.
  pub record BeginsWith (source : List ℕ) (value : Located (Value C)) : Type 0 where
    pub lexemes : List Lexeme
    pub cut : Cut source lexemes
    pub front : List Lexeme
    pub left : List Lexeme
    pub whole : lexemes ≡ front ++ left
    pub means : IsLocated (IsValue scalars true) value front

  -- The text begins with no value. If it can't be tokenized, the fault is its first lexical error. Else the fault is at
  -- the first token that cannot continue a value.
  pub record HasNoValue (source : List ℕ) (fault : Fault) : Type 0 where
    pub none : (value : Located (Value C)) → BeginsWith source value → ⊥
    pub lexical : (error : LexicalError) (at : Place) → Breaks source error at → fault ≡ lexical_fault error at
    pub grammatical : (lexemes : List Lexeme) → Cut source lexemes → (left : List Lexeme)
        × Refuses (IsLocated (IsValue scalars true)) (ValueRefusedAt UnexpectedEndOfFile unexpected scalars true) fault
        lexemes left

  -- The fault is that of the first of two texts that begins with no value.
  abbrev pub FirstFault : List ℕ → List ℕ → Fault → Type 0
  FirstFault one other fault = HasNoValue one fault
      ⊎ (((value : Located (Value C)) × BeginsWith one value) × HasNoValue other fault)

  -- Both texts begin with values, which are equal regardless of their places, or are not, as the result says.
  pub record AreCompared {S : Type 0} (content : S → C) (equal : S → S → Bool) (one other : List ℕ) (answer : Bool)
      : Type 0 where
    pub value : Spanning (InputValue S)
    pub other_value : Spanning (InputValue S)
    pub begins : BeginsWith one (view_value content value)
    pub other_begins : BeginsWith other (view_value content other_value)
    pub compared : answer ≡ same_but_place equal (view (λ s. s) value.item) (view (λ s. s) other_value.item)
