-- What is answered for a source whose tokens are read as they are asked for.
use Rattle.std.proofs.Common.{◌≡◌, ℕ, ◌+◌, ◌≤◌, List, [], length, sym, subst, Ok, Err}
use Rattle.std.specs.Prelude.{Option}
use Rattle.graphql_lexical.specs.Cutting.{Cut, Lexeme}
use Rattle.graphql_grammar.specs.Tree.{Scalars, Definition}
use Rattle.graphql_grammar.specs.device.Productions.{document}
use Rattle.juniper_tokens.specs.declared.error.ParseFailure.{ParseFailure}
use Rattle.juniper_tokens.specs.declared.error.ParseFailure.TheVariants as failure
use Rattle.juniper_tokens.specs.declared.span.Span.{Span}
use Rattle.juniper_tokens.specs.Cursor.{Fails}
use Rattle.juniper_tokens.specs.Errors.{Error}
use Rattle.juniper_tokens.specs.Nesting.{EndsAtNesting}
use Rattle.juniper_documents.specs.declared.document.depth.DepthFailure.{DepthFailure}
use Rattle.juniper_documents.specs.declared.document.depth.DepthFailure.TheVariants as within
use Rattle.juniper_parser.specs.Promise.{HasTree}
use Rattle.juniper_documents.specs.Within.{FailsWithin, IsWithin, failure_within}
use Rattle.juniper_documents.specs.Limited.{FailsLimited, HasFewTokens, failure_limited}
use Rattle.juniper_documents.specs.device.Ended.{EndsWithin}
use Rattle.juniper_parser.specs.device.Steps.{cursor}
use Rattle.juniper_documents.proofs.DepthLimits.{answers_within, fails_within}

-- a source whose tokens were counted, and whether one is nested too deep
abbrev pub Checked : ℕ → ℕ → List ℕ → Option Span → Type 0
Checked depth most source deep = (lexemes : List Lexeme) × Cut source lexemes × (length lexemes ≤ most + 1)
    × ((new : List Lexeme) × EndsAtNesting depth lexemes deep new)

-- the tokens of which these are those up to a deep one
abbrev pub EndedOf : ℕ → List ℕ → Option Span → List Lexeme → Type 0
EndedOf depth source deep tokens =
    (lexemes : List Lexeme) × Cut source lexemes × EndsAtNesting depth lexemes deep tokens

pub checked_ends : (depth most : ℕ) (source : List ℕ) (tokens : List Lexeme) → EndsWithin depth most source tokens
    → (deep : Option Span) → Checked depth most source deep → EndedOf depth source deep tokens
checked_ends depth most source tokens are deep (lexemes, cut, few, (new, ends)) =
    (lexemes, cut, subst (EndsAtNesting depth lexemes deep) (sym (are lexemes deep new cut few ends)) ends)

module _ {C : Type 0} (S : Scalars C Error) (depth : ℕ) (source : List ℕ) where
  -- what is known of definitions that were read of the tokens up to their end
  pub tree_of : (tokens : List Lexeme) (deep : Option Span) → EndedOf depth source deep tokens
      → (definitions : List (Definition C)) (rest : List Lexeme)
      → cursor S document tokens ≡ Ok (definitions, rest) → HasTree S source definitions × IsWithin S depth source
  tree_of tokens deep ended definitions rest reads =
      let answers = answers_within S depth source {X = Unit {0}} (λ x. definitions) ended.0 ended.1 deep tokens
      (Ok tt) ended.2 (rest, reads) in
      (answers.accepted, answers.within)

module _ {C : Type 0} (S : Scalars C Error) (depth most : ℕ) (source : List ℕ) where
  -- a failure within a depth, of few tokens
  deep_limited : (e : DepthFailure) → FailsWithin S depth source e → HasFewTokens most source
      → FailsLimited S depth most source (failure_limited e)
  deep_limited (within.Parse (failure.Refused fault)) h few = (h.0, h.1, few)
  deep_limited (within.Parse failure.Memory) h few = tt
  deep_limited (within.TooDeep span) h few = (h, few)

  -- what a failure says that was met before the tokens were checked
  pub checked_failure : (tokens rest : List Lexeme) → EndsWithin depth most source tokens → (e : ParseFailure)
      → Fails e rest (cursor S document tokens)
      → (deep : Option Span) → Checked depth most source deep → HasFewTokens most source
      → FailsLimited S depth most source (failure_limited (failure_within deep e))
  checked_failure tokens rest are e fails deep checked few =
      let view : Unit {0} → List (Definition C) = λ x. [] in
      let found = checked_ends depth most source tokens are deep checked in
      let answers = answers_within S depth source view found.0 found.1 deep tokens (Err e) found.2 (rest, fails) in
      deep_limited (failure_within deep e) (fails_within S depth source view (failure_within deep e) answers) few
