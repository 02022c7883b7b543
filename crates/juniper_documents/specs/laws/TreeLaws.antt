-- What the laws of this crate say of cuts and of lexical errors.
use Rattle.std.specs.Prelude.{◌≡◌, ℕ, List, Err}
use Rattle.graphql_lexical.specs.Place.{Place}
use Rattle.graphql_lexical.specs.Kinds.{LexicalError}
use Rattle.graphql_lexical.specs.Cutting.{Lexeme, Breaks}
use Rattle.juniper_tokens.specs.declared.error.LexFailure.{LexFailure}
use Rattle.juniper_tokens.specs.declared.error.ParseFailure.{ParseFailure}
use Rattle.juniper_tokens.specs.declared.error.ParseFailure.TheVariants.{Refused, Memory}
use Rattle.juniper_tokens.specs.Errors.{view_fault, view_lexer_error}
use Rattle.juniper_tokens.specs.Gathering.{IfFault}
use Rattle.juniper_parser.specs.Promise.{lexical_fault}

-- The lexer failed where the source breaks, with its error and with zero width, or memory ran out.
pub record FailsAtBreak (source : List ℕ) (failed : LexFailure) : Type 0 where
  pub breaks : IfFault {X = List Lexeme} (Err failed) (λ fault. Breaks source (view_lexer_error fault.item) fault.span.start)
  pub zero_width : IfFault {X = List Lexeme} (Err failed) (λ fault. fault.span.end ≡ fault.span.start)

-- The text is refused for the lexical error at which it breaks, or memory ran out.
abbrev pub IsRefusedAtBreak : List ℕ → ParseFailure → Type 0
IsRefusedAtBreak source (Refused fault) = (error : LexicalError) × (at : Place) × Breaks source error at × (view_fault fault ≡ lexical_fault error at)
IsRefusedAtBreak source Memory = Unit {0}
