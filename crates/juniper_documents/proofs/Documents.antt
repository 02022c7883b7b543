-- The loop over definitions.
use Rattle.std.proofs.Common.{◌≡◌, Bool, true, false, cond, List, [], ◌∷◌, ◌++◌, drop, Ok, Option, Some, None, sym, ap}
use Rattle.graphql_lexical.specs.Place.{Span}
use Rattle.graphql_lexical.specs.declared.kind.Kind.TheVariants.{EndOfFile}
use Rattle.graphql_lexical.specs.Kinds.{same_kind}
use Rattle.graphql_lexical.specs.Cutting.{Lexeme}
use Rattle.graphql_grammar.specs.Tree.{Scalars, Definition}
use Rattle.graphql_grammar.specs.device.Productions.{definition, document}
use Rattle.juniper_tokens.specs.declared.error.ParseFailure.{ParseFailure}
use Rattle.juniper_tokens.specs.Errors.{Error}
use Rattle.juniper_tokens.specs.Cursor.{Read, Fails, EndsOnce, first_of, kind_at}
use Rattle.juniper_parser.specs.device.Steps.{cursor}
use Rattle.juniper_parser.proofs.Public.{before_others, some_go_on, some_end, some_item_fails}
use Rattle.juniper_parser.proofs.Public.{definitions_repeat}

abbrev at_end : List Lexeme → Bool → Option Span × List Lexeme
at_end ts b = cond b (Some (first_of ts).span, drop 1 ts) (None, ts)

-- p is what is left where a turn begins, q after its definition
module _ {C : Type 0} (S : Scalars C Error) (front : List (Definition C)) (p : List Lexeme)
    {total : Read (List (Definition C))} (so_far : before_others front (cursor S document p) ≡ total) where
  pub go_on : {a : Definition C} {q : List Lexeme} → cursor S definition p ≡ Ok (a, q) → EndsOnce q
      → same_kind (kind_at q) EndOfFile ≡ false → before_others (front ++ a ∷ []) (cursor S document q) ≡ total
  go_on {a} {q} first ended e = some_go_on (definitions_repeat S) front p so_far first ended (ap (at_end q) (sym e))

  pub end : {a : Definition C} {q : List Lexeme} → cursor S definition p ≡ Ok (a, q) → EndsOnce q
      → same_kind (kind_at q) EndOfFile ≡ true → total ≡ Ok (front ++ a ∷ [], drop 1 q)
  end {a} {q} first ended e = some_end (definitions_repeat S) front p so_far first ended (ap (at_end q) (sym e))

  pub fail : (e : ParseFailure) (left : List Lexeme) → Fails e left (cursor S definition p) → Fails e left total
  fail = some_item_fails (definitions_repeat S) front p so_far
