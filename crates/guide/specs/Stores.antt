-- A store of queries, by their canonical texts.
use Rattle.std.specs.Prelude.{◌≡◌, ℕ, List, Option, Some, encode_utf8_all}
use Rattle.std.specs.BTreeMap.{BTreeMap, get_by_text}
use Rattle.std.specs.Map.{update}
use Rattle.std.specs.Str.{bytes_eq}
use Rattle.std.specs.declared.string.String.{String}
use Rattle.graphql_lexical.specs.Canonical.{canonical}
use Rattle.graphql_lexical.specs.Cutting.{Lexeme, Cut}

module _ {Y : Type 0} where
  -- the text has tokens, and the store has this number at their canonical text, and what it had at others
  abbrev pub Stores : List ℕ → ℕ → BTreeMap (String Y) ℕ → BTreeMap (String Y) ℕ → Type 0
  Stores source number old new = (tokens : List Lexeme) × Cut source tokens × ((text : List ℕ) → get_by_text new text
      ≡ update bytes_eq (get_by_text old) (encode_utf8_all (canonical tokens)) (Some number) text)

  -- the text has tokens, and this is what the store has at their canonical text
  abbrev pub Finds : List ℕ → BTreeMap (String Y) ℕ → Option ℕ → Type 0
  Finds source store found = (tokens : List Lexeme) × Cut source tokens
      × (found ≡ get_by_text store (encode_utf8_all (canonical tokens)))
