-- How long a canonical text is.
use Rattle.std.proofs.Common.{◌*◌, ◌≤◌, ℕ, List, length, ap, arith}
use Rattle.std.specs.Prelude.{chars, encode_utf8_all}
use Rattle.std.proofs.lemmas.Str.{encodes-chars}
use Rattle.graphql_lexical.specs.Canonical.{canonical}
use Rattle.graphql_lexical.specs.Cutting.{Lexeme}
use Rattle.graphql_lexical.proofs.Public.{has_canonical_sizes}
use Rattle.firthnapkin_results.specs.Tokens.{HasTokens}

-- a source is at least half as long
pub canonical_within : (source : List ℕ) (lexemes : List Lexeme) → HasTokens source lexemes
    → length (encode_utf8_all (canonical lexemes)) ≤ 2 * length source
canonical_within source lexemes h =
    let sizes = has_canonical_sizes (chars source) lexemes h.cut in
    omega (arith, sizes.1.twice, ap length (encodes-chars source h.utf8))
