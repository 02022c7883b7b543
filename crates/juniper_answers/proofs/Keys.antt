-- Keys between quotes.
use Rattle.std.proofs.Common.{◌≡◌, sym, ℕ, List, [], ◌∷◌, ◌++◌, append_assoc}
use Rattle.std.specs.Str.{chars, IsUtf8}
use Rattle.std.proofs.lemmas.Str.{encodes-chars, encodes-append}
use lib.Utf8.{encode, encodes}
use Rattle.graphql_lexical.specs.Display.{quoted}

pub encodes-key : (bs : List ℕ) → IsUtf8 bs
    → 34 ∷ (bs ++ 34 ∷ 58 ∷ 32 ∷ []) ≡ encodes (quoted (chars bs) ++ 58 ∷ 32 ∷ [])
unfolding encode
encodes-key bs u = sym (simp (encodes-append, append_assoc, encodes-chars bs u))
