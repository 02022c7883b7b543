-- The canonical text of tokens.
use Rattle.std.specs.Prelude.{ℕ, Bool, not, ◌&&◌, ◌||◌, List, [], ◌∷◌, ◌++◌, if◌then◌else◌, codes}
use Rattle.graphql_lexical.specs.Kinds.{Kind, Ellipsis, same_kind, is_fixed}
use Rattle.graphql_lexical.specs.Cutting.{Lexeme}
use Rattle.graphql_lexical.specs.Tokens.{written}

-- whether neighbours of these kinds are separated: the first is no punctuator, and the next isn't one either, or it is
-- `...`
abbrev pub is_parted : Kind → Kind → Bool
is_parted kind next = not (is_fixed kind) && (not (is_fixed next) || same_kind next Ellipsis)

-- a space, or nothing
abbrev pub space_if : Bool → List ℕ
space_if parted = if parted then codes " " else []

-- what stands between a token of this kind and those after it
abbrev pub parting : Kind → List Lexeme → List ℕ
parting kind [] = []
parting kind (x ∷ xs) = space_if (is_parted kind x.kind)

-- The tokens as they are written, one after another, with one space between neighbours that are separated.
abbrev pub canonical : List Lexeme → List ℕ
canonical [] = []
canonical (x ∷ xs) = written x.kind x.text ++ (parting x.kind xs ++ canonical xs)
