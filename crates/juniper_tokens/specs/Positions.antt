-- Steps from place to place.
use Rattle.std.specs.Prelude.{ℕ, ◌+◌, List, ◌++◌, codes}
use Rattle.std.specs.Fmt.{decimal}
use Rattle.graphql_lexical.specs.Place.{Place}

-- some characters on, in the same line
abbrev pub columns_on : ℕ → Place → Place
columns_on n p = record { index = p.index + n; line = p.line; column = p.column + n }

-- the text of a place, as `2:7`
abbrev pub position_text : Place → List ℕ
position_text p = decimal p.line ++ codes ":" ++ decimal p.column
