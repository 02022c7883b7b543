-- How an item with its place is shown.
use Rattle.std.specs.Prelude.{ℕ, List, ◌++◌, codes, Option, Some, None}
use Rattle.graphql_lexical.specs.Place.{Place}
use Rattle.juniper_tokens.specs.Positions.{position_text}

-- the text of an item and of where it starts
abbrev pub spanning_text : Option (List ℕ) → Place → Option (List ℕ)
spanning_text None p = None
spanning_text (Some bs) p = Some (bs ++ codes ". At " ++ position_text p)
