-- A device: the names that a set has.
use Rattle.std.specs.Prelude.{◌≡◌, ℕ, List}
use Rattle.std.specs.Borrow.{Bor}
use Rattle.std.specs.BTreeSet.{BTreeSet, contains_by}
use Rattle.std.specs.Cmp.Lexicographic.{slice_cmp}
use Rattle.std.specs.List.{list_any}
use Rattle.std.specs.Ordering.{nat_cmp}
use Rattle.std.specs.Str.{IsUtf8, chars}
use Rattle.graphql_grammar.specs.Tokens.{Text}
use Rattle.juniper_values.specs.Text.{same_text}

-- the set has these names, and no others
abbrev pub HasSeen : BTreeSet (Bor (List ℕ)) → List Text → Type 0
HasSeen seen names = (name : List ℕ) → IsUtf8 name
    → contains_by (λ k. slice_cmp nat_cmp name k.now) seen ≡ list_any (same_text (chars name)) names
