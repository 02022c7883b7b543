-- A space between tokens, by what is remembered of the one before.
use Rattle.std.specs.Prelude.{Bool, not, ◌&&◌, ◌||◌}
use Rattle.graphql_lexical.specs.declared.kind.Kind.{Kind}
use Rattle.graphql_lexical.specs.declared.kind.Kind.TheVariants.{Ellipsis}
use Rattle.graphql_lexical.specs.Kinds.{same_kind, is_fixed}

-- whether a space stands before a token of this kind, after one that is bare (neither a punctuator nor the end) or
-- isn't
abbrev pub is_after_space : Bool → Kind → Bool
is_after_space is_bare next = (not (is_fixed next) || same_kind next Ellipsis) && is_bare
