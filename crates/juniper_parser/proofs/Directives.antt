-- Some directives are not none.
use Rattle.std.proofs.Common.{◌≡◌, List, [], ◌∷◌, ◌++◌, Some, refl}
use Rattle.graphql_grammar.specs.Tokens.{Located}
use Rattle.graphql_grammar.specs.Tree.{Directive}
use Rattle.graphql_grammar.specs.device.Productions.{directives_of}

pub some_directives : {C : Type 0} (ds : List (Located (Directive C))) (d : Located (Directive C))
    → directives_of (ds ++ d ∷ []) ≡ Some (ds ++ d ∷ [])
some_directives [] d = refl
some_directives (e ∷ ds) d = refl
