use Rattle.std.proofs.Common.{◌≡◌, drop}
use Rattle.juniper_tree.specs.Named.{first_named}
use Rattle.juniper_tree.proofs.ast.VariableDefinitions.get.Given as goal

abbrev pub invariant-loop-definition : goal.invariant-loop-definition
invariant-loop-definition g l = first_named l.name l.definition-items
    ≡ first_named l.name (drop l.definition-index l.definition-items)
