use Rattle.std.proofs.Common.{◌≡◌, drop}
use Rattle.juniper_tree.specs.Named.{first_named}
use Rattle.juniper_tree.proofs.ast.Arguments.get.Given as goal

abbrev pub invariant-loop-argument : goal.invariant-loop-argument
invariant-loop-argument g l = first_named l.name l.argument-items
    ≡ first_named l.name (drop l.argument-index l.argument-items)
