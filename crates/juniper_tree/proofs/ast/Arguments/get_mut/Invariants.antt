use Rattle.std.proofs.Common.{◌≡◌, drop}
use Rattle.juniper_tree.specs.Named.{first_named}
use Rattle.juniper_tree.proofs.ast.Arguments.get_mut.Given as goal

abbrev pub invariant-loop-i : goal.invariant-loop-i
invariant-loop-i g l = (l.self ≡ l.initial.self) × (first_named l.name l.self.items.items
    ≡ first_named l.name (drop l.i l.self.items.items))
