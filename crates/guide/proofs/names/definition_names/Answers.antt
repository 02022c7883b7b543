use Rattle.std.specs.Prelude.{ℕ, List, Option}
use Rattle.std.specs.Borrow.{Bor}
use Rattle.std.specs.Global.{Vec}
use Rattle.std.proofs.lemmas.Result.{IfOk-weaker}
use Rattle.guide.proofs.DefinitionNames.{names_of_definitions}
use Rattle.guide.proofs.names.definition_names.Goals as goal

pub returns-clause-names : goal.returns-clause-names
returns-clause-names c =
    IfOk-weaker c.build_document_source.result _ _
    (λ (names : Vec (Option (Bor (List ℕ)))) built. record {
      tree = built.tree;
      has_tree = built.has_tree;
      are = names_of_definitions _ _ names.items built.tree built.are_built;
    })
    c.build_document_source.ensures.accepted
