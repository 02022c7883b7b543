use Rattle.std.specs.Str.{chars}
use Rattle.juniper_tree.specs.View.{view_document}
use Rattle.juniper_odd.specs.ReadBy.{held_content}
use Rattle.juniper_odd.proofs.WithoutScalars.{accepts_exactly}
use Rattle.juniper_odd.proofs.laws.documents_without_scalars.Goals as goal

pub returns-clause-exactly : goal.returns-clause-exactly
returns-clause-exactly c =
    accepts_exactly (view_document held_content) (chars c.args.source.now) c.parse.result c.scalar_tokens.ensures.read
    c.scalar_tokens.ensures.of_others (c.refusals_by_clauses.ensures.clauses (chars c.args.source.now))
    c.parse.ensures.accepted c.parse.ensures.refused
