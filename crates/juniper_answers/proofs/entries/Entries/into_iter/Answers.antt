use Rattle.std.proofs.Common.{sym, subst, length}
use Rattle.std.specs.List.{IsDistinct}
use Rattle.std.specs.String.{string_eq, string_eq_equiv}
use Rattle.std_collections.proofs.IterRuns.{gives_in_order, shows_values_in_order}
use Rattle.indexmap.proofs.MapLemmas.{distinct-take}
use Rattle.juniper_answers.proofs.Sides.{keys_shown}
use Rattle.juniper_answers.proofs.entries.Entries.into_iter.Goals as goal

pub returns-clause-runs : goal.returns-clause-runs
returns-clause-runs g c = gives_in_order

pub returns-clause-values_run : goal.returns-clause-values_run
returns-clause-values_run g c = shows_values_in_order (λ p. p)

pub returns-clause-distinct : goal.returns-clause-distinct
returns-clause-distinct g c =
    let ks = c.args.self.keys.keys in
    let vs = c.args.self.values.items in
    subst (IsDistinct string_eq) (sym (keys_shown ks vs))
    (distinct-take string_eq_equiv (length vs) ks c.into_iter.ensures.into_iter_gives.3)
