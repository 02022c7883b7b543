use Rattle.std.proofs.Common.{sym, subst, length}
use Rattle.std.specs.List.{IsDistinct}
use Rattle.std.specs.Map.Iter.{deref_pair}
use Rattle.std.specs.String.{string_eq, string_eq_equiv}
use Rattle.std_collections.proofs.IterRuns.{shows_in_order, shows_values_in_order}
use Rattle.indexmap.proofs.MapLemmas.{distinct-take}
use Rattle.juniper_answers.proofs.Sides.{keys_shown}
use Rattle.juniper_answers.proofs.entries.Entries.iter.Goals as goal

pub returns-clause-runs : goal.returns-clause-runs
returns-clause-runs g c = shows_in_order deref_pair

pub returns-clause-values_run : goal.returns-clause-values_run
returns-clause-values_run g c = shows_values_in_order deref_pair

pub returns-clause-distinct : goal.returns-clause-distinct
returns-clause-distinct g c =
    let ks = c.args.self.now.keys.keys in
    let vs = c.args.self.now.values.items in
    subst (IsDistinct string_eq) (sym (keys_shown ks vs))
    (distinct-take string_eq_equiv (length vs) ks c.as_slice.ensures.unique)
