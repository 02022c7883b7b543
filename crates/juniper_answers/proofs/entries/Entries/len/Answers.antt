use Rattle.std.proofs.Common.{◌≡◌, sym, subst, length, arith}
use Rattle.std.proofs.lemmas.Slice.Zip.{length-zip}
use Rattle.std.specs.List.{IsDistinct}
use Rattle.std.specs.String.{string_eq, string_eq_equiv}
use Rattle.indexmap.proofs.MapLemmas.{distinct-take}
use Rattle.juniper_answers.proofs.Sides.{keys_shown}
use Rattle.juniper_answers.proofs.entries.Entries.len.Goals as goal

pub returns-clause-len : goal.returns-clause-len
returns-clause-len g c =
    let ks = c.args.self.now.keys.keys in
    let vs = c.args.self.now.values.items in
    let n : c.len.result ≡ length ks = c.len.ensures.len in
    omega (arith, c.min.ensures, c.len-2.ensures, c.args.self.now.values.ok.0, n, length-zip ks vs)

pub returns-clause-distinct : goal.returns-clause-distinct
returns-clause-distinct g c =
    let ks = c.args.self.now.keys.keys in
    let vs = c.args.self.now.values.items in
    subst (IsDistinct string_eq) (sym (keys_shown ks vs))
    (distinct-take string_eq_equiv (length vs) ks c.len.ensures.unique)
