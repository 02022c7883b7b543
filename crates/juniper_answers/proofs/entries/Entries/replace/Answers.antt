use Rattle.std.proofs.Common.{◌∙◌, ap, sym, Some, arith}
use Rattle.std.proofs.lemmas.Slice.Zip.{length-zip}
use Rattle.std_collections.proofs.Zip.{slice_get_at, zip-set_value}
use Rattle.indexmap.specs.IndexMap.{set_value_at}
use Rattle.juniper_answers.specs.Entries.{entries_of}
use Rattle.juniper_answers.proofs.Sides.{value_shown}
use Rattle.juniper_answers.proofs.entries.Entries.replace.Goals as goal

pub index_mut-requires : goal.index_mut-requires
index_mut-requires g c =
    omega (
      arith,
      c.args.self.now.values.ok.0,
      c.requires,
      length-zip c.args.self.now.keys.keys c.args.self.now.values.items,
    )

pub returns-clause-took : goal.returns-clause-took
returns-clause-took g c =
    let ks = c.args.self.now.keys.keys in
    let vs = c.args.self.now.values.items in
    value_shown ks vs c.args.place c.requires
    ∙ slice_get_at vs c.args.place c.index_mut.result.now (omega (arith, c.requires, length-zip ks vs))
    c.index_mut.ensures.value ∙ ap Some (sym c.replace.ensures.value)

pub returns-clause-after : goal.returns-clause-after
returns-clause-after g c =
    zip-set_value c.args.self.now.keys.keys c.args.self.now.values.items c.args.place _
    ∙ ap (set_value_at (entries_of c.args.self.now) c.args.place) c.replace.ensures.after
