use Rattle.std.proofs.Common.{◌∙◌, refl, arith}
use Rattle.std.proofs.lemmas.Slice.Zip.{length-zip}
use Rattle.std_collections.proofs.Zip.{slice_get_at}
use Rattle.juniper_answers.proofs.Sides.{value_shown}
use Rattle.juniper_answers.proofs.entries.Entries.value_mut.Goals as goal

pub index_mut-requires : goal.index_mut-requires
index_mut-requires g c =
    omega (
      arith,
      c.args.self.now.values.ok.0,
      c.requires,
      length-zip c.args.self.now.keys.keys c.args.self.now.values.items,
    )

pub returns : goal.returns
returns g c =
    let ks = c.args.self.now.keys.keys in
    let vs = c.args.self.now.values.items in (
      (refl, λ w. refl),
      record {
        writes_back = tt;
        value = value_shown ks vs c.args.place c.requires
            ∙ slice_get_at vs c.args.place _ (omega (arith, c.requires, length-zip ks vs)) c.index_mut.ensures.value;
      },
    )
