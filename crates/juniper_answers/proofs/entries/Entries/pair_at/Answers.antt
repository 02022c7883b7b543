use Rattle.std.proofs.Common.{◌≡◌, ap, ◌∙◌, length, get_or, arith}
use Rattle.std.proofs.lemmas.Slice.Zip.{length-zip}
use Rattle.std_collections.proofs.Zip.{slice_get-zip}
use Rattle.juniper_answers.proofs.entries.Entries.pair_at.Goals as goal

pub bounds-as_slice-place : goal.bounds-as_slice-place
bounds-as_slice-place g c =
    omega (
      arith,
      ap length c.as_slice.ensures.keys,
      c.requires,
      length-zip c.args.self.now.keys.keys c.args.self.now.values.items,
    )

pub offset_bounds-as_slice-place : goal.offset_bounds-as_slice-place
offset_bounds-as_slice-place g c =
    omega (
      arith,
      ap length c.as_slice.ensures.keys,
      c.requires,
      length-zip c.args.self.now.keys.keys c.args.self.now.values.items,
      c.as_slice.type_inv.1,
    )

pub index-requires : goal.index-requires
index-requires g c =
    omega (
      arith,
      c.args.self.now.values.ok.0,
      c.requires,
      length-zip c.args.self.now.keys.keys c.args.self.now.values.items,
    )

pub returns : goal.returns
returns g c =
    let ks = c.args.self.now.keys.keys in
    let vs = c.args.self.now.values.items in
    let i = c.args.place in
    let k = c.index-as_slice-place.result in
    let at : k ≡ get_or ks i k = c.index-as_slice-place.is ∙ ap (λ l. get_or l i k) c.as_slice.ensures.keys in
    slice_get-zip ks vs i _ _ (omega (arith, c.requires, length-zip ks vs))
    (omega (arith, c.requires, length-zip ks vs)) at c.index.ensures
