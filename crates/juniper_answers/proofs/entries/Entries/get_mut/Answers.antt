use Rattle.std.proofs.Common.{refl, sym, ◌∙◌}
use Rattle.std_collections.proofs.HashLookup.{set_value-IsFirst}
use Rattle.std_collections.proofs.Zip.{zip-set_value}
use Rattle.indexmap.proofs.MapLemmas.{Found-position, Missing-position}
use Rattle.juniper_answers.specs.Entries.{entries_of}
use Rattle.juniper_answers.specs.Keys.{has_text}
use Rattle.juniper_answers.proofs.entries.Entries.get_mut.Goals as goal

pub value_mut-requires : goal.value_mut-requires
value_mut-requires g c = (Found-position (has_text c.args.key.now) (entries_of c.args.self.now) _
    (sym c.in-Some.ensures)).within

pub returns-in-Some : goal.returns-in-Some
returns-in-Some g c =
    let e = c.args.self.now in
    let f = Found-position (has_text c.args.key.now) (entries_of e) _ (sym c.in-Some.ensures) in (
      (
        refl,
        λ w. zip-set_value e.keys.keys e.values.items c.in-Some.place w
            ∙ set_value-IsFirst (has_text c.args.key.now) (entries_of e) _ w f.first,
        refl,
      ),
      sym (f.value ∙ c.value_mut.ensures.value),
    )

pub returns-in-None : goal.returns-in-None
returns-in-None g c =
    let m = Missing-position (has_text c.args.key.now) (entries_of c.args.self.now) (sym c.in-None.ensures) in
    ((refl, λ w. tt, refl), sym m.value)
