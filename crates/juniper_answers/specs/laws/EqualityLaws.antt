-- Equality of entries is an equivalence, since that of values is one.
use Rattle.std.specs.Prelude.{Bool}
use Rattle.std.specs.Cmp.{IsPartialEquivalence, IsEquivalence, equiv, partial_equiv_from_equiv}
use Rattle.std.specs.HashMap.Eq.{hash_map_eq_symm, hash_map_eq_trans, hash_map_eq_refl}
use Rattle.std.specs.String.{string_eq, string_eq_equiv}
use Rattle.juniper_answers.specs.Entries.{entries_of}
use Rattle.juniper_answers.specs.Same.{as_map, same_entries, same_held}

module _ {V : Type 0} (E : V → V → Bool) where
  same_entries_per : IsPartialEquivalence E → IsPartialEquivalence (same_entries E)
  same_entries_per l = record {
    symm = λ es fs. hash_map_eq_symm string_eq E l.symm (as_map es) (as_map fs);
    trans = λ es fs gs. hash_map_eq_trans string_eq E string_eq_equiv l.trans (as_map es) (as_map fs) (as_map gs);
  }

  pub same_held_per : IsPartialEquivalence E → IsPartialEquivalence (same_held E)
  same_held_per l =
      let h = same_entries_per l in
      record { symm = λ a b. h.symm (entries_of a) (entries_of b); trans = λ a b c. h.trans (entries_of a) (entries_of b) (entries_of c) }

  pub same_held_equiv : IsEquivalence E → IsEquivalence (same_held E)
  same_held_equiv l =
      equiv (same_held_per (partial_equiv_from_equiv l)) (λ a. hash_map_eq_refl string_eq E l.refl (as_map (entries_of a)))
