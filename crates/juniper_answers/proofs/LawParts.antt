-- Equality, plain input values, and iterators.
use Rattle.std.proofs.Common.{◌≡◌, Bool, None, List, [], ◌∷◌, length, map, refl, sym, ap, ◌∙◌, rules}
use Rattle.std.specs.Cmp.{IsEquivalence}
use Rattle.std.specs.Iterator.{Yields, at_most}
use Rattle.std.specs.Map.Iter.{TakesFirst}
use Rattle.juniper_values.specs.laws.ValueLaws.{IsEqualityLike}
use Rattle.juniper_answers.specs.Data.{Data, null, scalar, list, object, Items, no_items, item, Fields, no_fields, field}
use Rattle.juniper_answers.specs.Input.{as_input, items_as_input, fields_as_input}
use Rattle.juniper_answers.specs.laws.AnswerLaws.{IsPlainInput, ArePlainItems, ArePlainFields, ShowsAll}

pub equality_like : {A : Type 0} (eq : A → A → Bool) → IsEquivalence eq → IsEqualityLike eq
equality_like eq l = record { reflexive = l.refl; symmetric = l.symm; transitive = λ a b c p q. l.congr a b c p ∙ q }

module _ {C : Type 0} where
  mutual
    pub plain : (d : Data C) → IsPlainInput (as_input d)
    plain null = tt
    plain (scalar c) = tt
    plain (list ds) = plain_items ds
    plain (object fs) = plain_fields fs

    plain_items : (ds : Items C) → ArePlainItems (items_as_input ds)
    plain_items no_items = tt
    plain_items (item d ds) = (plain d, refl, plain_items ds)

    plain_fields : (fs : Fields C) → ArePlainFields (fields_as_input fs)
    plain_fields no_fields = tt
    plain_fields (field k d fs) = (refl, plain d, refl, plain_fields fs)

module _ {A X : Type 0} (shows : A → X) where
  drained : (xs : List A) (s t u : List X) → Yields (TakesFirst shows) s xs t → TakesFirst shows t None u
      → map shows xs ≡ s
  drained [] s t u y n = sym (y ∙ n.0)
  drained (x ∷ xs) s t u y n = ap (λ (l : List X). shows x ∷ l) (drained xs y.0 t u y.2 n) ∙ sym y.1

  pub shows_all : (items : List X) → ShowsAll shows (TakesFirst shows) (λ s. at_most (length s)) items
  shows_all items = record {
    all = λ xs d. drained xs items d.1.0 d.0 d.1.1 d.1.2;
    ends = search rules;
    within = search rules;
  }
