-- Kinds are equal where the test says so.
use Rattle.std.proofs.Common.{◌≡◌, true, false, inl, inr}
use Rattle.std.proofs.lemmas.Bool.{cases_Bool}
use denote.Enum.Bare.{same_true}
use Rattle.graphql_lexical.specs.contracts.kind.Kind.{the_type}
use Rattle.graphql_lexical.specs.Kinds.{Kind, same_kind}

pub kind_is : (a b : Kind) → same_kind a b ≡ true → a ≡ b
kind_is a b e = same_true the_type tt a b e

pub other_kind : (a b : Kind) → (a ≡ b → ⊥) → same_kind a b ≡ false
other_kind a b n = elim (cases_Bool (same_kind a b)) [
  | inl e ↦ absurd (n (kind_is a b e))
  | inr e ↦ e
]
