-- Names in ordered sets.
use Rattle.std.proofs.Common.{◌≡◌, ℕ, Bool, true, false, ◌||◌, List, [], ◌∷◌, ◌++◌, if◌then◌else◌, refl, ap, sym}
use Rattle.std.proofs.Common.{◌∙◌, Bor}
use Rattle.std.specs.BTreeSet.{BTreeSet, contains_by, UpdatesBy}
use Rattle.std.specs.Cmp.Lexicographic.{slice_cmp}
use Rattle.std.specs.List.{list_any}
use Rattle.std.specs.Ordering.{nat_cmp}
use Rattle.std.specs.Str.{chars, IsUtf8}
use Rattle.std.proofs.lemmas.Cmp.{nat_list_eq_equiv}
use Rattle.std.proofs.lemmas.List.Folds.{list_any-append}
use Rattle.std.proofs.lemmas.Map.Text.{is_eq-slice_cmp}
use Rattle.graphql_grammar.specs.Tokens.{Text}
use Rattle.juniper_tokens.proofs.Public.{pointwise-chars}
use Rattle.juniper_values.specs.Text.{same_text}
use Rattle.juniper_requests.specs.device.Seen.{HasSeen}

last_or : (b c : Bool) → (if b then true else c) ≡ (c || (b || false))
last_or true true = refl
last_or true false = refl
last_or false true = refl
last_or false false = refl

-- a set after a name was put into it
pub seen_more : (name : List ℕ) (old new : BTreeSet (Bor (List ℕ))) (names : List Text) → IsUtf8 name
    → UpdatesBy (λ x y. slice_cmp nat_cmp x.now y.now) (λ k. slice_cmp nat_cmp name k.now) old new true
    → HasSeen old names
    → HasSeen new (names ++ chars name ∷ [])
seen_more name old new names u updates has q v =
    let same = same_text (chars q) (chars name) in
    updates.0 (record { ref_ptr = (0, 0); now = q })
    ∙ ap (λ b. if b then true else contains_by (λ k. slice_cmp nat_cmp q k.now) old)
    (is_eq-slice_cmp name q ∙ pointwise-chars name q u v ∙ nat_list_eq_equiv.symm (chars name) (chars q))
    ∙ ap (λ b. if same then true else b) (has q v)
    ∙ last_or same (list_any (same_text (chars q)) names)
    ∙ sym (list_any-append (same_text (chars q)) names (chars name ∷ []))
