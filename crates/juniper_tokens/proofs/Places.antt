-- Places of a source.
use Rattle.std.proofs.Common.{◌≡◌, ℕ, zero, suc, ◌+◌, ◌≤◌, Bool, true, false, cond, ◌==◌, List, [], ◌∷◌, ◌++◌, length, take, drop, refl, sym, ap, ap₂, ◌∙◌, arith, append_assoc, append-nil, Some, None, Ok, take-add}
use Rattle.std.specs.Prelude.{option_map}
use Rattle.std.specs.List.{AllByRecursion, fold}
use Rattle.std.proofs.lemmas.Option.{none-some, same_Some}
use Rattle.std.proofs.lemmas.Bool.{eqb-true}
use Rattle.graphql_lexical.specs.device.Machines.{reach, onward}
use Rattle.graphql_lexical.specs.device.Scan.{Found, step, block_step, scan}
use Rattle.graphql_lexical.specs.declared.state.State.{State}
use Rattle.graphql_lexical.specs.declared.state.State.TheVariants.{Start, InBlock}
use Rattle.graphql_lexical.specs.declared.state.Block.{Block}
use Rattle.graphql_lexical.specs.declared.state.Block.TheVariants.{Closed}
use Rattle.graphql_lexical.specs.declared.kind.Kind.{Kind}
use Rattle.graphql_lexical.specs.declared.kind.Kind.TheVariants.{BlockString, EndOfFile}
use Rattle.graphql_lexical.proofs.Public.{answer_finds, same_Ok, accepts, reach_is, place_push, place_after}
use Rattle.std.proofs.lemmas.List.{length-take-le}
use Rattle.graphql_lexical.specs.Place.{Place, place, past_character, next_line, next_column}
use Rattle.juniper_tokens.specs.Positions.{columns_on}

abbrev made : ℕ → ℕ → ℕ → Place
made i l k = record { index = i; line = l; column = k }

plus_none : (m : ℕ) → m + 0 ≡ m
plus_none m = omega arith

pub place_fold : (front xs : List ℕ) → fold past_character (place_after front) xs ≡ place_after (front ++ xs)
place_fold front [] = ap place_after (sym (append-nil front))
place_fold front (c ∷ cs) = ap (λ p. fold past_character p cs) (sym (place_push front c))
    ∙ (place_fold (front ++ c ∷ []) cs ∙ ap place_after (append_assoc front (c ∷ []) cs))

pub place_on : (source : List ℕ) (j k : ℕ)
    → fold past_character (place source j) (take k (drop j source)) ≡ place source (j + k)
place_on source j k = place_fold (take j source) (take k (drop j source)) ∙ ap place_after (sym (take-add j k source))

pub no_columns : (p : Place) → p ≡ columns_on 0 p
no_columns p = ap₂ (λ i k. made i p.line k) (sym (plus_none p.index)) (sym (plus_none p.column))

plus_suc : (a b : ℕ) → (a + 1) + b ≡ a + suc b
plus_suc a b = omega arith

pub one_column_more : (n : ℕ) (p : Place) → columns_on n (next_column p) ≡ columns_on (suc n) p
one_column_more n p = ap₂ (λ i k. made i p.line k) (plus_suc p.index n) (plus_suc p.column n)

-- without a line feed
abbrev pub OnLine : List ℕ → Type 0
OnLine = AllByRecursion (λ c. (c == 10) ≡ false)

pub line_fold : (p : Place) (xs : List ℕ) → OnLine xs → fold past_character p xs ≡ columns_on (length xs) p
line_fold p [] h = no_columns p
line_fold p (c ∷ cs) h =
    ap (λ b. fold past_character (cond b (next_line p) (next_column p)) cs) h.0
    ∙ (line_fold (next_column p) cs h.1 ∙ one_column_more (length cs) p)

-- ---- what the steps of a token go over has no line feed, but in a block string

abbrev in_block : State → Bool
in_block (InBlock part) = true
in_block _ = false

block_stays : (part : Block) (cs : List ℕ) → in_block (reach step (InBlock part) cs).1 ≡ true
block_stays part [] = refl
block_stays part (c ∷ cs) =
    elim (block_step part c) as (λ o. in_block (onward (InBlock part) (λ p. reach step p cs) (option_map InBlock o)).1
    ≡ true) [
      | None ↦ refl
      | Some p ↦ block_stays p cs
    ]

outside : (q : State) (cs : List ℕ) → in_block (reach step q cs).1 ≡ false → in_block q ≡ false
outside (InBlock part) cs h = sym (block_stays part cs) ∙ h
outside _ cs h = refl

step_feed : (q : State) → in_block q ≡ false → step q 10 ≡ None
step_feed (InBlock part) h = absurd (cc h)
step_feed _ h = refl

same_feed : (c : ℕ) → (c == 10) ≡ true → c ≡ 10
same_feed c e = eqb-true c 10 e

not_feed : (q p : State) (c : ℕ) (b : Bool) → in_block q ≡ false → (c == 10) ≡ b → step q c ≡ Some p → b ≡ false
not_feed q p c true o e s = let same : c ≡ 10 = same_feed c e in
    absurd (none-some p (sym (step_feed q o) ∙ (ap (step q) (sym same) ∙ s)))
not_feed q p c false o e s = refl

reach_line : (q : State) (cs : List ℕ) → in_block (reach step q cs).1 ≡ false → OnLine (take (reach step q cs).0 cs)
reach_line q [] h = tt
reach_line q (c ∷ cs) h =
    (elim (step q c) as (λ o. step q c ≡ o → in_block (onward q (λ p. reach step p cs) o).1 ≡ false
    → OnLine (take (onward q (λ p. reach step p cs) o).0 (c ∷ cs))) [
      | None ↦ λ e k. tt
      | Some p ↦ λ e k. (not_feed q p c (c == 10) (outside q (c ∷ cs) h) refl e, reach_line p cs k)
    ]) refl h

on_line_less : (j n : ℕ) (cs : List ℕ) → j ≤ n → OnLine (take n cs) → OnLine (take j cs)
on_line_less zero n cs l h = tt
on_line_less (suc j) zero cs l h = absurd (omega arith)
on_line_less (suc j) (suc n) [] l h = tt
on_line_less (suc j) (suc n) (c ∷ cs) l h = (h.0, on_line_less j n cs (omega arith) h.1)

-- ---- where a token ends

accepted_outside : (q : State) (kind : Kind) → accepts q ≡ Some kind → (kind ≡ BlockString → ⊥) → in_block q ≡ false
accepted_outside (InBlock Closed) kind e n = absurd (n (sym (same_Some BlockString kind e)))
accepted_outside (InBlock _) kind e n = absurd (none-some kind e)
accepted_outside _ kind e n = refl

found_line : (cs : List ℕ) (f : Found) → scan cs ≡ Ok f → (f.kind ≡ BlockString → ⊥)
    → OnLine (take (reach step Start cs).0 cs)
found_line [] f e n = tt
found_line (c ∷ cs) f e n =
    let r = reach step Start (c ∷ cs) in
    reach_line Start (c ∷ cs) (accepted_outside r.1 f.kind (answer_finds r.1 r.0 c cs f e).accepted n)

found_size : (cs : List ℕ) (f : Found) → scan cs ≡ Ok f → f.size ≡ (reach step Start cs).0
found_size [] f e = sym (ap (λ (x : Found). x.size) (same_Ok (record { size = 0; kind = EndOfFile; text = [] }) f e))
found_size (c ∷ cs) f e = let r = reach step Start (c ∷ cs) in sym (answer_finds r.1 r.0 c cs f e).size_is

-- a token that is no block string ends on its line
pub line_end : (p : Place) (cs : List ℕ) (f : Found) → scan cs ≡ Ok f → (f.kind ≡ BlockString → ⊥)
    → columns_on f.size p ≡ fold past_character p (take f.size cs)
line_end p cs f e n =
    let within = (reach_is step Start cs).within in
    let size : f.size ≡ (reach step Start cs).0 = found_size cs f e in
    let count : length (take f.size cs) ≡ f.size = length-take-le f.size cs (omega (arith, size, within)) in
    ap (λ k. columns_on k p) (sym count)
    ∙ sym (line_fold p (take f.size cs) (on_line_less f.size (reach step Start cs).0 cs (omega (arith, size))
    (found_line cs f e n)))
