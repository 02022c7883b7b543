-- After a front of a source tokens go on after a space.
use Rattle.std.proofs.Common.{codes, ◌≡◌, ℕ, ◌≤◌, inl, inr, List, [], ◌∷◌, ◌++◌, length, take, refl, sym, ap, ◌∙◌, subst, append_assoc, zero-le, le_refl}
use Rattle.std.specs.List.{AllZip}
use Rattle.std.proofs.lemmas.List.{take_all}
use Rattle.graphql_lexical.specs.Place.{Place, place}
use Rattle.graphql_lexical.specs.Cutting.{Lexeme, last_of, up_to, Cut}
use Rattle.graphql_lexical.specs.device.Indexed.{LeadsAt}
use Rattle.graphql_lexical.specs.laws.Alike.{Alike}
use Rattle.graphql_lexical.specs.laws.Joining.{BeginsApart, IsSeam}
use Rattle.graphql_lexical.specs.laws.Written.{Bare, AreOf, IsCutInto}
use Rattle.graphql_lexical.specs.laws.Spacing.{IsSpaced, GoesOn, GoesOnSpaced}
use Rattle.graphql_lexical.proofs.Slices.{place_index}
use Rattle.graphql_lexical.proofs.Cuts.{stands_size, cut_front}
use Rattle.graphql_lexical.proofs.Joints.{after_front, front_joins, few_tokens}
use Rattle.graphql_lexical.proofs.Writing.{alike_front, writes_token, writes_white, writes_nothing}
use Rattle.graphql_lexical.proofs.Fronts.{leads_shorter}
use Rattle.graphql_lexical.proofs.Places.{place_after}
use Rattle.graphql_lexical.proofs.CutByTexts.{by_places}

-- ---- a space

-- no token runs over it
space_apart : (text : List ℕ) → BeginsApart (codes " " ++ text)
space_apart text = inl refl

writes_space : (text : List ℕ) (bs : List Bare) → IsCutInto text bs → IsCutInto (codes " " ++ text) bs
writes_space text bs = writes_white 32 text bs refl

-- ---- what is spelled with spaces is cut

abbrev bares : List Lexeme → List Bare
bares [] = []
bares (x ∷ xs) = record { kind = x.kind; text = x.text } ∷ bares xs

alike_bares : (xs others : List Lexeme) → AreOf xs (bares others) → AllZip Alike xs others
alike_bares [] [] h = tt
alike_bares [] (y ∷ others) h = absurd h
alike_bares (x ∷ xs) [] h = absurd h
alike_bares (x ∷ xs) (y ∷ others) h = (record { kind = h.0; text = h.1 }, alike_bares xs others h.2)

spaced_cut : (text : List ℕ) (others : List Lexeme) → IsSpaced text others → IsCutInto text (bares others)
spaced_cut text [] h = subst (λ (t : List ℕ). IsCutInto t []) (sym h) writes_nothing
spaced_cut text (x ∷ xs) (whole, rest, e, spells, more) =
    let w = writes_token whole x.kind x.text (codes " " ++ rest) (bares xs) spells (inr (space_apart rest))
    (writes_space rest (bares xs) (spaced_cut rest xs more)) in
    subst (λ (t : List ℕ). IsCutInto t (bares (x ∷ xs))) (sym e) w

-- ---- tokens of a source before others

pub last_next : (t u : Lexeme) (us : List Lexeme) → last_of t (u ∷ us) ≡ last_of u us
last_next t u [] = refl
last_next t u (v ∷ vs) = last_next t v vs ∙ sym (last_next u v vs)

last_is : (source : List ℕ) (x : Lexeme) (xs : List Lexeme) (k n : ℕ) → k ≤ length source → LeadsAt source k (x ∷ xs) n
    → (last_of x xs).span.end.index ≡ n
last_is source x [] k n l h =
    let s = stands_size source k x h.0 l h.1 h.2 in
    ap (λ (p : Place). p.index) h.1.end ∙ (place_index source h.0 s.1 ∙ h.3)
last_is source x (y ∷ ys) k n l h =
    let s = stands_size source k x h.0 l h.1 h.2 in
    ap (λ (t : Lexeme). t.span.end.index) (last_next x y ys) ∙ last_is source y ys h.0 n s.1 h.3

front_is : (source : List ℕ) (front : List Lexeme) (n : ℕ) → LeadsAt source 0 front n → up_to source front ≡ take n source
front_is source [] n h = ap (λ (i : ℕ). take i source) h
front_is source (x ∷ xs) n h = ap (λ (i : ℕ). take i source) (last_is source x xs 0 n zero-le h)

last_ends : (source : List ℕ) (x : Lexeme) (xs : List Lexeme) (k n : ℕ) → LeadsAt source k (x ∷ xs) n
    → (some : List Lexeme) × (y : Lexeme) × (x ∷ xs ≡ some ++ y ∷ []) × (y.span.end ≡ place source n)
last_ends source x [] k n h = ([], x, refl, h.1.end ∙ ap (place source) h.3)
last_ends source x (y ∷ ys) k n h =
    let r = last_ends source y ys h.0 n h.3 in
    (x ∷ r.0, r.1, ap (λ (zs : List Lexeme). x ∷ zs) r.2, r.3)

-- the place after a whole text
whole_place : (a : List ℕ) → place_after a ≡ place a (length a)
whole_place a = ap place_after (sym (take_all (length a) a (le_refl (length a))))

space_is_seam : (source : List ℕ) (front : List Lexeme) (n : ℕ) (text : List ℕ) → LeadsAt source 0 front n
    → IsSeam (take n source) front (codes " " ++ text)
space_is_seam source [] n text h = inl (ap (λ (i : ℕ). take i source) (sym h))
space_is_seam source (x ∷ xs) n text h =
    let r = last_ends source x xs 0 n h in
    inr (r.0, r.1, r.2, r.3 ∙ whole_place (take n source), inr (space_apart text))

-- ---- the law

goes_on : (source : List ℕ) (front others : List Lexeme) (n : ℕ) (text : List ℕ) → LeadsAt source 0 front n
    → IsSpaced text others → GoesOn (take n source ++ (codes " " ++ text)) front others
goes_on source front others n text h spaced =
    let a : List ℕ = take n source in
    let b : List ℕ = codes " " ++ text in
    let w = writes_space text (bares others) (spaced_cut text others spaced) in
    let lead = front_joins a b front n (leads_shorter source front 0 n zero-le h)
    (space_is_seam source front n text h) in
    let c = after_front a b front (w.lexemes ++ w.end ∷ []) lead w.cut in
    let f = alike_front c.0 w.lexemes w.end (bares others) c.2 w.are in
    let cut : Cut (a ++ b) (front ++ (f.0 ++ f.1 ∷ [])) =
    subst (λ (z : List Lexeme). Cut (a ++ b) (front ++ z)) f.2 c.1 in
    record {
      added = f.0;
      end = f.1;
      cut = cut;
      alike = alike_bares f.0 others f.3;
      is_end =
          (few_tokens (a ++ b) (front ++ f.0) f.1
          (subst (Cut (a ++ b)) (sym (append_assoc front f.0 (f.1 ∷ []))) cut)).1;
    }

pub goes_on_spaced : (source : List ℕ) → GoesOnSpaced source
goes_on_spaced source front next after others text cut spaced =
    let f = cut_front source front next after 0 (by_places source (front ++ next ∷ after) cut) in
    subst (λ (t : List ℕ). GoesOn (t ++ (codes " " ++ text)) front others) (sym (front_is source front f.0 f.1))
    (goes_on source front others f.0 text f.1 spaced)
