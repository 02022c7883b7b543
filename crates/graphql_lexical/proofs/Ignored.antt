-- The longest prefix of ignored tokens.
use Rattle.std.proofs.Common.{◌≡◌, ℕ, Bool, true, false, eqb, List, [], ◌∷◌, ◌++◌, Some, IsTrue, refl, inl, inr, sym, ap, ◌∙◌, subst, append_assoc, append-nil}
use Rattle.std.specs.List.{AllByRecursion, concat}
use Rattle.std.proofs.lemmas.Bool.{eqb-true, cond-true, cond-false}
use Rattle.graphql_lexical.specs.Characters.{is_white, is_comment_character}
use Rattle.graphql_lexical.specs.Parts.{◌·◌, ◌or◌}
use Rattle.graphql_lexical.specs.Tokens.{Pieces, These, One, Any}
use Rattle.graphql_lexical.specs.device.Indexed.{LongestAt}
use Rattle.graphql_lexical.specs.Cutting.{AreIgnored}
use Rattle.graphql_lexical.specs.device.Scan.{ignored_step, ignored_size}
use Rattle.graphql_lexical.proofs.Runs.{run, run_on, kept_run, Longest_run}
use Rattle.graphql_lexical.proofs.History.{if_then, if_none, All_push}
use Rattle.graphql_lexical.proofs.Spelled.{same_run}

abbrev IsIgnoredToken : List ℕ → Type 0
IsIgnoredToken = One is_white or These (35 ∷ []) · Any is_comment_character

white : {c : ℕ} → IsTrue (is_white c) → IsIgnoredToken (c ∷ [])
white {c} h = inl (c, refl, h)

comment : {cs : List ℕ} → AllByRecursion (λ c. IsTrue (is_comment_character c)) cs → IsIgnoredToken (35 ∷ cs)
comment {cs} h = inr (record { front = 35 ∷ []; back = cs; whole = refl; first = refl; second = h })

-- one more piece
made_push : (IsPiece : List ℕ → Type 0) (t p : List ℕ) → Pieces IsPiece t → IsPiece p → Pieces IsPiece (t ++ p)
made_push IsPiece t p h x = (h.0 ++ p ∷ [], pieces_then h.0 h.1, ap (λ (y : List ℕ). y ++ p) h.2 ∙ concat_then h.0)
  where
    pieces_then : (ps : List (List ℕ)) → AllByRecursion IsPiece ps → AllByRecursion IsPiece (ps ++ p ∷ [])
    pieces_then [] h = (x, tt)
    pieces_then (q ∷ ps) h = (h.0, pieces_then ps h.1)

    concat_then : (ps : List (List ℕ)) → concat ps ++ p ≡ concat (ps ++ p ∷ [])
    concat_then [] = sym (append-nil p)
    concat_then (q ∷ ps) = append_assoc q (concat ps) p ∙ ap (λ (x : List ℕ). q ++ x) (concat_then ps)

-- ignored tokens, and a comment at their end
record IsCommented (t : List ℕ) : Type 0 where
  ignored : List ℕ
  rest : List ℕ
  text_is : t ≡ ignored ++ 35 ∷ rest
  made : AreIgnored ignored
  characters : AllByRecursion (λ c. IsTrue (is_comment_character c)) rest

abbrev IgnoredRead : Bool → List ℕ → Type 0
IgnoredRead false t = AreIgnored t
IgnoredRead true t = IsCommented t

commented_ignored : (t : List ℕ) → IsCommented t → AreIgnored t
commented_ignored t h = subst AreIgnored (sym h.text_is)
    (made_push IsIgnoredToken h.ignored (35 ∷ h.rest) h.made (comment h.characters))

read_ignored : (q : Bool) (t : List ℕ) → IgnoredRead q t → AreIgnored t
read_ignored true t h = commented_ignored t h
read_ignored false t h = h

begins_comment : (t : List ℕ) (c : ℕ) → AreIgnored t → IsTrue (eqb c 35) → IsCommented (t ++ c ∷ [])
begins_comment t c g h = record {
  ignored = t;
  rest = [];
  text_is = ap (λ (x : ℕ). t ++ x ∷ []) (eqb-true c 35 h);
  made = g;
  characters = tt;
}

goes_on : (t : List ℕ) (c : ℕ) → IsCommented t → IsTrue (is_comment_character c) → IsCommented (t ++ c ∷ [])
goes_on t c h x = record {
  ignored = h.ignored;
  rest = h.rest ++ c ∷ [];
  text_is = ap (λ (y : List ℕ). y ++ c ∷ []) h.text_is ∙ append_assoc h.ignored (35 ∷ h.rest) (c ∷ []);
  made = h.made;
  characters = All_push (λ d. IsTrue (is_comment_character d)) h.rest c h.characters x;
}

ignored_read : (q : Bool) (t : List ℕ) (c : ℕ) → IgnoredRead q t → (p : Bool) → ignored_step q c ≡ Some p
    → IgnoredRead p (t ++ c ∷ [])
ignored_read false t c r =
    let P = λ (p : Bool). IgnoredRead p (t ++ c ∷ []) in
    if_then P _ false _ (λ h. made_push IsIgnoredToken t (c ∷ []) r (white h))
    (if_then P _ true _ (λ h. begins_comment t c r h) (if_none P))
ignored_read true t c r =
    let P = λ (p : Bool). IgnoredRead p (t ++ c ∷ []) in
    let g = commented_ignored t r in
    if_then P _ true _ (λ h. goes_on t c r h)
    (if_then P _ false _ (λ h. made_push IsIgnoredToken t (c ∷ []) g (white h))
    (if_then P _ true _ (λ h. begins_comment t c g h) (if_none P)))

ignored_from : (t : List ℕ) (p : Bool) → run ignored_step false t ≡ Some p → AreIgnored t
ignored_from t p e = read_ignored p t (kept_run ignored_step IgnoredRead ignored_read false [] t p ([], tt, refl) e)

white_step : (c : ℕ) (b : Bool) → IsTrue (is_white c) → is_comment_character c ≡ b
    → (r : Bool) × (ignored_step true c ≡ Some r)
white_step c true h e = (true, cond-true (is_comment_character c) _ _ e)
white_step c false h e = (false, cond-false (is_comment_character c) _ _ e ∙ cond-true (is_white c) _ _ h)

piece_run : (q : Bool) (p : List ℕ) → IsIgnoredToken p → (r : Bool) × (run ignored_step q p ≡ Some r)
piece_run true p (inl (c, e, h)) = let s = white_step c (is_comment_character c) h refl in (s.0, rw (e, s.1))
piece_run false p (inl (c, e, h)) = (false, rw (e, cond-true (is_white c) (Some false) _ h))
piece_run q p (inr h) =
    let e : p ≡ 35 ∷ h.back = h.whole ∙ ap (λ l. l ++ h.back) h.first in (true, ap (run ignored_step q) e ∙ commented q h.back h.second)
  where
    commented : (q : Bool) (cs : List ℕ) → AllByRecursion (λ c. IsTrue (is_comment_character c)) cs
        → run ignored_step q (35 ∷ cs) ≡ Some true
    commented true cs h = same_run ignored_step true is_comment_character (λ c g. cond-true (is_comment_character c) _ _ g) cs h
    commented false cs h = same_run ignored_step true is_comment_character (λ c g. cond-true (is_comment_character c) _ _ g) cs h

pieces_run : (q : Bool) (ps : List (List ℕ)) → AllByRecursion IsIgnoredToken ps
    → (r : Bool) × (run ignored_step q (concat ps) ≡ Some r)
pieces_run q [] h = (q, refl)
pieces_run q (p ∷ ps) h =
    let a = piece_run q p h.0 in
    let b = pieces_run a.0 ps h.1 in
    (b.0, run_on ignored_step q a.0 p (concat ps) a.1 ∙ b.1)

ignored_to : (t : List ℕ) → AreIgnored t → (p : Bool) × (run ignored_step false t ≡ Some p)
ignored_to t h = let r = pieces_run false h.0 h.1 in (r.0, ap (run ignored_step false) h.2 ∙ r.1)

pub ignored_is_longest : (rest : List ℕ) → LongestAt AreIgnored rest (ignored_size rest)
ignored_is_longest rest = Longest_run ignored_step false AreIgnored ignored_from ignored_to rest
