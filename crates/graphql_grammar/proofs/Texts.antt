-- What begins a document in tokens begins one in characters.
use Rattle.std.proofs.Common.{codes, ◌≡◌, inl, inr, List, [], ◌∷◌, ◌++◌, length, refl, sym, ap, ap₂, ◌∙◌, subst, arith, length-append}
use Rattle.std.specs.List.{AllByRecursion, AllZip}
use Rattle.graphql_lexical.specs.declared.kind.Kind.{Kind}
use Rattle.graphql_lexical.specs.declared.kind.Kind.TheVariants.{EndOfFile}
use Rattle.graphql_lexical.specs.Tokens.{Spells}
use Rattle.graphql_lexical.specs.Cutting.{Lexeme, Cut}
use Rattle.graphql_lexical.specs.laws.Alike.{Alike}
use Rattle.graphql_lexical.specs.laws.Spacing.{IsSpaced}
use Rattle.graphql_lexical.proofs.Public.{goes_on_spaced}
use Rattle.graphql_grammar.specs.Tokens.{Text, IsSpelled}
use Rattle.graphql_grammar.specs.Tree.{Scalars}
use Rattle.graphql_grammar.specs.Grammar.{IsDocument}
use Rattle.graphql_grammar.specs.device.AlikeFaults.{BeginsAlike, AtFaultAlike}
use Rattle.graphql_grammar.specs.Texts.{BeginsText}
use Rattle.graphql_grammar.proofs.EndParts.{NoEnd, end_parts}
use Rattle.graphql_grammar.proofs.Elements.{all_front}
use Rattle.graphql_grammar.proofs.Rules.{alike_refl}
use Rattle.graphql_grammar.proofs.Alike.{alike_sym, alike_join}
use Rattle.graphql_grammar.proofs.Ends.{document_ends}
use Rattle.graphql_grammar.proofs.Spelling.{cut_spelled, cut_ends}
use Rattle.graphql_grammar.proofs.OneFault.{document_alike}

-- ---- lists of tokens

all_back : (P : Lexeme → Type 0) (xs ys : List Lexeme) → AllByRecursion P (xs ++ ys) → AllByRecursion P ys
all_back P [] ys h = h
all_back P (x ∷ xs) ys h = all_back P xs ys h.1

-- no token before another is the end
no_end_before : (us : List Lexeme) (next : Lexeme) (after inner : List Lexeme) (end : Lexeme)
    → us ++ next ∷ after ≡ inner ++ end ∷ [] → NoEnd inner → NoEnd us
no_end_before [] next after inner end e h = tt
no_end_before (u ∷ us) next after [] end e h = absurd (omega (arith, ap length e, length-append us (next ∷ after)))
no_end_before (u ∷ us) next after (x ∷ inner) end e h =
    let heads : x ≡ u = cc in
    let tails : us ++ next ∷ after ≡ inner ++ end ∷ [] = cc in
    (subst (λ (t : Lexeme). t.kind ≡ EndOfFile → ⊥) heads h.0, no_end_before us next after inner end tails h.1)

no_end_alike : (us vs : List Lexeme) → AllZip Alike us vs → NoEnd us → NoEnd vs
no_end_alike [] [] a h = tt
no_end_alike [] (v ∷ vs) a h = absurd a
no_end_alike (u ∷ us) [] a h = absurd a
no_end_alike (u ∷ us) (v ∷ vs) a h = ((λ e. h.0 (a.0.kind ∙ e)), no_end_alike us vs a.1 h.1)

-- the end stands after tokens that are not the end
end_in_rest : (us more inner : List Lexeme) (end : Lexeme) → us ++ more ≡ inner ++ end ∷ [] → NoEnd us
    → end.kind ≡ EndOfFile → (others : List Lexeme) × (more ≡ others ++ end ∷ []) × (inner ≡ us ++ others)
end_in_rest [] more inner end e h k = (inner, e, refl)
end_in_rest (u ∷ us) more [] end e h k = let same : end ≡ u = cc in
    absurd (h.0 (subst (λ (t : Lexeme). t.kind ≡ EndOfFile) same k))
end_in_rest (u ∷ us) more (x ∷ inner) end e h k =
    let heads : x ≡ u = cc in
    let tails : us ++ more ≡ inner ++ end ∷ [] = cc in
    let r = end_in_rest us more inner end tails h.1 k in
    (r.0, r.1, ap₂ (λ (t : Lexeme) (ts : List Lexeme). t ∷ ts) heads r.2)

-- ---- spelled tokens

end_text : (t : Lexeme) → IsSpelled t → t.kind ≡ EndOfFile → t.text ≡ []
end_text t (inl (whole, s)) e = absurd (subst (λ (k : Kind). Spells whole k t.text) e s)
end_text t (inr h) e = h.1

spaced : (ts : List Lexeme) → NoEnd ts → AllByRecursion IsSpelled ts → (text : Text) × IsSpaced text ts
spaced [] h s = ([], refl)
spaced (t ∷ ts) h s = by_first s.0 (spaced ts h.1 s.1)
  where
    by_first : IsSpelled t → (text : Text) × IsSpaced text ts → (text : Text) × IsSpaced text (t ∷ ts)
    by_first (inl (whole, spells)) r = (whole ++ (codes " " ++ r.0), (whole, r.0, refl, spells, r.1))
    by_first (inr x) r = absurd (h.0 x.0)

-- ---- documents

module _ {C F : Type 0} (S : Scalars C F) where
  begins_text : (source : Text) (before : List Lexeme) (next : Lexeme) (after : List Lexeme)
      → Cut source (before ++ next ∷ after) → BeginsAlike IsSpelled (IsDocument S) before → BeginsText S source before
  begins_text source before next after cut (front, more, tree, alike, document, spelled) =
      let once = end_parts _ (cut_ends source (before ++ next ∷ after) cut) in
      let no_end : NoEnd before = no_end_before before next after once.inner once.end once.whole once.no_end in
      let ends = document_ends S (front ++ more) tree document in
      let b = end_in_rest front more ends.inner ends.end ends.whole
      (no_end_alike before front alike no_end) ends.is_end in
      let others : List Lexeme = b.0 in
      let all : AllByRecursion IsSpelled (others ++ ends.end ∷ []) =
      subst (AllByRecursion IsSpelled) b.1 (all_back IsSpelled front more spelled) in
      let last = all_back IsSpelled others (ends.end ∷ []) all in
      let text = spaced others (all_back (λ t. t.kind ≡ EndOfFile → ⊥) front others (subst NoEnd b.2 ends.no_end))
      (all_front IsSpelled others (ends.end ∷ []) all) in
      let g = goes_on_spaced source before next after others text.0 cut text.1 in
      let end_spelled = all_back IsSpelled g.added (g.end ∷ []) (all_back IsSpelled before (g.added ++ g.end ∷ [])
      (cut_spelled _ _ g.cut)) in
      let end_alike : AllZip Alike (ends.end ∷ []) (g.end ∷ []) = (
        record {
          kind = ends.is_end ∙ sym g.is_end;
          text = end_text ends.end last.0 ends.is_end ∙ sym (end_text g.end end_spelled.0 g.is_end);
        },
        tt,
      ) in
      let all_alike : AllZip Alike (front ++ more) (before ++ (g.added ++ g.end ∷ [])) =
      alike_join front before more (g.added ++ g.end ∷ []) (alike_sym before front alike)
      (subst (λ (ts : List Lexeme). AllZip Alike ts (g.added ++ g.end ∷ [])) (sym b.1)
      (alike_join others g.added (ends.end ∷ []) (g.end ∷ []) (alike_sym g.added others g.alike) end_alike)) in
      let d = document_alike S (front ++ more) (before ++ (g.added ++ g.end ∷ [])) tree all_alike document in
      (text.0, g.added ++ g.end ∷ [], d.0, g.cut, d.1)

  text_begins : (source : Text) (ts : List Lexeme) → BeginsText S source ts → BeginsAlike IsSpelled (IsDocument S) ts
  text_begins source ts (further, after, tree, cut, document) =
      (ts, after, tree, alike_refl ts, document, cut_spelled _ _ cut)

  pub fault_in_text : (source : Text) (ts before : List Lexeme) (t : Lexeme) → Cut source ts
      → AtFaultAlike IsSpelled (IsDocument S) ts before t
      → BeginsText S source before × (BeginsText S source (before ++ t ∷ []) → ⊥)
  fault_in_text source ts before t cut h = (
    begins_text source before t h.after (subst (Cut source) h.whole cut) h.begins,
    λ b. h.ends (text_begins source (before ++ t ∷ []) b),
  )
