-- What ends once is tokens without an end, and then the end.
use Rattle.std.proofs.Common.{◌≡◌, true, List, [], ◌∷◌, ◌++◌, refl, sym, ap, ◌∙◌, subst}
use Rattle.std.specs.Prelude.{◌≢◌}
use Rattle.std.specs.List.{AllByRecursion}
use Rattle.graphql_lexical.specs.declared.kind.Kind.{Kind}
use Rattle.graphql_lexical.specs.declared.kind.Kind.TheVariants.{EndOfFile}
use Rattle.graphql_lexical.specs.Kinds.{same_kind}
use Rattle.graphql_lexical.specs.Cutting.{Lexeme, EndsOnce}
use Rattle.graphql_lexical.proofs.Public.{other_kind}

-- none of these tokens is the end
abbrev pub NoEnd : List Lexeme → Type 0
NoEnd = AllByRecursion (λ t. t.kind ≢ EndOfFile)

pub record EndParts (ts : List Lexeme) : Type 0 where
  pub inner : List Lexeme
  pub end : Lexeme
  pub whole : ts ≡ inner ++ (end ∷ [])
  pub no_end : NoEnd inner
  pub is_end : end.kind ≡ EndOfFile

pub end_parts : (ts : List Lexeme) → EndsOnce ts → EndParts ts
end_parts [] h = absurd h
end_parts (t ∷ []) h = record { inner = []; end = t; whole = refl; no_end = tt; is_end = h }
end_parts (t ∷ u ∷ ts) h =
    let r = end_parts (u ∷ ts) h.1 in
    record {
      inner = t ∷ r.inner;
      end = r.end;
      whole = ap (λ (l : List Lexeme). t ∷ l) r.whole;
      no_end = (
        (λ k. let same : same_kind t.kind EndOfFile ≡ true = ap (λ (z : Kind). same_kind z EndOfFile) k in
            absurd (cc (sym h.0 ∙ same))),
        r.no_end,
      );
      is_end = r.is_end;
    }

pub ends_once : (ts : List Lexeme) → EndParts ts → EndsOnce ts
ends_once ts p = subst EndsOnce (sym p.whole) (by_inner p.inner p.no_end)
  where
    by_inner : (us : List Lexeme) → NoEnd us → EndsOnce (us ++ p.end ∷ [])
    by_inner [] n = p.is_end
    by_inner (t ∷ []) n = (other_kind t.kind EndOfFile n.0, p.is_end)
    by_inner (t ∷ u ∷ us) n = (other_kind t.kind EndOfFile n.0, by_inner (u ∷ us) n.1)
