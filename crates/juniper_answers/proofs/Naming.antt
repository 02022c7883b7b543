-- A name is one token.
use Rattle.std.proofs.Common.{◌≡◌, ◌↔◌, ℕ, ◌+◌, true, List, [], ◌∷◌, ◌++◌, IsTrue, take, drop, inr, refl, sym, ◌∙◌, subst, append-nil}
use Rattle.std.specs.List.{AllByRecursion, list_all}
use Rattle.std.specs.Cmp.{first_so, second_so}
use Rattle.std.proofs.lemmas.Bool.{and_from, or_left}
use Rattle.graphql_lexical.specs.Characters.{is_digit, is_name_start, is_name_character}
use Rattle.graphql_lexical.specs.declared.kind.Kind.{Kind}
use Rattle.graphql_lexical.specs.declared.kind.Kind.TheVariants.{Name}
use Rattle.graphql_lexical.specs.Tokens.{IsName, Spells}
use Rattle.graphql_lexical.specs.device.Indexed.{ReadsAt}
use Rattle.graphql_lexical.specs.Cutting.{Lexeme, Cut}
use Rattle.graphql_lexical.specs.laws.Written.{AreOf}
use Rattle.graphql_lexical.proofs.Public.{by_places, few_tokens, name_same, writes_nothing, writes_token, read_end, read_token}
use Rattle.juniper_answers.specs.laws.AnswerLaws.{IsOneName}
use Rattle.juniper_answers.specs.Names.{is_name}

all_held : (cs : List ℕ) → list_all is_name_character cs ≡ true → AllByRecursion (λ d. IsTrue (is_name_character d)) cs
all_held [] e = tt
all_held (c ∷ cs) e = (
  first_so (is_name_character c) (list_all is_name_character cs) e,
  all_held cs (second_so (is_name_character c) (list_all is_name_character cs) e),
)

all_tested : (cs : List ℕ) → AllByRecursion (λ d. IsTrue (is_name_character d)) cs
    → list_all is_name_character cs ≡ true
all_tested [] a = refl
all_tested (c ∷ cs) a = and_from (is_name_character c) (list_all is_name_character cs) a.0 (all_tested cs a.1)

spelled : (text : List ℕ) → is_name text ≡ true → IsName text
spelled [] e = absurd cc
spelled (c ∷ cs) e =
    let all = all_held (c ∷ cs) (second_so (is_name_start c) (list_all is_name_character (c ∷ cs)) e) in
    (name_same (c ∷ cs)).1 (c, cs, refl, first_so (is_name_start c) (list_all is_name_character (c ∷ cs)) e, all.1)

tested : (text : List ℕ) → IsName text → is_name text ≡ true
tested text n =
    let r = (name_same text).0 n in
    subst (λ t. is_name t ≡ true) (sym r.2) (and_from (is_name_start r.0) (list_all is_name_character (r.0 ∷ r.1)) r.3
    (all_tested (r.0 ∷ r.1) (or_left (is_name_start r.0) (is_digit r.0) r.3, r.4)))

one_token : (text : List ℕ) → IsName text → IsOneName text
one_token text n =
    let w = writes_token text Name text [] [] (n, refl) (inr tt) writes_nothing in
    subst IsOneName (append-nil text) (go w.lexemes w.end w.cut w.are)
  where
    go : (xs : List Lexeme) (e : Lexeme) → Cut (text ++ []) (xs ++ e ∷ [])
        → AreOf xs (record { kind = Name; text = text } ∷ []) → IsOneName (text ++ [])
    go [] e c a = absurd a
    go (x ∷ []) e c a = record {
      name = x;
      end = e;
      cut = c;
      kind = a.0;
      same = a.1 ∙ sym (append-nil text);
      ends = (few_tokens (text ++ []) (x ∷ []) e c).1;
    }
    go (x ∷ y ∷ ys) e c a = absurd a.2

name_read : (rest : List ℕ) (n : ℕ) (kind : Kind) (text : List ℕ) → ReadsAt rest n kind text → kind ≡ Name → IsName text
name_read [] n kind text r e = let end = (read_end n kind text r).1 in absurd cc
name_read (c ∷ cs) n kind text r e =
    let s = subst (λ (k : Kind). Spells (take n (c ∷ cs)) k text) e (read_token c cs n kind text r).1 in
    subst IsName (sym s.1) s.0

only_name : (text : List ℕ) → IsOneName text → IsName text
only_name text o =
    let s = (by_places text (o.name ∷ o.end ∷ []) o.cut).1 in
    subst IsName o.same (name_read (drop (0 + s.ignored) text) s.size o.name.kind o.name.text s.reads o.kind)

pub name_is_token : (text : List ℕ) → (is_name text ≡ true) ↔ IsOneName text
name_is_token text = ((λ e. one_token text (spelled text e)), (λ o. tested text (only_name text o)))
