-- What stands after three dots.
use Rattle.std.proofs.Common.{◌≡◌, Bool, true, false, ◌&&◌, not, List, bytes_eq, codes, Some, None, Option, Ok, Err, refl}
use Rattle.graphql_lexical.specs.Kinds.{same_kind}
use Rattle.graphql_lexical.specs.declared.kind.Kind.TheVariants.{Name}
use Rattle.graphql_lexical.specs.Cutting.{Lexeme}
use Rattle.graphql_grammar.specs.Tokens.{Word, word_of}
use Rattle.graphql_grammar.specs.Tree.{Scalars}
use Rattle.graphql_grammar.specs.device.Reading.{passes, word, of, takes}
use Rattle.graphql_grammar.specs.device.Productions.{other_than_on, typed, named_spread, inline}
use Rattle.juniper_tokens.specs.Errors.{Error}
use Rattle.juniper_tokens.specs.Cursor.{Read, ◌>>=◌, first_of, next_at, next_if}
use Rattle.juniper_parser.specs.device.Steps.{cursor, any_inline}

-- a Name other than `on` is a Name, and isn't the word
pub other_is_a_name : (t : Lexeme) → passes other_than_on t ≡ true → same_kind t.kind Name ≡ true
other_is_a_name t e = by_parts (same_kind t.kind Name) (not (bytes_eq t.text (codes "on"))) e
  where
    by_parts : (a b : Bool) → (a && b) ≡ true → a ≡ true
    by_parts true b p = refl
    by_parts false b p = absurd (cc p)

pub other_is_not_on : (t : Lexeme) → passes other_than_on t ≡ true → passes (word (codes "on")) t ≡ false
other_is_not_on t e = by_parts (same_kind t.kind Name) (bytes_eq t.text (codes "on")) e
  where
    by_parts : (a b : Bool) → (a && not b) ≡ true → (a && b) ≡ false
    by_parts true true p = absurd (cc p)
    by_parts true false p = refl
    by_parts false b p = absurd (cc p)

-- a word and a Name, and what follows it
after_name : {A : Type 0} (r : Read Lexeme) (s : List Lexeme → Read Lexeme) (k : Option Word → List Lexeme → Read A)
    → (r >>= λ t. s t.1 >>= λ u. k (Some (word_of u.0)) u.1)
    ≡ (((r >>= λ t. s t.1 >>= λ u. Ok (word_of u.0, u.1)) >>= λ n. Ok (Some n.0, n.1)) >>= λ n. k n.0 n.1)
after_name {A} (Ok t) s k = by_rest (s t.1)
  where
    by_rest : (q : Read Lexeme) → (q >>= λ u. k (Some (word_of u.0)) u.1)
        ≡ (((q >>= λ u. Ok (word_of u.0, u.1)) >>= λ n. Ok (Some n.0, n.1)) >>= λ n. k n.0 n.1)
    by_rest (Ok u) = refl
    by_rest (Err e) = refl
after_name (Err e) s k = refl

-- where no FragmentName stands, there is an inline fragment
pub inline_is : {C : Type 0} (S : Scalars C Error) (ts : List Lexeme) → passes other_than_on (first_of ts) ≡ false
    → cursor S (takes (word (codes "on")) (λ o. typed) (takes other_than_on (λ t. named_spread (word_of t)) (inline None))) ts
    ≡ cursor S any_inline ts
unfolding typed
inline_is {C} S ts none = by_word (passes (word (codes "on")) (first_of ts)) refl
  where
    by_word : (b : Bool) → passes (word (codes "on")) (first_of ts) ≡ b
        → cursor S (takes (word (codes "on")) (λ o. typed) (takes other_than_on (λ t. named_spread (word_of t)) (inline None))) ts
        ≡ cursor S any_inline ts
    by_word true is = rw (is) (after_name (next_at ts) (λ us. next_if (passes (of Name) (first_of us)) us) (λ n us. cursor S (inline n) us))
    by_word false is = rw (is, none) refl
