-- With which tokens no value begins, and lists in which an opening bracket stands for a scalar token.
use Rattle.std.proofs.Common.{Bool, true, false, ◌≡◌, ◌<◌, ◌∷◌, [], List, ◌++◌, length, refl, ap, ◌∙◌, arith, ◌⊎◌, ◌||◌, inl, inr}
use Rattle.graphql_lexical.specs.declared.kind.Kind.{Kind}
use Rattle.graphql_lexical.specs.declared.kind.Kind.TheVariants.{String, BlockString, Float, Int, BracketOpen, CurlyOpen}
use Rattle.graphql_lexical.specs.Kinds.{same_kind}
use Rattle.graphql_lexical.specs.Cutting.{Lexeme}
use Rattle.graphql_grammar.specs.Tokens.{Text}
use Rattle.graphql_grammar.specs.device.Reading.{Test, of, word, Refused, Reader}
use Rattle.graphql_grammar.specs.device.Productions.{other_than_on, operation_word}
use Rattle.graphql_grammar.specs.Grammar.{IsScalarKind}
use Rattle.graphql_grammar.specs.device.Faults.{Fault}

-- The first tokens are the same, or a scalar token and an opening bracket.
abbrev pub Exchange : List Lexeme → List Lexeme → Type 0
Exchange [] [] = Unit {0}
Exchange [] (b ∷ bs) = ⊥
Exchange (a ∷ as') [] = ⊥
Exchange (a ∷ as') (b ∷ bs) = (b ≡ a) ⊎ (IsScalarKind a.kind × (b.kind ≡ BracketOpen))

-- The first token is of this kind.
abbrev pub Starts : Kind → List Lexeme → Type 0
Starts k [] = ⊥
Starts k (t ∷ ts) = t.kind ≡ k

abbrev pub Stops : {F A : Type 0} → Reader F A → List Lexeme → List Lexeme → Type 0
Stops {F} f us rest = (x : Fault F) × (f (us ++ rest) ≡ Refused rest x)

-- After these tokens `[` is refused, or `{` is. A strict reader refuses `{` alone only after a token of its own.
abbrev pub NoValueAfter : {F A : Type 0} → Bool → Reader F A → List Lexeme → Type 0
NoValueAfter b f us = ((rest : List Lexeme) → Starts BracketOpen rest → Stops f us rest)
    ⊎ ((b ≡ true → 0 < length us) × ((rest : List Lexeme) → Starts CurlyOpen rest → Stops f us rest))

pub exchanged : (vs last other : List Lexeme) → Exchange last other → Exchange (vs ++ last) (vs ++ other)
exchanged [] last other x = x
exchanged (v ∷ vs) last other x = inl refl

pub exchanged_some : (vs last other : List Lexeme) → 0 < length vs → Exchange (vs ++ last) (vs ++ other)
exchanged_some [] last other x = absurd (omega (arith, x))
exchanged_some (v ∷ vs) last other x = inl refl

pub exchanged_bracket : (t : Lexeme) (ts other : List Lexeme) → IsScalarKind t.kind → Starts BracketOpen other
    → Exchange (t ∷ ts) other
exchanged_bracket t ts [] s x = absurd x
exchanged_bracket t ts (u ∷ us) s x = inr (s, x)

-- What a rule asks of a token sees no scalar token and no opening bracket.
pub record PassesNoValue (test : Test) : Type 0 where
  pub scalar : (k : Kind) (w : Text) → IsScalarKind k → test k w ≡ false
  pub bracket : (w : Text) → test BracketOpen w ≡ false

pub passes_no_value : (test : Test) → ((w : Text) → test String w ≡ false) → ((w : Text) → test BlockString w ≡ false)
    → ((w : Text) → test Float w ≡ false) → ((w : Text) → test Int w ≡ false)
    → ((w : Text) → test BracketOpen w ≡ false) → PassesNoValue test
passes_no_value test a b c d e = record { scalar = by_kind; bracket = e }
  where
    by_kind : (k : Kind) (w : Text) → IsScalarKind k → test k w ≡ false
    by_kind k w (inl x) = ap (λ (z : Kind). test z w) x ∙ a w
    by_kind k w (inr (inl x)) = ap (λ (z : Kind). test z w) x ∙ b w
    by_kind k w (inr (inr (inl x))) = ap (λ (z : Kind). test z w) x ∙ c w
    by_kind k w (inr (inr (inr x))) = ap (λ (z : Kind). test z w) x ∙ d w

-- some value begins with a token of this kind that is no Name
abbrev pub starts_value : Kind → Bool
starts_value k = same_kind String k || same_kind BlockString k || same_kind Float k || same_kind Int k
    || same_kind BracketOpen k

pub no_value_by : (k : Kind) → starts_value k ≡ false → PassesNoValue (of k)
no_value_by k h =
    let n = none (same_kind String k) (same_kind BlockString k) (same_kind Float k) (same_kind Int k)
    (same_kind BracketOpen k) h in
    passes_no_value (of k) (λ w. n.0) (λ w. n.1) (λ w. n.2) (λ w. n.3) (λ w. n.4)
  where
    none : (a b c d e : Bool) → (a || b || c || d || e) ≡ false
        → (a ≡ false) × (b ≡ false) × (c ≡ false) × (d ≡ false) × (e ≡ false)
    none true b c d e h = absurd (cc h)
    none false true c d e h = absurd (cc h)
    none false false true d e h = absurd (cc h)
    none false false false true e h = absurd (cc h)
    none false false false false e h = (refl, refl, refl, refl, h)

pub no_value_by_word : (text : Text) → PassesNoValue (word text)
no_value_by_word text = passes_no_value (word text) (λ w. refl) (λ w. refl) (λ w. refl) (λ w. refl) (λ w. refl)

pub no_value_by_other : PassesNoValue other_than_on
no_value_by_other = passes_no_value other_than_on (λ w. refl) (λ w. refl) (λ w. refl) (λ w. refl) (λ w. refl)

pub no_value_by_operation : PassesNoValue operation_word
no_value_by_operation = passes_no_value operation_word (λ w. refl) (λ w. refl) (λ w. refl) (λ w. refl) (λ w. refl)
