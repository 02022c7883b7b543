-- A device: where a list of tokens is refused, and with which error, by lists that are alike with it. proofs/Begun has it
-- equal to what Faults says, both ways.
--
-- R says which whole lists of tokens are something, and what: documents, values or types. `Allowed` says of which
-- tokens the lists are that are asked about: of all tokens, or of those that a text spells. `at_end` is the error of the
-- end where it is refused, `unexpected` that of another token, by its kind and text.
use Rattle.std.specs.Prelude.{ℕ, suc, ◌≡◌, ◌≢◌, codes, Err, IsErr, List, [], ◌∷◌, ◌++◌, take}
use Rattle.std.specs.List.{AllByRecursion, AllZip}
use Rattle.graphql_lexical.specs.declared.kind.Kind.{Kind}
use Rattle.graphql_lexical.specs.declared.kind.Kind.TheVariants.{EndOfFile, BracketOpen, CurlyOpen, Name}
use Rattle.graphql_lexical.specs.Place.{Span}
use Rattle.graphql_lexical.specs.Parts.{◌or◌}
use Rattle.graphql_lexical.specs.Cutting.{Lexeme}
use Rattle.graphql_lexical.specs.laws.Alike.{Alike}
use Rattle.graphql_lexical.specs.device.Indexed.{IsFirstDeeperAt}
use Rattle.graphql_grammar.specs.Tokens.{Text, IsSpelled}
use Rattle.graphql_grammar.specs.Tree.{Scalars}
use Rattle.graphql_grammar.specs.Grammar.{Token, IsScalarKind, IsDocument}

abbrev pub AnyToken : Lexeme → Type 0
AnyToken t = Unit {0}

module _ (Allowed : Lexeme → Type 0) where
  -- Some list of allowed tokens that R admits has a prefix that is alike with ts.
  abbrev pub BeginsAlike : {A : Type 0} → (A → List Lexeme → Type 0) → List Lexeme → Type 0
  BeginsAlike {A} R ts = (front more : List Lexeme) × (a : A) × AllZip Alike ts front × R a (front ++ more) × AllByRecursion Allowed (front ++ more)

  -- The list is refused at t: the tokens before t begin something, and with t they don't.
  pub record AtFaultAlike {A : Type 0} (R : A → List Lexeme → Type 0) (ts before : List Lexeme) (t : Lexeme) : Type 0 where
    pub after : List Lexeme
    pub whole : ts ≡ before ++ t ∷ after
    pub begins : BeginsAlike R before
    pub ends : BeginsAlike R (before ++ t ∷ []) → ⊥

  -- A value may stand after these tokens: each of the Name null, `[` and `{` may.
  abbrev pub ValueMayStandAlike : {A : Type 0} → (A → List Lexeme → Type 0) → List Lexeme → Type 0
  ValueMayStandAlike R before = (span : Span) (next : List Lexeme)
      → (Token Name (codes "null") span or Token BracketOpen (codes "[") span or Token CurlyOpen (codes "{") span) next → BeginsAlike R (before ++ next)

module _ {F : Type 0} (at_end : F) (unexpected : Kind → Text → F) where
  module _ {C A : Type 0} (Allowed : Lexeme → Type 0) (S : Scalars C F) (R : A → List Lexeme → Type 0) (before : List Lexeme) (t : Lexeme) where
    -- The error of t, which is refused after the tokens before it. It is the reading's own where t is a scalar token
    -- that the reading refuses and a value may stand there.
    pub data NamedErrorAlike : F → Type 0 where
      end : t.kind ≡ EndOfFile → NamedErrorAlike at_end
      own : {error : F} → IsScalarKind t.kind → S.read t.kind t.text ≡ Err error → ValueMayStandAlike Allowed R before → NamedErrorAlike error
      other : t.kind ≢ EndOfFile → (IsScalarKind t.kind → IsErr (S.read t.kind t.text) → ValueMayStandAlike Allowed R before → ⊥) → NamedErrorAlike (unexpected t.kind t.text)

-- ---- where tokens are nested too deep

module _ {C F : Type 0} (S : Scalars C F) where
  -- some document has a prefix that is alike with these tokens
  abbrev pub BeginsDocument : List Lexeme → Type 0
  BeginsDocument = BeginsAlike IsSpelled (IsDocument S)

  -- Token i, which is t, is the first at which the nesting exceeds depth, and the tokens up to it, and with it, begin a
  -- document.
  pub record IsTooDeepAt (depth : ℕ) (ts : List Lexeme) (i : ℕ) (t : Lexeme) : Type 0 where
    pub deeper : IsFirstDeeperAt depth ts i t
    pub begins : BeginsDocument (take (suc i) ts)
