-- Equality of errors.
use Rattle.std.specs.Prelude.{◌≡◌, ℕ, Bool, true, false, List, refl}
use Rattle.std.proofs.Common.{ap, sym, true≢false}
use Rattle.std.specs.Bool.{Decides}
use Rattle.std.specs.Cmp.{IsEquivalence, IsPartialEquivalence, partial_equiv_from_equiv, on_equiv, decided, unsigned_Decides}
use Rattle.std.proofs.lemmas.Slice.Eq.{bytes_eq-Decides}
use Rattle.graphql_lexical.specs.Kinds.{LexicalError, UnknownCharacter, UnexpectedCharacter, UnterminatedString, UnknownCharacterInString, UnknownEscapeSequence, InvalidNumber}
use Rattle.graphql_lexical.specs.Kinds as kinds
use Rattle.juniper_tokens.specs.Errors.{Error, UnexpectedToken, UnexpectedEndOfFile, Lexical, ExpectedScalar, view_error, same_lexical_error, same_error}

-- what an error holds, or what is given where it holds none
character_or : ℕ → LexicalError → ℕ
character_or n (UnknownCharacter c) = c
character_or n (UnexpectedCharacter c) = c
character_or n (UnknownCharacterInString c) = c
character_or n e = n

escape_or : List ℕ → LexicalError → List ℕ
escape_or t (UnknownEscapeSequence s) = s
escape_or t e = t

-- of the same kind, whatever they hold
same_lexical_kind : LexicalError → LexicalError → Bool
same_lexical_kind (UnknownCharacter c) (UnknownCharacter d) = true
same_lexical_kind (UnexpectedCharacter c) (UnexpectedCharacter d) = true
same_lexical_kind UnterminatedString UnterminatedString = true
same_lexical_kind (UnknownCharacterInString c) (UnknownCharacterInString d) = true
same_lexical_kind (UnknownEscapeSequence s) (UnknownEscapeSequence t) = true
same_lexical_kind kinds.UnexpectedEndOfFile kinds.UnexpectedEndOfFile = true
same_lexical_kind InvalidNumber InvalidNumber = true
same_lexical_kind d e = false

-- equality of lexical errors distinguishes them
pub same_lexical_error-Decides : (a b : LexicalError) → Decides (same_lexical_error a b) (a ≡ b)
unfolding character_or escape_or same_lexical_kind
same_lexical_error-Decides (UnknownCharacter c) (UnknownCharacter d) =
    ((λ e. ap UnknownCharacter ((unsigned_Decides c d).0 e)), (λ e. (unsigned_Decides c d).1 (ap (character_or c) e)))
same_lexical_error-Decides (UnexpectedCharacter c) (UnexpectedCharacter d) =
    ((λ e. ap UnexpectedCharacter ((unsigned_Decides c d).0 e)), (λ e. (unsigned_Decides c d).1 (ap (character_or c) e)))
same_lexical_error-Decides UnterminatedString UnterminatedString = ((λ e. refl), (λ e. refl))
same_lexical_error-Decides (UnknownCharacterInString c) (UnknownCharacterInString d) =
    ((λ e. ap UnknownCharacterInString ((unsigned_Decides c d).0 e)), (λ e. (unsigned_Decides c d).1 (ap (character_or c) e)))
same_lexical_error-Decides (UnknownEscapeSequence s) (UnknownEscapeSequence t) =
    ((λ e. ap UnknownEscapeSequence ((bytes_eq-Decides s t).0 e)), (λ e. (bytes_eq-Decides s t).1 (ap (escape_or s) e)))
same_lexical_error-Decides kinds.UnexpectedEndOfFile kinds.UnexpectedEndOfFile = ((λ e. refl), (λ e. refl))
same_lexical_error-Decides InvalidNumber InvalidNumber = ((λ e. refl), (λ e. refl))
same_lexical_error-Decides a b = ((λ e. absurd (true≢false (sym e))), (λ e. sym (ap (same_lexical_kind a) e)))

text_or : List ℕ → Error → List ℕ
text_or t (UnexpectedToken s) = s
text_or t (ExpectedScalar s) = s
text_or t e = t

lexical_or : LexicalError → Error → LexicalError
lexical_or d (Lexical e) = e
lexical_or d e = d

-- of the same kind, whatever they hold
same_error_kind : Error → Error → Bool
same_error_kind (UnexpectedToken s) (UnexpectedToken t) = true
same_error_kind UnexpectedEndOfFile UnexpectedEndOfFile = true
same_error_kind (Lexical d) (Lexical e) = true
same_error_kind (ExpectedScalar s) (ExpectedScalar t) = true
same_error_kind d e = false

-- equality of errors distinguishes them
pub same_error-Decides : (a b : Error) → Decides (same_error a b) (a ≡ b)
unfolding text_or lexical_or same_error_kind
same_error-Decides (UnexpectedToken s) (UnexpectedToken t) =
    ((λ e. ap UnexpectedToken ((bytes_eq-Decides s t).0 e)), (λ e. (bytes_eq-Decides s t).1 (ap (text_or s) e)))
same_error-Decides UnexpectedEndOfFile UnexpectedEndOfFile = ((λ e. refl), (λ e. refl))
same_error-Decides (Lexical c) (Lexical d) =
    ((λ e. ap Lexical ((same_lexical_error-Decides c d).0 e)), (λ e. (same_lexical_error-Decides c d).1 (ap (lexical_or c) e)))
same_error-Decides (ExpectedScalar s) (ExpectedScalar t) =
    ((λ e. ap ExpectedScalar ((bytes_eq-Decides s t).0 e)), (λ e. (bytes_eq-Decides s t).1 (ap (text_or s) e)))
same_error-Decides a b = ((λ e. absurd (true≢false (sym e))), (λ e. sym (ap (same_error_kind a) e)))

-- equality of errors is an equivalence
pub same_error-equiv : IsEquivalence (λ a b. same_error (view_error a) (view_error b))
same_error-equiv = on_equiv view_error (decided same_error same_error-Decides)

pub same_error-laws : IsPartialEquivalence (λ a b. same_error (view_error a) (view_error b))
same_error-laws = partial_equiv_from_equiv same_error-equiv
