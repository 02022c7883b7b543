-- The words of an error.
use Rattle.std.specs.Prelude.{◌≡◌, ◌≢◌, ◌<◌, ◌≤◌, ◌-◌, ◌^◌, ◌⊎◌, ℕ, Bool, List, ◌++◌, take, drop, length, codes}
use Rattle.std.specs.Prelude.{encode_utf8_all, IsUtf8, chars, Option, Some, None, Result, Ok, Err, String, string_bytes}
use Rattle.std.specs.Char.{IsScalar}
use Rattle.std.specs.declared.alloc.Global.{Global}
use Rattle.graphql_lexical.specs.Characters.{Text}
use Rattle.graphql_lexical.specs.Place.{Span}
use Rattle.juniper_tokens.specs.Errors as errors
use Rattle.juniper_tokens.specs.Errors.{error_text}
use Rattle.graphql_grammar.specs.Grammar.{IsLocated, IsType, IsValue}
use Rattle.juniper_parser.specs.Promise.{IsRefusal}
use Rattle.juniper_documents.specs.Literals.{IsLiteralRefusal, NamesTypeError, NamesValueError}
use Rattle.firthnapkin_results.specs.Answers.{scalars}
use Rattle.firthnapkin_results.specs.Errors.{written_error, too_deep_error, too_many_tokens_error, unknown_fragment_error, fragment_cycle_error}
use Rattle.firthnapkin_results.specs.Sources.{IsUnread}
use Rattle.firthnapkin_results.specs.declared.error.Error.{Error}
use Rattle.firthnapkin_results.specs.declared.source.Unread.{Unread}
use Rattle.firthnapkin_results.specs.declared.source.Unread.TheVariants as unread

-- A call refuses a text so: as a document, as one value, in which variables may stand or not, or as one type.
pub data IsRefused (text : Text) (found : errors.Fault) : Type 0 where
  as_document : IsRefusal scalars text found → IsRefused text found
  as_value : (free : Bool)
      → IsLiteralRefusal (IsLocated (IsValue scalars free)) (NamesValueError scalars free) text found
      → IsRefused text found
  as_type : IsLiteralRefusal (IsLocated IsType) NamesTypeError text found → IsRefused text found

-- Such an error of this source is given by calls, and these are its words, in UTF-8.
pub data IsErrorOf (source : List ℕ) (error : Error) : List ℕ → Type 0 where
  refused : {found : errors.Fault} → IsRefused (chars source) found → error ≡ written_error (chars source) found
      → IsErrorOf source error (encode_utf8_all (error_text found.error))
  too_deep : {span : Span} → error ≡ too_deep_error (chars source) span
      → IsErrorOf source error (codes "Too deeply nested")
  too_many : {span : Span} → error ≡ too_many_tokens_error (chars source) span
      → IsErrorOf source error (codes "Too many tokens")
  unknown : {span : Span} → error ≡ unknown_fragment_error (chars source) span
      → IsErrorOf source error (codes "Unknown fragment")
  cycle : {span : Span} → error ≡ fragment_cycle_error (chars source) span
      → IsErrorOf source error (codes "Fragment spread within itself")

-- If the error is one that calls give, these are its words.
abbrev pub AreWords : List ℕ → Error → List ℕ → Type 0
AreWords source error message = (words : List ℕ) → IsErrorOf source error words → message ≡ words

-- no call on this source gives the error
abbrev pub IsNoErrorOf : List ℕ → Error → Type 0
IsNoErrorOf source error = (words : List ℕ) → IsErrorOf source error words → ⊥

-- no scalar type's own error
abbrev pub IsOfGrammar : errors.Error → Type 0
IsOfGrammar (errors.UnexpectedToken t) = Unit {0}
IsOfGrammar errors.UnexpectedEndOfFile = Unit {0}
IsOfGrammar (errors.Lexical e) = Unit {0}
IsOfGrammar (errors.ExpectedScalar t) = ⊥

-- the bytes of the source that the error shows
abbrev pub shown_bytes : List ℕ → Error → List ℕ
shown_bytes source error = take (error.text_end - error.text_start) (drop error.text_start source)

-- these bytes are a text
abbrev pub ShowsText : List ℕ → Error → Type 0
ShowsText source error =
    (error.text_start ≤ error.text_end) × ((error.text_end ≤ length source) × IsUtf8 (shown_bytes source error))

-- A lexical error has words: of the character that it names, of the escape that it shows, or of neither.
pub data HasLexicalWords (source : List ℕ) (error : Error) : Type 0 where
  of_character : (error.detail ≡ 1) ⊎ ((error.detail ≡ 2) ⊎ (error.detail ≡ 4)) → IsScalar error.character
      → HasLexicalWords source error
  of_escape : error.detail ≡ 5 → ShowsText source error → HasLexicalWords source error
  of_string : error.detail ≡ 3 → HasLexicalWords source error
  of_neither : (error.detail ≡ 6) ⊎ (error.detail ≡ 7) → HasLexicalWords source error

-- An error has words: its kind is one that calls report, and what its words show is there.
pub data HasWords (source : List ℕ) (error : Error) : Type 0 where
  of_token : error.kind ≡ 0 → ShowsText source error → HasWords source error
  of_end : error.kind ≡ 1 → HasWords source error
  of_lexical : error.kind ≡ 2 → HasLexicalWords source error → HasWords source error
  of_limit : (error.kind ≡ 3) ⊎ (error.kind ≡ 4) → HasWords source error
  of_spread : (error.kind ≡ 6) ⊎ (error.kind ≡ 7) → HasWords source error

-- an error in words, of which there are some, or why there are none
abbrev pub ReturnsMessage : List ℕ → Error → Result (Option (String Global)) Unread → Type 0
ReturnsMessage source error (Ok (Some message)) = (length source < 2 ^ 32)
    × (IsUtf8 source × ((0 < length (string_bytes message)) × AreWords source error (string_bytes message)))
ReturnsMessage source error (Ok None) = (length source < 2 ^ 32) × (IsUtf8 source × IsNoErrorOf source error)
ReturnsMessage source error (Err unread) = IsUnread source unread

-- there are words exactly if the error has some, and memory runs out only for these
abbrev pub ReturnsItsWords : List ℕ → Error → Result (Option (String Global)) Unread → Type 0
ReturnsItsWords source error (Ok (Some message)) = HasWords source error
ReturnsItsWords source error (Ok None) = ¬ HasWords source error
ReturnsItsWords source error (Err unread.OutOfMemory) = HasWords source error
ReturnsItsWords source error (Err unread.NotUtf8) = Unit {0}
ReturnsItsWords source error (Err unread.TooLong) = Unit {0}

-- the statuses of `firthnapkin_message` and `firthnapkin_excerpt`
abbrev pub IsWordsStatus : ℕ → Type 0
IsWordsStatus n = (n ≡ 0) ⊎ (((2 ≤ n) × (n ≤ 3)) ⊎ (((6 ≤ n) × (n ≤ 7)) ⊎ (n ≡ 9)))

-- ---- how they are found

-- The text is a String's token, and this stands between its quotes.
abbrev pub IsQuoted : Text → Text → Type 0
IsQuoted whole text = (whole ≡ codes "\"" ++ (text ++ codes "\"")) × ((rest : Text) → text ≢ codes "\"" ++ rest)
