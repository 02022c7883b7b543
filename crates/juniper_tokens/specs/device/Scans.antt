-- A device: what a scan gives.
use Rattle.std.specs.Prelude.{◌≡◌, ℕ, false, List, Result, Ok, Err}
use Rattle.graphql_lexical.specs.declared.kind.Kind.{Kind}
use Rattle.graphql_lexical.specs.declared.kind.Kind.TheVariants as kinds
use Rattle.graphql_lexical.specs.Kinds.{LexicalError, UnknownEscapeSequence, same_kind}
use Rattle.graphql_lexical.specs.device.Scan as scans
use Rattle.juniper_tokens.specs.Errors.{view_lexer_error}
use Rattle.juniper_tokens.specs.declared.lexer.scan.Found.{Found}
use Rattle.juniper_tokens.specs.declared.lexer.scan.Missed.{Missed}
use Rattle.juniper_tokens.specs.declared.lexer.scan.Missed.TheVariants as missed
use Rattle.juniper_tokens.specs.device.Offsets.{IsOffset}

-- the one error whose text takes memory
abbrev pub IsEscape : LexicalError → Type 0
IsEscape (UnknownEscapeSequence s) = Unit {0}
IsEscape _ = ⊥

abbrev pub MissesEscape : Result scans.Found scans.Missed → Type 0
MissesEscape (Ok f) = ⊥
MissesEscape (Err m) = IsEscape m.error

abbrev pub Misses : Missed → Result scans.Found scans.Missed → Type 0
Misses (missed.Fault e at) s = s ≡ Err (record { at = at; error = view_lexer_error e })
Misses missed.Memory s = MissesEscape s

-- what the scan of a text gives: a token and the offset at which it ends, or why there is none
abbrev pub MeetsScan : Result Found Missed → List ℕ → Result scans.Found scans.Missed → Type 0
MeetsScan (Ok f) cs s = (s ≡ scans.found f.end.characters f.kind cs) × IsOffset f.end cs
MeetsScan (Err m) cs s = Misses m s

-- This token stands at the front of the text.
abbrev pub Finds : List ℕ → Found → Type 0
Finds cs f = MeetsScan (Ok f) cs (scans.scan cs)

-- A token of this kind is not the end, and ends on the line on which it begins.
pub record IsPlain (kind : Kind) : Type 0 where
  pub more : same_kind kind kinds.EndOfFile ≡ false
  pub on_line : same_kind kind kinds.BlockString ≡ false
