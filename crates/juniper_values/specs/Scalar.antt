-- What a scalar is to the definitions, and how a scalar type reads a token.
use Rattle.std.specs.Prelude.{◌≡◌, List, ℤ, Bool, false, Option, Some, None, Result, Ok, Err}
use Rattle.std.specs.Bool.{beq}
use Rattle.std.specs.Cmp.Lexicographic.{pointwise}
use Rattle.std.specs.Ordering.{int_eq}
use Rattle.juniper_tokens.specs.Errors.{Error, view_error}
use Rattle.juniper_values.specs.Text.{Text, same_text}
use Rattle.juniper_values.specs.declared.scalar.ReadFailure.{ReadFailure}
use Rattle.juniper_values.specs.declared.scalar.ReadFailure.TheVariants.{Refused, Memory}

-- What a scalar is known by: equal scalars are those of equal contents. A scalar type of its own kind, such as one
-- of dates, says by a list of integers which of its scalars are equal.
pub data Content : Type 0 where
  integer : ℤ → Content
  text : Text → Content
  boolean : Bool → Content
  custom : List ℤ → Content

abbrev pub same_content : Content → Content → Bool
same_content (integer a) (integer b) = int_eq a b
same_content (text a) (text b) = same_text a b
same_content (boolean a) (boolean b) = beq a b
same_content (custom a) (custom b) = pointwise int_eq a b
same_content a b = false

-- What a scalar type states of a token: the content that it reads from it, or why it refuses it.
abbrev pub Reading : Type 0
Reading = Result Content Error

-- unless memory ran out, the result is the stated reading
abbrev pub MeetsReading : {S : Type 0} → (S → Content) → Reading → Result S ReadFailure → Type 0
MeetsReading content reading (Ok s) = reading ≡ Ok (content s)
MeetsReading content reading (Err (Refused e)) = reading ≡ Err (view_error e)
MeetsReading content reading (Err Memory) = Unit {0}

-- What a scalar becomes in another scalar type, which makes contents of an integer, of a boolean and of a text: that of
-- its integer where it has one, else of its boolean, else of its text.
abbrev pub other_content : Option ℤ → Option Bool → Option Text → (ℤ → Content) → (Bool → Content) → (Text → Content)
    → Option Content
other_content (Some n) b t of_int of_bool of_text = Some (of_int n)
other_content None (Some b) t of_int of_bool of_text = Some (of_bool b)
other_content None None (Some t) of_int of_bool of_text = Some (of_text t)
other_content None None None of_int of_bool of_text = None
