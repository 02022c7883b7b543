-- Scalars of one type made of scalars of another.
use Rattle.std.specs.Prelude.{◌≡◌, ℤ, Bool, Option, Some}
use Rattle.juniper_values.specs.Text.{Text}
use Rattle.juniper_values.specs.Scalar.{Content, other_content}

-- The scalar t is made of what is found in the scalar s: of its integer where it has one, else of its boolean, else of
-- its text.
module _ {S T : Type 0} (content : S → Content) (int_in : Content → Option ℤ) (bool_in : Content → Option Bool)
    (text_in : Content → Option Text) (other : T → Content) (of_int : ℤ → Content) (of_bool : Bool → Content)
    (of_text : Text → Content) where
  abbrev pub IsAnother : S → T → Type 0
  IsAnother s t = Some (other t)
      ≡ other_content (int_in (content s)) (bool_in (content s)) (text_in (content s)) of_int of_bool of_text
