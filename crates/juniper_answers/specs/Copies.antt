-- Copies of values, of lists of values and of fields, whose scalars are R to each other.
use Rattle.std.specs.Prelude.{◌≡◌, List, String, string_bytes}
use Rattle.std.specs.List.{AllZip}
use Rattle.std.specs.declared.alloc.Global.{Global}
use Rattle.juniper_answers.specs.Lift.{Lifts}
use Rattle.juniper_answers.specs.View.{shape}
use Rattle.juniper_answers.specs.declared.value.Value.{Value}

module _ {S T : Type 0} (R : S → T → Type 0) where
  abbrev pub Copies : Value S → Value T → Type 0
  Copies v w = Lifts R (shape v) (shape w)

  abbrev pub CopiesItems : List (Value S) → List (Value T) → Type 0
  CopiesItems vs ws = AllZip Copies vs ws

  abbrev pub CopiesField : String Global × Value S → String Global × Value T → Type 0
  CopiesField p q = (string_bytes q.0 ≡ string_bytes p.0) × Copies p.1 q.1

  abbrev pub CopiesFields : List (String Global × Value S) → List (String Global × Value T) → Type 0
  CopiesFields ps qs = AllZip CopiesField ps qs
