-- Equality of input values, their places included.
use Rattle.std.specs.Prelude.{Bool, true, false, ◌&&◌, ◌==◌}
use Rattle.graphql_lexical.specs.Place.{Place, Span}
use Rattle.juniper_values.specs.Text.{same_text}
use Rattle.graphql_grammar.specs.Tree.{Value, Null, Scalar, Enum, Variable, ListOf, Object, Items, no_items, item, ObjectFields, no_fields, object_field}
use Rattle.graphql_grammar.specs.Tokens.{Word}

abbrev pub same_place : Place → Place → Bool
same_place p q = p.index == q.index && (p.line == q.line && p.column == q.column)

abbrev pub same_span : Span → Span → Bool
same_span s t = same_place s.start t.start && same_place s.end t.end

-- the text and the place
abbrev pub same_word : Word → Word → Bool
same_word a b = same_text a.item b.item && same_span a.span b.span

-- `eq` compares scalars.
module _ {C : Type 0} (eq : C → C → Bool) where
  abbrev mutual
    pub same_value : Value C → Value C → Bool
    same_value Null Null = true
    same_value (Scalar a) (Scalar b) = eq a b
    same_value (Enum a) (Enum b) = same_text a b
    same_value (Variable a) (Variable b) = same_text a b
    same_value (ListOf xs) (ListOf ys) = same_items xs ys
    same_value (Object fs) (Object gs) = same_fields fs gs
    same_value v w = false

    pub same_items : Items C → Items C → Bool
    same_items no_items no_items = true
    same_items (item v s xs) (item w t ys) = (same_value v w && same_span s t) && same_items xs ys
    same_items xs ys = false

    pub same_fields : ObjectFields C → ObjectFields C → Bool
    same_fields no_fields no_fields = true
    same_fields (object_field k v s fs) (object_field l w t gs) =
        (same_word k l && (same_value v w && same_span s t)) && same_fields fs gs
    same_fields fs gs = false
