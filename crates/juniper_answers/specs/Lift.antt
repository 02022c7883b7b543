-- Two values of one shape, with R between their scalars place by place, and the same keys in the same order.
use Rattle.std.specs.Prelude.{◌≡◌, ⊤}
use Rattle.juniper_answers.specs.Data.{Data, null, scalar, list, object, Items, no_items, item, Fields, no_fields, field}

module _ {C D : Type 0} (R : C → D → Type 0) where
  abbrev mutual
    pub Lifts : Data C → Data D → Type 0
    Lifts null null = ⊤
    Lifts (scalar c) (scalar d) = R c d
    Lifts (list xs) (list ys) = ItemsLift xs ys
    Lifts (object xs) (object ys) = FieldsLift xs ys
    Lifts x y = ⊥

    pub ItemsLift : Items C → Items D → Type 0
    ItemsLift no_items no_items = ⊤
    ItemsLift (item x xs) (item y ys) = Lifts x y × ItemsLift xs ys
    ItemsLift xs ys = ⊥

    pub FieldsLift : Fields C → Fields D → Type 0
    FieldsLift no_fields no_fields = ⊤
    FieldsLift (field k x xs) (field l y ys) = (l ≡ k) × Lifts x y × FieldsLift xs ys
    FieldsLift xs ys = ⊥
