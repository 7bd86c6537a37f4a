-- The field table: each name once, in the order of first definition, with its shape.
use Rattle.std.specs.Prelude.{ℕ, Bool, cond, ◌||◌, List, [], ◌∷◌, ◌++◌, length, map, is_some, Some, None, vec_items, Option, nat_lt, slice_index_or}
use Rattle.std.specs.Option.{unwrap_or}
use Rattle.rules.specs.Finding.{place_of_name}
use Rattle.cards.specs.declared.kinds.Shape.{Shape}
use Rattle.cards.specs.declared.kinds.Shape.TheVariants.{Text}
use Rattle.fields.specs.declared.FieldTable.{FieldTable}

pub record Fields : Type 0 where
  pub names : List (List ℕ)
  pub shapes : List Shape

abbrev pub no_fields : Fields
no_fields = record { names = []; shapes = [] }

-- what a field table holds
abbrev pub fields_of : FieldTable → Fields
fields_of t = record { names = map (λ d. d.name) (vec_items t.definitions); shapes = map (λ d. d.shape) (vec_items t.definitions) }

abbrev pub is_known : Fields → List ℕ → Bool
is_known f n = is_some (place_of_name f.names n)

abbrev pub place_of : Fields → List ℕ → ℕ
place_of f n = unwrap_or (place_of_name f.names n) 0

-- the shape at a place, and of a name; text of no bytes where there is none
abbrev pub shape_at : Fields → Option ℕ → Shape
shape_at f None = Text 0
shape_at f (Some i) = slice_index_or f.shapes i (Text 0)

abbrev pub shape_of : Fields → List ℕ → Shape
shape_of f n = shape_at f (place_of_name f.names n)

-- a name finds a place among 64, if it has none yet
abbrev pub has_place_for : Fields → List ℕ → Bool
has_place_for f n = is_known f n || nat_lt (length f.names) 64

-- a name that is new comes last
abbrev pub entered : Fields → List ℕ → Shape → Fields
entered f n s = cond (is_known f n) f (record { names = f.names ++ n ∷ []; shapes = f.shapes ++ s ∷ [] })
