-- Lists where elements are left out that are like one before, and fields that are like one another wherever they stand.
use Rattle.std.specs.Prelude.{◌≡◌, ◌⊎◌, List, [], ◌∷◌}
use Rattle.schema_model.specs.SchemaData.{SchemaData}
use Rattle.plan_model.specs.SelectedFields.{Setting, is_asked}
use Rattle.plan_model.specs.Collecting.{CollectedField}
use Rattle.plan_model.specs.GivenAlike.{AreGivenAlike, AreGivenSame}

module _ {A B : Type 0} (R : A → B → Type 0) where
  -- The element is like one of the list.
  abbrev pub HasLike : List B → A → Type 0
  HasLike [] x = ⊥
  HasLike (y ∷ ys) x = R x y ⊎ HasLike ys x

  -- The second list has what is like the elements of the first, one after the other. Those may be left out that are like one
  -- of the second list before, or like one that was seen.
  abbrev pub Thins : List B → List A → List B → Type 0
  Thins seen [] [] = Unit {0}
  Thins seen [] (y ∷ ys) = ⊥
  Thins seen (x ∷ xs) [] = HasLike seen x × Thins seen xs []
  Thins seen (x ∷ xs) (y ∷ ys) = (R x y × Thins (y ∷ seen) xs ys) ⊎ (HasLike seen x × Thins seen xs (y ∷ ys))

-- Fields of one response key and one name that are given the same arguments, and of which both ask for names of types or neither.
pub record LooksLike (s : SchemaData) (f g : CollectedField) : Type 0 where
  pub key : f.key ≡ g.key
  pub name : f.call.name ≡ g.call.name
  pub given : AreGivenAlike f.call.arguments g.call.arguments
  pub asked : is_asked s f.parent f.call ≡ is_asked s g.parent g.call

-- The same, where the same is given beside the variables of a setting.
pub record LooksSame (e : Setting) (f g : CollectedField) : Type 0 where
  pub key : f.key ≡ g.key
  pub name : f.call.name ≡ g.call.name
  pub given : AreGivenSame e.values f.call.arguments g.call.arguments
  pub asked : is_asked e.schema f.parent f.call ≡ is_asked e.schema g.parent g.call

-- Fields that are like those of another list, where later ones may be left out.
abbrev pub AreLike : SchemaData → List CollectedField → List CollectedField → Type 0
AreLike s fields others = Thins (LooksLike s) [] fields others
