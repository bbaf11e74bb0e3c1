-- The first fault among things in their order.
use Rattle.std.specs.Prelude.{◌≡◌, Bool, true, false, List, [], ◌∷◌, ◌++◌, Option, None, Some}

abbrev pub or_else : {F : Type 0} → Option F → Option F → Option F
or_else None other = other
or_else (Some f) other = Some f

-- a fault where something is wrong
abbrev pub fault_where : {F : Type 0} → Bool → F → Option F
fault_where true fault = Some fault
fault_where false fault = None

-- the first fault that a test finds
abbrev pub first_of : {A F : Type 0} → (A → Option F) → List A → Option F
first_of test [] = None
first_of test (x ∷ xs) = or_else (test x) (first_of test xs)

-- A test finds nothing in any of these.
unfoldable pub AreGood : {A F : Type 0} → (A → Option F) → List A → Type 0
AreGood test [] = Unit {0}
AreGood test (x ∷ xs) = (test x ≡ None) × AreGood test xs

-- A thing has this fault, and none before it has any.
pub record IsFirst {A F : Type 0} (test : A → Option F) (xs : List A) (fault : F) : Type 0 where
  pub before : List A
  pub here : A
  pub after : List A
  pub whole : xs ≡ before ++ (here ∷ after)
  pub good : AreGood test before
  pub bad : test here ≡ Some fault
