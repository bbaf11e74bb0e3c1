-- How many steps an operation took, where they are counted.
use Rattle.std.specs.Prelude.{ℕ, ◌≤◌, ◌++◌, List, [], Option, None, Some, ⊤, codes}
use Rattle.std.specs.Fmt.{decimal}

-- Where a number of steps was given they are told, and there are no more.
abbrev pub AreSteps : Option ℕ → Option ℕ → Type 0
AreSteps None None = ⊤
AreSteps None (Some steps) = ⊥
AreSteps (Some most) None = ⊥
AreSteps (Some most) (Some steps) = steps ≤ most

-- them, behind what stands before them; nothing where they aren't told
abbrev pub steps_text : List ℕ → Option ℕ → List ℕ
steps_text front None = []
steps_text front (Some steps) = front ++ (codes "work " ++ decimal steps)
