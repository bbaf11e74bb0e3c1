-- Selection sets that are added to a list, each once.
use Rattle.std.specs.Prelude.{◌≡◌, ℕ, List, ◌++◌}
use Rattle.plan_model.specs.Repeats.{IsThinned}

-- These sets are put behind a list, where some may be left out that are there.
pub record AddsEach (sets old new : List ℕ) : Type 0 where
  pub more : List ℕ
  pub grown : new ≡ old ++ more
  pub thin : IsThinned old sets more
