-- What loads cost at a place: so much for each leaf and each input object that stands there, and the rest; alone, in lists and together.
use Rattle.std.proofs.Common.{◌≡◌, ◌+◌, ◌*◌, ℕ, Option, ap₂, ◌∙◌, arith, mul-add}
use Rattle.cost_directives.specs.ArgumentCosts.{leaf_cost, object_cost}
use Rattle.literal_loads.specs.declared.load.Load.{Load}
use Rattle.literal_loads.specs.LoadSums.{cost_at, IsBoth, IsList}

-- what so many leaves and objects cost with the rest
abbrev pub cost_of_parts : Option ℕ → ℕ → ℕ → ℕ → ℕ
cost_of_parts own leaves objects inside = leaf_cost own * leaves + object_cost own * objects + inside

both_parts : (own : Option ℕ) (l k o n i j : ℕ) → cost_of_parts own (l + k) (o + n) (i + j) ≡ cost_of_parts own l o i + cost_of_parts own k n j
both_parts own l k o n i j = let a = mul-add (leaf_cost own) l k in let b = mul-add (object_cost own) o n in omega (arith, a, b)

-- ---- loads

pub same_cost_at : (own : Option ℕ) (a b : Load) → a.leaves ≡ b.leaves → a.objects ≡ b.objects → a.inside ≡ b.inside → cost_at own a ≡ cost_at own b
same_cost_at own a b l o i = ap₂ (λ x y. x + y) (ap₂ (λ x y. leaf_cost own * x + object_cost own * y) l o) i

pub list_cost_at : (own : Option ℕ) (items list : Load) → IsList items list → cost_at own list ≡ cost_at own items
list_cost_at own items list round = same_cost_at own list items round.leaves round.objects round.inside

pub both_cost_at : (own : Option ℕ) (a b now : Load) → IsBoth a b now → cost_at own now ≡ cost_at own a + cost_at own b
both_cost_at own a b now both_ = ap₂ (λ x y. x + y) (ap₂ (λ x y. leaf_cost own * x + object_cost own * y) both_.leaves both_.objects) both_.inside ∙ both_parts own a.leaves b.leaves a.objects b.objects a.inside b.inside
