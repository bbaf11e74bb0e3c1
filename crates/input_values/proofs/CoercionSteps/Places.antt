-- What was coerced at the innermost type, in lists of one.
use Rattle.std.proofs.Common.{◌≡◌, ◌+◌, ◌≤◌, ℕ, suc, Option, Result, Ok, Err, Bool, sym, ap, ◌∙◌, subst, option_map, arith}
use Rattle.input_values.specs.values.Coerced.{CoercedTree, nodes}
use Rattle.input_values.specs.values.Counting.{counted}
use Rattle.input_values.specs.inputs.Shapes.{ShapeTree, named_shape, list_shape}
use Rattle.input_values.specs.declared.values.coerced.Coerced.{Coerced}
use Rattle.input_values.specs.declared.coercion.faults.CoercionFault.{CoercionFault}
use Rattle.input_values.specs.declared.coercion.faults.CoercionFault.TheVariants.{BadValue, Memory}
use Rattle.input_values.specs.coercion.Answers.{Answer, refused, mapped}
use Rattle.input_values.specs.coercion.Places.{single_at, list_of_one, innermost}
use Rattle.input_values.specs.coercion.Calls.{Tells, TellsHere, Coerces, tree_in}

-- at a list of an item, the innermost type is that of the item
pub item_below : (limit before now : ℕ) (named : ℕ → Answer CoercedTree) (inner : Result (Option Coerced) CoercionFault) (s i : ShapeTree) (n : Bool) → s ≡ list_shape i n → Coerces limit before now inner (named (innermost s)) → Coerces limit before now inner (named (innermost i))
item_below limit before now named inner s i n is h = subst (λ x. Coerces limit before now inner (named (innermost x))) is h

pub list_above : (limit before now : ℕ) (named : ℕ → Answer CoercedTree) (r : Result (Option Coerced) CoercionFault) (s i : ShapeTree) (n : Bool) → s ≡ list_shape i n → Coerces limit before now r (mapped list_of_one (single_at named i)) → Coerces limit before now r (single_at named s)
list_above limit before now named r s i n is h = subst (λ x. Coerces limit before now r (single_at named x)) (sym is) h

pub at_named : (limit before now : ℕ) (named : ℕ → Answer CoercedTree) (r : Result (Option Coerced) CoercionFault) (s : ShapeTree) (of : ℕ) (n : Bool) → s ≡ named_shape of n → Coerces limit before now r (named (innermost s)) → Coerces limit before now r (single_at named s)
at_named limit before now named r s of n is h = subst (λ x. Coerces limit before now r (single_at named x)) (sym is) (subst (λ x. Coerces limit before now r (named (innermost x))) is h)

count_one_more : (limit before now mid n : ℕ) → now ≡ counted limit (before + n) → mid ≡ counted limit (now + 1) → mid ≡ counted limit (before + suc (n + 0))
count_one_more limit before now mid n e f = omega (arith, e, f)

within_before : (limit now mid : ℕ) → mid ≡ counted limit (now + 1) → mid ≤ limit → now ≤ limit
within_before limit now mid e k = omega (arith, e, k)

-- one list round a value that was coerced
pub one_list_more : (limit before now mid : ℕ) (item r : Option Coerced) (a : Answer CoercedTree) → Coerces limit before now (Ok item) a → mid ≡ counted limit (now + 1)
    → (mid ≤ limit → tree_in r ≡ option_map list_of_one (tree_in item)) → Coerces limit before mid (Ok r) (mapped list_of_one a)
one_list_more limit before now mid item r a c e h =
    (list_of_one c.0, ap (mapped list_of_one) c.1, (count_one_more limit before now mid (nodes c.0) c.2.0 e, λ k. h k ∙ ap (option_map list_of_one) (c.2.1 (within_before limit now mid e k))))

-- a fault is that of what is made of the value
pub mapped_tells : {A B : Type 0} (g : A → B) (f : CoercionFault) (a : Answer A) → Tells f a → Tells f (mapped g a)
mapped_tells g (BadValue path) a h = ap (mapped g) h
mapped_tells g Memory a h = tt

-- a fault of the place itself
pub tells_here : (A : Type 0) (f : CoercionFault) → TellsHere f → Tells f (refused {A = A})
tells_here A (BadValue path) h = ap Err (sym h)
tells_here A Memory h = tt
