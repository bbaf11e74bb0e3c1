use Rattle.std.proofs.Common.{◌≡◌, refl, subst}
use Rattle.merged_selections.proofs.known.is_one_handed.Goals as goal

same_pair : {A B : Type 0} (x y : A) (m n : B) → x ≡ y → m ≡ n → ◌≡◌ {A = A × B} (x, m) (y, n)
same_pair {A} {B} x y m n first second = subst (λ (b : B). ◌≡◌ {A = A × B} (x, m) (y, b)) second (subst (λ (a : A). ◌≡◌ {A = A × B} (x, m) (a, m)) first refl)

pub returns-then-handed-other : goal.returns-then-handed-other
returns-then-handed-other c = λ same. same_pair c.args.handed.sized.now c.args.other.sized.now c.args.handed.size c.args.other.size
    (c.are_one_list.ensures same) c.if-handed-other.true
