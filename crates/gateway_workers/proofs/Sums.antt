-- What workers did, added up one after the other.
use Rattle.std.proofs.Common.{◌≡◌, ℕ, ◌+◌, ◌≤◌, ◌<◌, List, ◌∷◌, length, sym, ap, ◌∙◌, get_or}
use Rattle.std.proofs.lemmas.List.{drop_all, drop_more}
use Rattle.std.specs.Prelude.{drop}
use Rattle.gateway_workers.specs.declared.worker.Worker.{Worker}
use Rattle.gateway_workers.specs.Tours.{one_if}
use Rattle.gateway_workers.specs.Workers.{connections_in, answers_in, faults_in}

drop_here : {A : Type 0} (xs : List A) (i : ℕ) (x : A) → i < length xs → x ≡ get_or xs i x → drop i xs ≡ x ∷ drop (i + 1) xs
drop_here xs i x low is = drop_more xs i x low ∙ ap (λ y. y ∷ drop (i + 1) xs) (sym is)

pub connections_step : {D : Type 0} (ws : List (Worker D)) (i : ℕ) (w : Worker D) → i < length ws → w ≡ get_or ws i w → connections_in (drop i ws) ≡ w.connections + connections_in (drop (i + 1) ws)
unfolding connections_in
connections_step ws i w low is = ap connections_in (drop_here ws i w low is)

pub answers_step : {D : Type 0} (ws : List (Worker D)) (i : ℕ) (w : Worker D) → i < length ws → w ≡ get_or ws i w → answers_in (drop i ws) ≡ w.replies + answers_in (drop (i + 1) ws)
unfolding answers_in
answers_step ws i w low is = ap answers_in (drop_here ws i w low is)

pub faults_step : {D : Type 0} (ws : List (Worker D)) (i : ℕ) (w : Worker D) → i < length ws → w ≡ get_or ws i w → faults_in (drop i ws) ≡ one_if w.failed + faults_in (drop (i + 1) ws)
unfolding faults_in
faults_step ws i w low is = ap faults_in (drop_here ws i w low is)

pub sums_end : {D : Type 0} (ws : List (Worker D)) (i : ℕ) → length ws ≤ i → (connections_in (drop i ws) ≡ 0) × (answers_in (drop i ws) ≡ 0) × (faults_in (drop i ws) ≡ 0)
unfolding connections_in answers_in faults_in
sums_end ws i over = let none = drop_all i ws over in (ap connections_in none, ap answers_in none, ap faults_in none)
