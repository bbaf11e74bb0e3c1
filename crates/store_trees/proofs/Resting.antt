-- A store behind a rollback.
use Rattle.std.proofs.Common.{◌≡◌, Bool, true, false, cond, sym, ap, subst, ◌∙◌, inl, inr, IsTrue}
use Rattle.std.proofs.lemmas.Bool.{cases_Bool}
use Rattle.sqlite_trees.specs.View.{View, IsClean, IsRolledBack}
use Rattle.store_trees.specs.Making.{HasShapes}
use Rattle.store_trees.specs.Keeping.{AreTables}
use Rattle.store_trees.specs.Opening.{IsAtRest}

pub open_if_sound : (v : View) → (v.is_open ≡ false → IsTrue v.is_broken) → v.is_broken ≡ false → v.is_open ≡ true
open_if_sound v broken sound = elim (cases_Bool v.is_open) [
  | inl up ↦ up
  | inr down ↦ absurd (let b = broken down in cc)
]

pub at_rest : (old new : View) → IsRolledBack old new → IsClean new → (new.is_open ≡ false → IsTrue new.is_broken) → new.is_broken ≡ false → IsAtRest old new
at_rest old new back clean broken sound =
    let up = open_if_sound new broken sound in
    record {
      live = up;
      was_live = (back.kept clean).was_open up;
      sound = sound;
      shape = ((back.kept clean).shape ∙ ap (λ (b : Bool). cond b old.committed_shape old.shape) up, back.committed_shape);
      trees = ((back.undone up).0, (back.kept clean).committed up);
      numbered = back.numbered;
    }

-- a store at rest whose trees are tables
pub tables_at_rest : (old new : View) → (IsClean new → IsAtRest old new) → HasShapes new → (IsClean new → IsTrue old.is_numbered) → AreTables new
tables_at_rest old new rest shapes numbered = record {
  meta = λ clean. shapes.0;
  clients = λ clean. shapes.1;
  accounts = λ clean. shapes.2;
  grants = λ clean. shapes.3;
  same = λ clean. let r = rest clean in r.shape.0 ∙ sym r.shape.1;
  numbered = λ clean. subst IsTrue (sym (rest clean).numbered) (numbered clean);
}
