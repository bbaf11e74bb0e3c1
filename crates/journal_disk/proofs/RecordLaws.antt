-- What a record with one call more says of a disk in memory.
use Rattle.std.proofs.Common.{◌≡◌, ℕ, Bool, true, false, cond, List, [], ◌∷◌, ◌++◌, length, map, Some, refl, sym, ◌∙◌, ap, subst}
use Rattle.std.proofs.lemmas.Option.{same_Some}
use Rattle.journal_disk.specs.declared.mem_disk.DiskCall.{DiskCall}
use Rattle.journal_disk.specs.declared.mem_disk.DiskCall.TheVariants.{Synced}
use Rattle.journal_disk.specs.Recorded.{call_of}
use Rattle.journal_disk.specs.Images.{written_at, IsTorn, StepsBack, TimePasses}
use Rattle.journal_disk.specs.Calls.{Call, wrote, synced, bytes_after, image_after_all, image_from, last_is_image}
use Rattle.journal_disk.proofs.CallLaws.{bytes_wrote, bytes_synced, image_synced, follows_write, elapses}

calls_push : (cs : List DiskCall) (x : DiskCall) → map call_of (cs ++ x ∷ []) ≡ map call_of cs ++ call_of x ∷ []
calls_push [] x = refl
calls_push (y ∷ cs) x = ap (λ (l : List Call). call_of y ∷ l) (calls_push cs x)

pub kept_wrote : (first old next bytes piece : List ℕ) (cs cs2 : List DiskCall) (at : ℕ) (x : DiskCall) → old ≡ bytes_after first (map call_of cs) → next ≡ written_at at piece bytes → bytes ≡ old → cs2 ≡ cs ++ x ∷ [] → call_of x ≡ wrote at piece
    → next ≡ bytes_after first (map call_of cs2)
kept_wrote first old next bytes piece cs cs2 at x kept put same pushed is =
    put ∙ ap (written_at at piece) (same ∙ kept) ∙ sym (bytes_wrote first (map call_of cs) at piece)
    ∙ ap (λ (c : Call). bytes_after first (map call_of cs ++ c ∷ [])) (sym is) ∙ ap (bytes_after first) (sym (calls_push cs x)) ∙ ap (λ (l : List DiskCall). bytes_after first (map call_of l)) (sym pushed)

pub kept_synced : (first old : List ℕ) (cs cs2 : List DiskCall) (t : Bool) → old ≡ bytes_after first (map call_of cs) → cs2 ≡ cond t (cs ++ Synced ∷ []) cs → old ≡ bytes_after first (map call_of cs2)
kept_synced first old cs cs2 true kept pushed =
    kept ∙ sym (bytes_synced first (map call_of cs)) ∙ ap (bytes_after first) (sym (calls_push cs Synced)) ∙ ap (λ (l : List DiskCall). bytes_after first (map call_of l)) (sym pushed)
kept_synced first old cs cs2 false kept pushed = kept ∙ ap (λ (l : List DiskCall). bytes_after first (map call_of l)) (sym pushed)

module _ (first first2 : List ℕ) (calls calls2 : List Call) (x : Call) (same : first2 ≡ first) (pushed : calls2 ≡ calls ++ x ∷ []) where
  moved : (P : List ℕ → List Call → Type 0) → P first (calls ++ x ∷ []) → P first2 calls2
  moved P here = subst (λ (f : List ℕ). P f calls2) (sym same) (subst (P first) (sym pushed) here)

  moved_back : (c : List ℕ) → image_after_all first2 calls2 c → image_after_all first (calls ++ x ∷ []) c
  moved_back c left = subst (λ (l : List Call). image_after_all first l c) pushed (subst (λ (f : List ℕ). image_after_all f calls2 c) same left)

  pub call_time : TimePasses (length calls) (length calls2) (image_from first calls) (image_from first2 calls2) (image_after_all first2 calls2)
  call_time = moved (λ f l. TimePasses (length calls) (length l) (image_from first calls) (image_from f l) (image_after_all f l)) (elapses first calls x)

  pub sync_is : x ≡ synced → (c : List ℕ) → image_after_all first2 calls2 c → c ≡ bytes_after first calls
  sync_is is c left = image_synced first (λ y. y ≡ first) calls c (subst (λ (z : Call). image_after_all first (calls ++ z ∷ []) c) is (moved_back c left))

  pub sync_images : x ≡ synced → (c : List ℕ) → image_after_all first2 calls2 c → image_after_all first calls c
  sync_images is c left = subst (image_after_all first calls) (sym (sync_is is c left)) (last_is_image first (λ y. y ≡ first) calls refl)

  pub sync_durable : (old : List ℕ) → old ≡ bytes_after first calls → x ≡ synced → (b : List ℕ) → Some old ≡ Some b → (c : List ℕ) → image_after_all first2 calls2 c → c ≡ b
  sync_durable old kept is b told c left = sync_is is c left ∙ sym kept ∙ same_Some old b told

  pub write_images : (at : ℕ) (piece : List ℕ) → x ≡ wrote at piece → StepsBack (IsTorn at (length piece)) (image_after_all first calls) (image_after_all first2 calls2)
  write_images at piece is = moved (λ f l. StepsBack (IsTorn at (length piece)) (image_after_all first calls) (image_after_all f l))
      (subst (λ (z : Call). StepsBack (IsTorn at (length piece)) (image_after_all first calls) (image_after_all first (calls ++ z ∷ []))) (sym is) (follows_write first calls at piece))

pub kept_new : (first bytes : List ℕ) (cs : List DiskCall) → bytes ≡ first → cs ≡ [] → bytes ≡ bytes_after first (map call_of cs)
unfolding bytes_after
kept_new first bytes cs same none = same ∙ ap (λ (l : List DiskCall). bytes_after first (map call_of l)) (sym none)
