-- A text has one reading.
use Rattle.std.proofs.Common.{◌≡◌, ℕ, ◌+◌, ◌<◌, ◌≤◌, List, [], length, refl, sym, ap, ◌∙◌, subst, arith}
use Rattle.std.proofs.lemmas.List.{append-nil}
use Rattle.client_files.specs.declared.client.Client.{Client}
use Rattle.client_files.specs.declared.fault.ClientsFault.{ClientsFault}
use Rattle.client_files.specs.declared.fault.ClientsFault.TheVariants.{BadLine, Repeated, TooMany, NoClient, Memory}
use Rattle.client_files.specs.Headings.{IsWindowLine}
use Rattle.client_files.specs.ClientFiles.{AreClientLines, AreFileLines}
use Rattle.client_files.specs.Faults.{Shows, turn, IsFirstFault}
use Rattle.client_files.proofs.Numbers.{same_window}
use Rattle.client_files.proofs.ClientLists.{same_clients, named_length}
use Rattle.client_files.proofs.FirstFaults.{ArePlaced, AreNew, head, behind, same_version, no_fault}
use Rattle.client_files.proofs.GoodLines.{placed, all_new}

module _ (lines : List (List ℕ)) (seconds : ℕ) (clients : List Client) (file : AreFileLines lines seconds clients) where
  as_long : length lines ≡ length file.further + 2
  as_long = ap length file.cut ∙ omega arith

  pub shows_nothing : (fault : ClientsFault) → Shows lines fault → ⊥
  shows_nothing fault shown =
      let count = named_length file.version file.further clients file.named in
      let whole = sym file.cut in
      let in_place = placed file.version file.second seconds file.window file.further file.further [] (sym (append-nil file.further)) clients file.named (length file.further + 2) (omega arith) in
      let fresh = all_new file.version file.second seconds file.window file.further file.further [] (sym (append-nil file.further)) clients file.named file.distinct in
      let here = subst (λ ls. ArePlaced ls (length file.further + 2)) whole in_place in
      let apart = subst (λ ls. AreNew ls (length file.further + 2)) whole fresh in
      let none = no_fault lines (subst (ArePlaced lines) (sym as_long) here) (subst (AreNew lines) (sym as_long) apart) (omega (arith, as_long, count, file.few)) fault shown in
      let few : length lines ≤ 2 = subst (Shows lines) none shown in
      absurd (omega (arith, few, as_long, count, file.some))

pub not_both : (lines : List (List ℕ)) (seconds : ℕ) (clients : List Client) (fault : ClientsFault) → AreFileLines lines seconds clients → IsFirstFault lines fault → ⊥
not_both lines seconds clients fault file first = shows_nothing lines seconds clients file fault first.shows

module _ (lines : List (List ℕ)) (one other : ℕ) (clients others : List Client) (file : AreFileLines lines one clients) (again : AreFileLines lines other others) where
  second_is : again.second ≡ file.second
  second_is = ap (λ ls. head (behind ls)) (sym again.cut ∙ file.cut)

  pub windows_are_one : one ≡ other
  windows_are_one = same_window file.second one other file.window (subst (λ l. IsWindowLine l other) second_is again.window)

  pub clients_are_one : clients ≡ others
  clients_are_one =
      let version = same_version again.version file.version (ap head (sym again.cut ∙ file.cut)) in
      let further : again.further ≡ file.further = ap (λ ls. behind (behind ls)) (sym again.cut ∙ file.cut) in
      let named = subst (λ ls. AreClientLines file.version ls others) further (subst (λ v. AreClientLines v again.further others) version again.named) in
      same_clients file.version file.further clients others file.named named

-- two faults of one turn are one
same_turn : (lines : List (List ℕ)) (one other : ClientsFault) → turn lines one ≡ turn lines other → Shows lines one → Shows lines other → one ≡ other
same_turn lines (BadLine a) (BadLine b) e s t = ap BadLine (omega (arith, e))
same_turn lines (BadLine a) (Repeated b) e s t = absurd (omega (arith, e))
same_turn lines (BadLine a) (TooMany b) e s t = absurd (omega (arith, e))
same_turn lines (BadLine a) NoClient e s t = absurd (omega (arith, e))
same_turn lines (Repeated a) (BadLine b) e s t = absurd (omega (arith, e))
same_turn lines (Repeated a) (Repeated b) e s t = ap Repeated (omega (arith, e))
same_turn lines (Repeated a) (TooMany b) e s t = absurd (omega (arith, e))
same_turn lines (Repeated a) NoClient e s t = absurd (omega (arith, e))
same_turn lines (TooMany a) (BadLine b) e s t = absurd (omega (arith, e))
same_turn lines (TooMany a) (Repeated b) e s t = absurd (omega (arith, e))
same_turn lines (TooMany a) (TooMany b) e s t = ap TooMany (omega (arith, e))
same_turn lines (TooMany a) NoClient e s t = absurd (omega (arith, e))
same_turn lines NoClient (BadLine b) e s t = absurd (omega (arith, e))
same_turn lines NoClient (Repeated b) e s t = absurd (omega (arith, e))
same_turn lines NoClient (TooMany b) e s t = absurd (omega (arith, e))
same_turn lines NoClient NoClient e s t = refl
same_turn lines Memory other e s t = absurd s
same_turn lines one Memory e s t = absurd t

pub one_fault : (lines : List (List ℕ)) (one other : ClientsFault) → IsFirstFault lines one → IsFirstFault lines other → one ≡ other
one_fault lines one other first second = same_turn lines one other (level (turn lines one) (turn lines other) (λ lt. second.first one lt first.shows) (λ lt. first.first other lt second.shows)) first.shows second.shows
  where
    level : (a b : ℕ) → (a < b → ⊥) → (b < a → ⊥) → a ≡ b
    level a b below above = grind arith
