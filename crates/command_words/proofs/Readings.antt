-- Words that clap read ask for what they give, and words that it refused ask for nothing.
use Rattle.std.proofs.Common.{◌≡◌, ◌≤◌, refl, sym, subst, ap, ◌∙◌, arith, List, ℕ, [], length, Bor, IsTrue, map, Result, Err}
use Rattle.std.specs.List.{list_all}
use Rattle.http_front.specs.Passed.{may_be_passed}
use Rattle.std.specs.Prelude.{IfOk}
use Rattle.std.proofs.lemmas.Result.{IfOk-weaker}
use Rattle.clap.specs.Simple.{App, matches_of}
use Rattle.clap.specs.Faults.{fault_of}
use Rattle.command_words.specs.declared.command.Command.{Command}
use Rattle.command_words.specs.declared.command.WordsFault.{WordsFault}
use Rattle.command_words.specs.Words.{Rows, ArePassed, Reads}

-- words as texts
abbrev pub texts : List (Bor (List ℕ)) → List (List ℕ)
texts words = map (λ (s : Bor (List ℕ)). s.now) words

-- no words give no names
pub none_passed : (words names : List (List ℕ)) → [] ≡ words → names ≡ [] → ArePassed words names
none_passed words names none empty = record {
  given = empty ∙ none;
  few = subst (λ given. length given ≤ 16) (sym empty) (omega (arith));
  may_be = subst (λ given. IsTrue (list_all may_be_passed given)) (sym empty) refl;
}

-- a fault is the same whatever was to be found
pub same_fault : {A B E : Type 0} (x y : E) → ◌≡◌ {A = Result A E} (Err x) (Err y) → ◌≡◌ {A = Result B E} (Err x) (Err y)
same_fault x y same = let faults : x ≡ y = cc in ap Err faults

module _ (app made : App) (words : List (List ℕ)) (same : made ≡ app) where
  pub asked : (rows : Rows) (result : Result Command WordsFault) (gives : Rows → Command → Type 0) → fault_of made words ≡ [] → rows ≡ matches_of made words → IfOk result (gives rows) → IfOk result (λ command. Reads app (λ rs. gives rs command) words)
  asked rows result gives faultless read given =
      IfOk-weaker result (gives rows) _ (λ command gave. (subst (λ a. fault_of a words ≡ []) same faultless, subst (λ rs. gives rs command) (read ∙ ap (λ a. matches_of a words) same) gave)) given

  pub refused : (gives : Rows → Type 0) → (fault_of made words ≡ [] → ⊥) → Reads app gives words → ⊥
  refused gives faulty reads = faulty (subst (λ a. fault_of a words ≡ []) (sym same) reads.0)

  pub unread : (rows : Rows) (gives : Rows → Type 0) → rows ≡ matches_of made words → (gives rows → ⊥) → Reads app gives words → ⊥
  unread rows gives read none reads = none (subst gives (sym (read ∙ ap (λ a. matches_of a words) same)) reads.1)
