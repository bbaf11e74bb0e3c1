-- The texts of a replay are read in one way.
use Rattle.std.specs.Prelude.{⊤}
use Rattle.std.proofs.Common.{◌≡◌, ◌∙◌, sym, ap, ℕ, List, Option, None, Some, Result, Ok, Err}
use Rattle.serde_json.specs.Data.{Data}
use Rattle.trusted_documents.specs.declared.fault.TrustedFault.{TrustedFault}
use Rattle.trusted_documents.specs.declared.listing.Trusted.{Trusted}
use Rattle.trusted_documents.specs.Listings.{listing_of}
use Rattle.replay_scripts.specs.declared.fault.ScriptFault.{ScriptFault}
use Rattle.replay_scripts.specs.Steps.{StepData}
use Rattle.replay_scripts.specs.Answers.{steps_of}
use Rattle.replay_scripts.specs.Scripts.{IsScript}
use Rattle.replay_scripts.specs.Faults.{HasFault}
use Rattle.account_commands.specs.declared.replay_texts.ReplayTexts.{ReplayTexts}
use Rattle.account_commands.specs.declared.replay_inputs.ReplayRefusal.{ReplayRefusal}
use Rattle.account_commands.specs.declared.replay_inputs.ReplayRefusal.TheVariants.{NoRules, NoScript, NoList}
use Rattle.account_commands.specs.declared.list_inputs.ListText.{ListText}
use Rattle.account_commands.specs.Lists.{HoldsList, HasListFault}
use Rattle.account_commands.specs.Replay.{HoldsScript, IsReplayed, IsReplayRefusal}
use Rattle.account_commands.proofs.OneRules.{OneRules, no_rules, held_or_refused, one_rules}

pub record OneReading : Type 0 where
  pub rules : OneRules
  pub script_or_not : (text : List ℕ) (steps : List StepData) (fault : ScriptFault) → IsScript text steps → HasFault text fault → ⊥
  pub one_script : (text : List ℕ) (fault other : ScriptFault) → HasFault text fault → HasFault text other → fault ≡ other

-- a list has one first fault, and what is one has none
list_or_not : (text : Option ListText) (list : Option Trusted) (fault : TrustedFault) → HoldsList text list → HasListFault text fault → ⊥
list_or_not None list fault held refused = absurd refused
list_or_not (Some text) None fault held refused = absurd held
list_or_not (Some text) (Some list) fault held refused = let e : ◌≡◌ {A = Result Data TrustedFault} (Ok (listing_of list).documents) (Err fault) = sym held.0 ∙ refused in absurd (cc e)

one_list : (text : Option ListText) (fault other : TrustedFault) → HasListFault text fault → HasListFault text other → fault ≡ other
one_list None fault other refused also = absurd refused
one_list (Some text) fault other refused also = let e : ◌≡◌ {A = Result Data TrustedFault} (Err fault) (Err other) = sym refused ∙ also in cc e

module _ (only : OneReading) (texts : ReplayTexts) (undeclared : ℕ) where
  no_script : (fault : ScriptFault) → HoldsScript texts → HasFault texts.script fault → ⊥
  no_script fault held refused = only.script_or_not texts.script held.0 fault held.1 refused

  pub not_both : (work : Option ℕ) (refusal : ReplayRefusal) → IsReplayRefusal texts undeclared refusal → IsReplayed texts undeclared work (λ end. ⊤) → ⊥
  not_both work (NoRules refusal) refused replayed = held_or_refused only.rules texts.rules undeclared refusal replayed.0.rules refused replayed.1.are_rules
  not_both work (NoScript fault) refused replayed = no_script fault (steps_of replayed.0.script, replayed.1.is_script) refused.2
  not_both work (NoList fault) refused replayed = list_or_not texts.list replayed.0.list fault replayed.1.is_list refused.3

  pub one_refusal : (refusal other : ReplayRefusal) → IsReplayRefusal texts undeclared refusal → IsReplayRefusal texts undeclared other → refusal ≡ other
  one_refusal (NoRules refusal) (NoRules other) a b = ap NoRules (one_rules only.rules texts.rules undeclared refusal other a b)
  one_refusal (NoRules refusal) (NoScript fault) a b = absurd (no_rules only.rules texts.rules undeclared refusal b.0 b.1 a)
  one_refusal (NoRules refusal) (NoList fault) a b = absurd (no_rules only.rules texts.rules undeclared refusal b.0 b.1 a)
  one_refusal (NoScript fault) (NoRules refusal) a b = absurd (no_rules only.rules texts.rules undeclared refusal a.0 a.1 b)
  one_refusal (NoScript fault) (NoScript other) a b = ap NoScript (only.one_script texts.script fault other a.2 b.2)
  one_refusal (NoScript fault) (NoList other) a b = absurd (no_script fault b.2 a.2)
  one_refusal (NoList fault) (NoRules refusal) a b = absurd (no_rules only.rules texts.rules undeclared refusal a.0 a.1 b)
  one_refusal (NoList fault) (NoScript other) a b = absurd (no_script other a.2 b.2)
  one_refusal (NoList fault) (NoList other) a b = ap NoList (one_list texts.list fault other a.3 b.3)
