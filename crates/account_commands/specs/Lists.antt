-- Lists of trusted documents that files hold.
use Rattle.std.specs.Prelude.{◌≡◌, ◌≢◌, ℕ, List, Option, None, Some, Ok, Err}
use Rattle.trusted_documents.specs.declared.fault.TrustedFault.{TrustedFault}
use Rattle.trusted_documents.specs.declared.fault.TrustedFault.TheVariants.{Memory as NoMemory}
use Rattle.trusted_documents.specs.declared.listing.Trusted.{Trusted}
use Rattle.trusted_documents.specs.DocumentLists.{listed_by}
use Rattle.trusted_documents.specs.Listings.{listing_of}
use Rattle.command_words.specs.declared.command.AskedList.{AskedList}
use Rattle.command_outcomes.specs.declared.limits.TheConstants.{TRUSTED_LIMIT}
use Rattle.command_outcomes.specs.declared.outcome.Outcome.{Outcome}
use Rattle.command_outcomes.specs.Outcomes.{FilesTold}
use Rattle.command_outcomes.specs.Reading.{IsTextOf, HasNoText}
use Rattle.account_commands.specs.declared.list_inputs.ListText.{ListText}
use Rattle.account_commands.specs.declared.list_inputs.ListFault.{ListFault}
use Rattle.account_commands.specs.declared.list_inputs.ListFault.TheVariants.{Refused, Memory}

-- The file of the list is this text; without a list there is none.
abbrev pub IsListText : Option AskedList → (List ℕ → Option (List ℕ)) → Option ListText → Type 0
IsListText None content list = list ≡ None
IsListText (Some asked) content None = ⊥
IsListText (Some asked) content (Some list) = IsTextOf TRUSTED_LIMIT (content asked.file) list.text × (list.only ≡ asked.only)

-- The file of the list holds no text.
abbrev pub HasNoListText : Option AskedList → FilesTold → Outcome → Type 0
HasNoListText None files outcome = ⊥
HasNoListText (Some asked) files outcome = HasNoText TRUSTED_LIMIT asked.file files outcome

-- The text lists these documents, and whether no others are taken is as it was asked; without a text there is no list.
abbrev pub HoldsList : Option ListText → Option Trusted → Type 0
HoldsList None list = list ≡ None
HoldsList (Some text) None = ⊥
HoldsList (Some text) (Some list) = (listed_by text.text ≡ Ok (listing_of list).documents) × ((listing_of list).only ≡ text.only)

-- The text is no list, and this is its first fault.
abbrev pub HasListFault : Option ListText → TrustedFault → Type 0
HasListFault None fault = ⊥
HasListFault (Some text) fault = listed_by text.text ≡ Err fault

-- where it is a refusal, this holds of it
abbrev pub IfListRefused : ListFault → (TrustedFault → Type 0) → Type 0
IfListRefused (Refused fault) P = P fault
IfListRefused Memory P = Unit {0}

-- This fault is told, and want of memory as such.
abbrev pub TellsList : TrustedFault → ListFault → Type 0
TellsList fault (Refused told) = (told ≡ fault) × (fault ≢ NoMemory)
TellsList fault Memory = fault ≡ NoMemory
