-- The prices that an audit finds are within the cap.
use Rattle.std.proofs.Common.{inl, inr, ℕ, List, [], ◌∷◌, Option, None, sym, subst}
use Rattle.std.specs.List.{AllZip}
use Rattle.std.proofs.lemmas.List.Elements.{All-nil, All-cons, All-append}
use Rattle.command_words.specs.declared.command.Asked.{Asked}
use Rattle.command_words.specs.declared.command.AskedAudit.{AskedAudit}
use Rattle.operation_commands.specs.declared.asked.AskedTexts.{AskedTexts}
use Rattle.operation_commands.specs.declared.findings.Subject.TheVariants.{Whole}
use Rattle.operation_commands.specs.declared.findings.Verdict.{Verdict}
use Rattle.operation_commands.specs.declared.findings.Verdict.TheVariants.{Priced, Refused}
use Rattle.operation_commands.specs.declared.findings.Finding.{Finding}
use Rattle.operation_commands.specs.Audit.{IsVerdict, IsFinding, IsWhole, AreFoundIn, AreFound, IsPriceWithin, ArePricesWithin}

abbrev PricedWithin : Finding → Type 0
PricedWithin f = IsPriceWithin f.verdict

verdict_within : (asked : Asked) (texts : AskedTexts) (v : Verdict) → IsVerdict asked texts v → IsPriceWithin v
verdict_within asked texts (Priced cost) is = is.1
verdict_within asked texts (Refused text) is = tt

each_within : (audit : AskedAudit) (schema name text : List ℕ) (operations : List (Option (List ℕ))) (findings : List Finding) → AllZip (IsFinding audit schema name text) operations findings → ArePricesWithin findings
each_within audit schema name text operations [] are = All-nil PricedWithin
each_within audit schema name text [] (f ∷ findings) are = absurd are
each_within audit schema name text (o ∷ operations) (f ∷ findings) are = All-cons PricedWithin f findings (verdict_within _ _ f.verdict are.0.verdict) (each_within audit schema name text operations findings are.1)

whole_within : (name : List ℕ) (v : Verdict) (findings : List Finding) → IsWhole name v findings → IsPriceWithin v → ArePricesWithin findings
whole_within name v findings is within = subst ArePricesWithin (sym is) (All-cons PricedWithin (record { document = name; subject = Whole; verdict = v; steps = None }) [] within (All-nil PricedWithin))

found_within : (audit : AskedAudit) (schema name bytes : List ℕ) (findings : List Finding) → AreFoundIn audit schema name bytes findings → ArePricesWithin findings
found_within audit schema name bytes findings (inl large) = whole_within name _ findings large.1 tt
found_within audit schema name bytes findings (inr (inl bad)) = whole_within name _ findings bad.2 tt
found_within audit schema name bytes findings (inr (inr (inl some))) = each_within audit schema name bytes _ findings some.1.3
found_within audit schema name bytes findings (inr (inr (inr none))) = whole_within name none.1.1.0 findings none.1.1.1 (verdict_within _ _ none.1.1.0 none.1.1.2)

pub all_within : (audit : AskedAudit) (schema : List ℕ) (names contents : List (List ℕ)) (findings : List Finding) → AreFound audit schema names contents findings → ArePricesWithin findings
all_within audit schema [] [] findings are = subst ArePricesWithin (sym are) (All-nil PricedWithin)
all_within audit schema [] (bytes ∷ contents) findings are = absurd are
all_within audit schema (name ∷ names) [] findings are = absurd are
all_within audit schema (name ∷ names) (bytes ∷ contents) findings are =
    subst ArePricesWithin (sym are.2) (All-append PricedWithin are.0 are.1 (found_within audit schema name bytes are.0 are.3) (all_within audit schema names contents are.1 are.4))
