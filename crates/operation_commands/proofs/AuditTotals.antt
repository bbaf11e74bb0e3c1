-- The greatest price so far, and the next.
use Rattle.std.proofs.Common.{◌≡◌, ◌∙◌, ℕ, ◌+◌, ◌<◌, ◌≤◌, suc, max, List, ◌∷◌, drop, get_or, length, sym, ap, subst, arith, drop-cons}
use Rattle.std.proofs.lemmas.List.{drop_all}
use Rattle.std.proofs.lemmas.List.Elements.{All-get_or}
use Rattle.cost_num.specs.declared.TheConstants.{CAP}
use Rattle.cost_num.specs.declared.Cost.{Cost}
use Rattle.operation_commands.specs.declared.findings.Verdict.{Verdict}
use Rattle.operation_commands.specs.declared.findings.Verdict.TheVariants.{Priced, Refused}
use Rattle.operation_commands.specs.declared.findings.Finding.{Finding}
use Rattle.operation_commands.specs.Audit.{IsPriceWithin, ArePricesWithin, greater, price_in, greatest}

max_assoc : (a b c : ℕ) → max (max a b) c ≡ max a (max b c)
max_assoc a b c = omega arith

abbrev made : ℕ → ℕ → Cost
made types fields = record { types = types; fields = fields }

none_greater : (a : Cost) → greater a record { types = 0; fields = 0 } ≡ a
none_greater a =
    let types : max a.types 0 ≡ a.types = omega arith in
    let fields : max a.fields 0 ≡ a.fields = omega arith in
    ap (λ n. made n (max a.fields 0)) types ∙ ap (λ n. made a.types n) fields

greater_assoc : (a b c : Cost) → greater (greater a b) c ≡ greater a (greater b c)
greater_assoc a b c =
    ap (λ n. made n (max (max a.fields b.fields) c.fields)) (max_assoc a.types b.types c.types)
    ∙ ap (λ n. made (max a.types (max b.types c.types)) n) (max_assoc a.fields b.fields c.fields)

pub next_greatest : (findings : List Finding) (at : ℕ) (f : Finding) (most : Cost) → at < length findings → f ≡ get_or findings at f → greater most (greatest (drop at findings)) ≡ greatest findings
    → greater (greater most (price_in f.verdict)) (greatest (drop (at + 1) findings)) ≡ greatest findings
next_greatest findings at f most within is held =
    let next : at + 1 ≡ suc at = omega arith in
    let front : drop at findings ≡ f ∷ drop (suc at) findings = drop-cons findings at f within ∙ ap (λ g. g ∷ drop (suc at) findings) (sym is) in
    ap (λ k. greater (greater most (price_in f.verdict)) (greatest (drop k findings))) next
    ∙ (greater_assoc most (price_in f.verdict) (greatest (drop (suc at) findings)) ∙ (ap (λ fs. greater most (greatest fs)) (sym front) ∙ held))

pub all_greatest : (findings : List Finding) (at : ℕ) (most : Cost) → length findings ≤ at → greater most (greatest (drop at findings)) ≡ greatest findings → most ≡ greatest findings
all_greatest findings at most past held = sym (none_greater most) ∙ (ap (λ fs. greater most (greatest fs)) (sym (drop_all at findings past)) ∙ held)

price_within : (v : Verdict) → IsPriceWithin v → ((price_in v).types ≤ CAP) × ((price_in v).fields ≤ CAP)
price_within (Priced cost) within = (within.of_types, within.of_fields)
price_within (Refused text) within = (omega arith, omega arith)

pub next_within : (findings : List Finding) (at : ℕ) (f : Finding) → at < length findings → f ≡ get_or findings at f → ArePricesWithin findings → ((price_in f.verdict).types ≤ CAP) × ((price_in f.verdict).fields ≤ CAP)
next_within findings at f within is all = price_within f.verdict (subst (λ g. IsPriceWithin g.verdict) (sym is) (All-get_or (λ g. IsPriceWithin g.verdict) findings at f within all))
