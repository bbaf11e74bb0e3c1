-- A report grows by lines.
use Rattle.std.proofs.Common.{◌≡◌, ℕ, ◌+◌, ◌<◌, ◌≤◌, List, [], ◌∷◌, ◌++◌, Bool, cond, refl, sym, ap, ◌∙◌, subst, arith, length, map, min, append_assoc, append-nil}
use Rattle.std.proofs.lemmas.List.{map_push, flat_map_more}
use Rattle.std.proofs.lemmas.List.Sums.{sum_by_push, count_by-le-length}
use Rattle.cost_num.specs.declared.Cost.{Cost}
use Rattle.cost_num.specs.Within.{Within}
use Rattle.account_core.specs.Costs.{together, smaller, cost}
use Rattle.gateway_core.specs.Rules.{greatest}
use Rattle.gateway_replay.specs.declared.told.Told.{Told}
use Rattle.gateway_replay.specs.declared.replayed.Replayed.{Replayed}
use Rattle.gateway_replay.specs.Lines.{Line, line_text, lines_with, is_granted, is_short, is_refused, charge_of, total, all_charged, Reports}
use Rattle.gateway_replay.specs.Stretches.{one_if, HasRoom, AddsLine, AddsLines}

abbrev charges : List Line → List Cost
charges lines = map (λ line. charge_of line.told) lines

total_push : (costs : List Cost) (more : Cost) → total (costs ++ more ∷ []) ≡ together (total costs) more
total_push [] more = λ i. cost (plus_none more.types i) (plus_none more.fields i)
  where
    plus_none : (n : ℕ) → n + 0 ≡ 0 + n
    plus_none n = omega arith
total_push (c ∷ cs) more = ap (together c) (total_push cs more) ∙ (λ i. cost (regrouped c.types (total cs).types more.types i) (regrouped c.fields (total cs).fields more.fields i))
  where
    regrouped : (a b c : ℕ) → a + (b + c) ≡ (a + b) + c
    regrouped a b c = omega arith

capped_sum : (cap a b : ℕ) → min cap (min cap a + b) ≡ min cap (a + b)
capped_sum cap a b = omega arith

capped_twice : (a b : Cost) → smaller greatest (together (smaller greatest a) b) ≡ smaller greatest (together a b)
capped_twice a b = λ i. cost (capped_sum greatest.types a.types b.types i) (capped_sum greatest.fields a.fields b.fields i)

charged_push : (lines : List Line) (line : Line) → smaller greatest (together (all_charged lines) (charge_of line.told)) ≡ all_charged (lines ++ line ∷ [])
charged_push lines line = capped_twice (total (charges lines)) (charge_of line.told)
    ∙ ap (smaller greatest) (sym (ap total (map_push (λ l. charge_of l.told) lines line) ∙ total_push (charges lines) (charge_of line.told)))

counted_push : (such : Told → Bool) (lines : List Line) (line : Line) → lines_with such lines + one_if (such line.told) ≡ lines_with such (lines ++ line ∷ [])
counted_push such lines line = sym (sum_by_push (λ l. cond (such l.told) 1 0) lines line)

pub adds_one : (line : Line) (old new : Replayed) → AddsLine line old new → AddsLines (line ∷ []) old new
adds_one line old new a = record {
  steps = a.counts.steps;
  reports = λ lines r. record {
    written = a.written ∙ (ap (λ t. t ++ line_text line) r.written ∙ flat_map_more line_text [] lines line);
    granted = a.counts.granted ∙ (ap (λ n. n + one_if (is_granted line.told)) r.granted ∙ counted_push is_granted lines line);
    short = a.counts.short ∙ (ap (λ n. n + one_if (is_short line.told)) r.short ∙ counted_push is_short lines line);
    refused = a.counts.refused ∙ (ap (λ n. n + one_if (is_refused line.told)) r.refused ∙ counted_push is_refused lines line);
    charged = a.counts.charged ∙ (ap (λ c. smaller greatest (together c (charge_of line.told))) r.charged ∙ charged_push lines line);
  };
}

pub adds_none : (report : Replayed) → AddsLines [] report report
adds_none report = record { steps = refl; reports = λ lines r. subst (λ l. Reports l report) (sym (append-nil lines)) r }

pub adds_then : (these those : List Line) (old mid new : Replayed) → AddsLines these old mid → AddsLines those mid new → AddsLines (these ++ those) old new
adds_then these those old mid new a b = record {
  steps = b.steps ∙ a.steps;
  reports = λ lines r. subst (λ l. Reports l new) (append_assoc lines these those) (b.reports (lines ++ these) (a.reports lines r));
}

-- a report of few lines has room for more
pub has_room : (lines : List Line) (report : Replayed) → Reports lines report → length lines ≤ 10000 → HasRoom report
has_room lines report r few = record {
  granted = low report.granted (lines_with is_granted lines) r.granted (count_by-le-length (λ l. is_granted l.told) lines);
  short = low report.short (lines_with is_short lines) r.short (count_by-le-length (λ l. is_short l.told) lines);
  refused = low report.refused (lines_with is_refused lines) r.refused (count_by-le-length (λ l. is_refused l.told) lines);
  charged = subst (Within greatest) (sym r.charged) (record { types = omega arith; fields = omega arith });
}
  where
    low : (n k : ℕ) → n ≡ k → k ≤ length lines → n < 9223372036854775808
    low n k is h = omega (arith, is, h, few)
