use Rattle.std.proofs.Common.{arith, ℕ, ◌≡◌, ◌+◌, ◌-◌, ◌≤◌, length, ◌∙◌, sym, ap, subst, Bool, true, false, List, drop, take}
use Rattle.std.proofs.lemmas.List.{length-take, length-drop, drop-drop, take_rest}
use Rattle.gql_base.specs.lexical.Uses.{IsUsed}
use Rattle.gql_base.proofs.LexicalLaws.DirectiveUses.{Leads, leads_ignored, leads_token, use_found, no_use_before, no_use}
use Rattle.gql_base.proofs.lexical.uses.uses_directive.Goals as goal

pub loop-at-init : goal.loop-at-init
loop-at-init c = record { within = omega arith; leads = λ used is. is }

-- what is left of the text, as it is read
abbrev rest_of : List ℕ → ℕ → List ℕ
rest_of bytes at = take (length bytes - at) (drop at bytes)

leads_here : (name bytes : List ℕ) (marked : Bool) (at : ℕ) → Leads name bytes marked (drop at bytes) → Leads name bytes marked (rest_of bytes at)
leads_here name bytes marked at leads = subst (Leads name bytes marked) (sym (take_rest bytes at)) leads

leads_on : (name bytes : List ℕ) (marked : Bool) (at more : ℕ) → Leads name bytes marked (drop more (rest_of bytes at)) → Leads name bytes marked (drop (at + more) bytes)
leads_on name bytes marked at more leads = subst (Leads name bytes marked) (ap (drop more) (take_rest bytes at) ∙ drop-drop more at bytes) leads

pub returns-in_default : goal.returns-in_default
returns-in_default c =
    subst (λ text. IsUsed c.args.name.now text false) c.as_bytes-bytes.ensures.value
    (no_use_before c.args.name.now c.as_bytes-bytes.result.now (rest_of c.as_bytes-bytes.result.now c.loop-at.at) c.loop-at.marked c.in_default.field-0
    (leads_here c.args.name.now c.as_bytes-bytes.result.now c.loop-at.marked c.loop-at.at c.loop-at.invariant.leads) (sym c.front_piece.ensures.piece ∙ c.in_default.is))

pub returns-then-is_use : goal.returns-then-is_use
returns-then-is_use c =
    subst (λ text. IsUsed c.args.name.now text true) c.as_bytes-bytes.ensures.value
    (use_found c.args.name.now c.as_bytes-bytes.result.now (rest_of c.as_bytes-bytes.result.now c.loop-at.at) c.loop-at.marked c.in-Ok.front c.in-Some.kind
    (leads_here c.args.name.now c.as_bytes-bytes.result.now c.loop-at.marked c.loop-at.at c.loop-at.invariant.leads)
    (sym c.front_piece.ensures.piece ∙ c.in-Ok.is) c.in-Some.is (sym c.is_use.ensures ∙ c.if-is_use.true))

pub loop-at-preserved-else-is_use : goal.loop-at-preserved-else-is_use
loop-at-preserved-else-is_use c = record {
  within = omega (arith, c.in-Ok.ensures.within.1, length-take {A = ℕ}, length-drop {A = ℕ});
  leads = leads_on c.args.name.now c.as_bytes-bytes.result.now c.is_mark_at-marked.result c.loop-at.at c.in-Ok.front.length
      (subst (λ marked. Leads c.args.name.now c.as_bytes-bytes.result.now marked (drop c.in-Ok.front.length (rest_of c.as_bytes-bytes.result.now c.loop-at.at))) (sym c.is_mark_at-marked.ensures)
      (leads_token c.args.name.now c.as_bytes-bytes.result.now (rest_of c.as_bytes-bytes.result.now c.loop-at.at) c.loop-at.marked c.in-Ok.front c.in-Some.kind
      (leads_here c.args.name.now c.as_bytes-bytes.result.now c.loop-at.marked c.loop-at.at c.loop-at.invariant.leads)
      (sym c.front_piece.ensures.piece ∙ c.in-Ok.is) c.in-Some.is (sym c.is_use.ensures ∙ c.if-is_use.false)));
}

pub loop-at-preserved : goal.loop-at-preserved
loop-at-preserved c = record {
  within = omega (arith, c.in-Ok.ensures.within.1, length-take {A = ℕ}, length-drop {A = ℕ});
  leads = leads_on c.args.name.now c.as_bytes-bytes.result.now c.loop-at.marked c.loop-at.at c.in-Ok.front.length
      (leads_ignored c.args.name.now c.as_bytes-bytes.result.now (rest_of c.as_bytes-bytes.result.now c.loop-at.at) c.loop-at.marked c.in-Ok.front
      (leads_here c.args.name.now c.as_bytes-bytes.result.now c.loop-at.marked c.loop-at.at c.loop-at.invariant.leads) (sym c.front_piece.ensures.piece ∙ c.in-Ok.is) c.in_default-kind.is);
}

pub returns : goal.returns
returns c =
    subst (λ text. IsUsed c.args.name.now text false) c.as_bytes-bytes.ensures.value
    (no_use c.args.name.now c.as_bytes-bytes.result.now c.loop-at.marked c.loop-at.at c.loop-at.invariant.leads (omega (arith, c.loop-at-test.false)))
