-- Loops over the entries of an object and the elements of a list: what was done and what is left give the whole.
use Rattle.std.proofs.Common.{◌≡◌, ◌+◌, ◌≤◌, ℕ, List, ◌++◌, Option, None, Ok, refl, sym, ap, subst, ◌∙◌, arith, append_assoc}
use Rattle.std.specs.Option.{option_or}
use Rattle.cost_num.specs.Capped.{capped}
use Rattle.cost_num.specs.declared.Cost.{Cost}
use Rattle.cost_num.specs.declared.TheConstants.{CAP}
use Rattle.response_model.specs.Cost.{Part, types, fields}
use Rattle.response_meter.specs.declared.fault.MeterFault.{MeterFault}
use Rattle.response_meter.specs.declared.fault.MeterFault.TheVariants.{NotResponse, SizeBroken, Memory}
use Rattle.response_meter.specs.Faults.{Fault, Tells}
use Rattle.response_meter.specs.Walks.{Measures}
use Rattle.response_model.specs.WrittenJson.{Appends}
use Rattle.response_model.specs.AnswerTexts.{AreBoth, Behind}

pub record Left (before now : List ℕ) (c : Cost) (fault whole_fault : Option Fault) (costs whole_costs : Part → ℕ) (Is Whole : List ℕ → Type 0) : Type 0 where
  pub same : fault ≡ whole_fault
  pub types_left : capped (c.types + costs types) ≡ capped (whole_costs types)
  pub fields_left : capped (c.fields + costs fields) ≡ capped (whole_costs fields)
  pub types_within : c.types ≤ CAP + 1
  pub fields_within : c.fields ≤ CAP + 1
  pub written : (rest : List ℕ) → Is rest → Appends Whole before (now ++ rest)

sum_left : (c d s a k w : ℕ) → capped (c + (a + k)) ≡ capped w → d ≡ capped a → s ≡ capped (c + d) → capped (s + k) ≡ capped w
sum_left c d s a k w l m e = omega arith

sum_within : (x s : ℕ) → s ≡ capped x → s ≤ CAP + 1
sum_within x s e = omega arith

-- What is left after a part is read as what is left before it, with the part in front.
written_step : (before now mid after : List ℕ) (front : List ℕ) (One Others Whole : List ℕ → Type 0) → ((rest : List ℕ) → Behind front (AreBoth One Others) rest → Appends Whole before (now ++ rest))
    → mid ≡ now ++ front → Appends One mid after → (rest : List ℕ) → Others rest → Appends Whole before (after ++ rest)
written_step before now mid after front One Others Whole written e part rest others =
    let longer : after ++ rest ≡ now ++ (front ++ (part.0 ++ rest)) =
    ap (λ x. x ++ rest) (part.2 ∙ ap (λ x. x ++ part.0) e) ∙ append_assoc (now ++ front) part.0 rest ∙ append_assoc now front (part.0 ++ rest) in
    subst (Appends Whole before) (sym longer) (written (front ++ (part.0 ++ rest)) (part.0 ++ rest, refl, (part.0, rest, refl, part.1, others)))

-- a part that was measured
pub left_step : (before now mid after : List ℕ) (c d s : Cost) (f g whole_fault : Option Fault) (a k whole_costs : Part → ℕ) (front : List ℕ) (One Others Whole : List ℕ → Type 0)
    → Left before now c (option_or f g) whole_fault (λ part. a part + k part) whole_costs (Behind front (AreBoth One Others)) Whole
    → mid ≡ now ++ front → Measures mid after (Ok d) f a One → s.types ≡ capped (c.types + d.types) → s.fields ≡ capped (c.fields + d.fields)
    → Left before after s g whole_fault k whole_costs Others Whole
left_step before now mid after c d s f g whole_fault a k whole_costs front One Others Whole l e m p q = record {
  same = sym (ap (λ x. option_or x g) m.0) ∙ l.same;
  types_left = sum_left c.types d.types s.types (a types) (k types) (whole_costs types) l.types_left m.1 p;
  fields_left = sum_left c.fields d.fields s.fields (a fields) (k fields) (whole_costs fields) l.fields_left m.2 q;
  types_within = sum_within (c.types + d.types) s.types p;
  fields_within = sum_within (c.fields + d.fields) s.fields q;
  written = written_step before now mid after front One Others Whole l.written e m.3;
}

-- the same, where what is left is read as something else
pub left_as : (before now : List ℕ) (c : Cost) (fault whole_fault : Option Fault) (costs whole_costs : Part → ℕ) (Is Js Whole : List ℕ → Type 0) → ((rest : List ℕ) → Js rest → Is rest)
    → Left before now c fault whole_fault costs whole_costs Is Whole → Left before now c fault whole_fault costs whole_costs Js Whole
left_as before now c fault whole_fault costs whole_costs Is Js Whole to l = record {
  same = l.same;
  types_left = l.types_left;
  fields_left = l.fields_left;
  types_within = l.types_within;
  fields_within = l.fields_within;
  written = λ rest is. l.written rest (to rest is);
}

sum_ends : (c w : ℕ) → capped (c + 0) ≡ capped w → c ≤ CAP + 1 → c ≡ capped w
sum_ends c w e l = omega arith

-- nothing is left but the closing bracket
pub left_ends : (before now after : List ℕ) (c : Cost) (whole_fault : Option Fault) (whole_costs : Part → ℕ) (text : List ℕ) (Is Whole : List ℕ → Type 0)
    → Left before now c None whole_fault (λ part. 0) whole_costs Is Whole → Is text → after ≡ now ++ text → Measures before after (Ok c) whole_fault whole_costs Whole
left_ends before now after c whole_fault whole_costs text Is Whole l is e =
    (sym l.same, sum_ends c.types (whole_costs types) l.types_left l.types_within, sum_ends c.fields (whole_costs fields) l.fields_left l.fields_within, subst (Appends Whole before) (sym e) (l.written text is))

-- a fault of a part is the first
pub tells_same : (f : MeterFault) (x y : Option Fault) → x ≡ y → Tells f x → Tells f y
tells_same (NotResponse path why) x y e t = sym e ∙ t
tells_same (SizeBroken path size length) x y e t = sym e ∙ t
tells_same Memory x y e t = tt

pub tells_first : (f : MeterFault) (x y : Option Fault) → Tells f x → Tells f (option_or x y)
tells_first (NotResponse path why) x y t = ap (λ z. option_or z y) t
tells_first (SizeBroken path size length) x y t = ap (λ z. option_or z y) t
tells_first Memory x y t = tt
