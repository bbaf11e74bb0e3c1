-- The whole answer.
use Rattle.std.proofs.Common.{◌≡◌, ℕ, ◌*◌, ◌≤◌, Ok, Err, arith}
use Rattle.cost_num.specs.declared.TheConstants.{UNIT, CAP}
use Rattle.cost_num.specs.Capped.{capped}
use Rattle.cost_num.specs.declared.Cost.{Cost}
use Rattle.acceptance.specs.PassedOn.{IsWithin}
use Rattle.response_model.specs.Cost.{types, fields}
use Rattle.local_introspection.specs.declared.counting.Stop.{Stop}
use Rattle.local_introspection.specs.declared.counting.Stop.TheVariants.{TooLarge, Memory}
use Rattle.schema_facts.specs.Facts.{FactsData}
use Rattle.meta_schema.specs.PassedOn.{AskedNodes}
use Rattle.schema_facts.specs.Things.{the_root}
use Rattle.std.specs.Prelude.{Result}
use Rattle.local_introspection.specs.Answers.{values_in}
use Rattle.local_introspection.specs.Counting.{Counts, IsCount, answer_tree, answer_cost}
use Rattle.local_introspection.proofs.Most.{answer_at_most}

exact_below : (n count : ℕ) (c : ℕ) → n ≤ UNIT * count → count ≤ 1000000 → c ≡ capped n → c ≡ n
exact_below n count c less few is = omega arith

pub is_count : (f : FactsData) (nodes : AskedNodes) (still : ℕ) (result : Result Cost Stop) → Counts 1000000 still result (values_in (answer_tree f nodes)) (answer_cost f nodes) → IsCount f nodes result
is_count f nodes still (Ok c) w =
    let few : values_in (answer_tree f nodes) ≤ 1000000 = omega (arith, w.0) in (
      few,
      exact_below (answer_cost f nodes types) (values_in (answer_tree f nodes)) c.types (answer_at_most f types nodes the_root) few w.1,
      exact_below (answer_cost f nodes fields) (values_in (answer_tree f nodes)) c.fields (answer_at_most f fields nodes the_root) few w.2,
    )
is_count f nodes still (Err TooLarge) w = w
is_count f nodes still (Err Memory) w = tt

few_within : (n count c : ℕ) → n ≤ UNIT * count → count ≤ 1000000 → c ≡ n → c ≤ CAP
few_within n count c less few is = omega (arith, less, few, is)

-- so few values cost less than the cap
pub is_within : (f : FactsData) (nodes : AskedNodes) (c : Cost) → IsCount f nodes (Ok c) → IsWithin c
is_within f nodes c (few, of_types, of_fields) = record {
  of_types = few_within (answer_cost f nodes types) (values_in (answer_tree f nodes)) c.types (answer_at_most f types nodes the_root) few of_types;
  of_fields = few_within (answer_cost f nodes fields) (values_in (answer_tree f nodes)) c.fields (answer_at_most f fields nodes the_root) few of_fields;
}
