-- Where what is given comes from a reader and leaves a level of nesting, the body is as a reader has it.
use Rattle.std.proofs.Common.{ℕ, ◌+◌, ◌<◌, ◌≤◌, max, Bool, true, false, if◌then◌else◌, List, Option, None, Some, refl, arith}
use Rattle.std.specs.Prelude.{map}
use Rattle.serde_json.specs.Data.{Data, null, boolean, number, string, array, object, Members, no_members, member, depth, members_depth}
use Rattle.serde_json.specs.Read.{max_depth}
use Rattle.gql_base.specs.ways.Reading.{Identifier}
use Rattle.document_reader.specs.declared.trees.Operation.{Operation}
use Rattle.document_reader.specs.Documents.{VariableTree}
use Rattle.document_reader.specs.Trees.{maybe_identifier, variable_tree}
use Rattle.typename_rewrite.specs.ForwardedBodies.{members_where, sent_variables, declares, body_with, body_data}
use Rattle.typename_rewrite.specs.ReadJson.{ComesBefore, IsAsRead, MembersAreAsRead}

so_there : (name : Option Identifier) (document : List ℕ) (variables : Members) → MembersAreAsRead variables → IsAsRead (body_with name document variables)
so_there None document variables are = ((refl, tt), tt, (tt, are, tt))
so_there (Some name) document variables are = ((refl, (refl, tt)), tt, ((refl, tt), tt, (tt, are, tt)))

deep_there : (name : Option Identifier) (document : List ℕ) (variables : Members) → members_depth variables + 2 ≤ max_depth → depth (body_with name document variables) ≤ max_depth
deep_there None document variables within = omega (arith, within)
deep_there (Some name) document variables within = omega (arith, within)

-- ---- of what is given, the members that are sent

module _ (keeps : List ℕ → Bool) where
  before_kept : (test : Bool) (key other : List ℕ) (d : Data) (rest : Members) → ComesBefore key (member other d rest) → ComesBefore key (if test then member other d rest else rest)
  before_kept true key other d rest before = before
  before_kept false key other d rest before = before.1

  before_where : (key : List ℕ) (ms : Members) → ComesBefore key ms → ComesBefore key (members_where keeps ms)
  before_where key no_members before = tt
  before_where key (member other d ms) before = before_kept (keeps other) key other d (members_where keeps ms) (before.0, before_where key ms before.1)

  so_kept : (test : Bool) (key : List ℕ) (d : Data) (rest : Members) → MembersAreAsRead (member key d rest) → MembersAreAsRead (if test then member key d rest else rest)
  so_kept true key d rest are = are
  so_kept false key d rest are = are.2

  so_where : (ms : Members) → MembersAreAsRead ms → MembersAreAsRead (members_where keeps ms)
  so_where no_members are = tt
  so_where (member key d ms) are = so_kept (keeps key) key d (members_where keeps ms) (before_where key ms are.0, are.1, so_where ms are.2)

  deep_kept : (test : Bool) (key : List ℕ) (d : Data) (rest : Members) → members_depth (if test then member key d rest else rest) ≤ max (depth d) (members_depth rest)
  deep_kept true key d rest = omega arith
  deep_kept false key d rest = omega arith

  deep_where : (ms : Members) → members_depth (members_where keeps ms) ≤ members_depth ms
  deep_where no_members = omega arith
  deep_where (member key d ms) = omega (arith, deep_kept (keeps key) key d (members_where keeps ms), deep_where ms)

module _ (vs : List VariableTree) where
  so_sent : (given : Data) → IsAsRead given → MembersAreAsRead (sent_variables vs given)
  so_sent null is = tt
  so_sent (boolean b) is = tt
  so_sent (number n) is = tt
  so_sent (string s) is = tt
  so_sent (array ds) is = tt
  so_sent (object ms) is = so_where (declares vs) ms is

  deep_sent : (given : Data) → depth given < max_depth → members_depth (sent_variables vs given) + 2 ≤ max_depth
  deep_sent null within = omega arith
  deep_sent (boolean b) within = omega arith
  deep_sent (number n) within = omega arith
  deep_sent (string s) within = omega arith
  deep_sent (array ds) within = omega arith
  deep_sent (object ms) within = omega (arith, within, deep_where (declares vs) ms)

module _ (o : Operation) (document : List ℕ) (given : Data) where
  pub body_so : IsAsRead given → IsAsRead (body_data o document given)
  unfolding body_data
  body_so is = so_there (maybe_identifier o.name) document _ (so_sent (map variable_tree o.variables.items) given is)

  pub body_deep : depth given < max_depth → depth (body_data o document given) ≤ max_depth
  unfolding body_data
  body_deep within = deep_there (maybe_identifier o.name) document _ (deep_sent (map variable_tree o.variables.items) given within)
