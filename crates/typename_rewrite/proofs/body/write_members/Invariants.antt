use Rattle.std.proofs.Common.{string_bytes}
use Rattle.serde_json.specs.View.{members_view}
use Rattle.gql_base.specs.names.Names.{has_name}
use Rattle.typename_rewrite.specs.ForwardedBodies.{members_where}
use Rattle.typename_rewrite.specs.Views.{word_text}
use Rattle.typename_rewrite.proofs.BodySteps.{MembersLeft}
use Rattle.typename_rewrite.proofs.BodyTexts.{MembersGoOn}
use Rattle.typename_rewrite.proofs.body.write_members.Given as goal

abbrev pub invariant-members : goal.invariant-members
invariant-members l = record {
  text : MembersLeft (members_where (has_name word_text l.names.items.now) (members_view l.members.entries)) (members_where (has_name word_text l.names.items.now) (members_view l.key-iterator)) (string_bytes l.fn.into) (string_bytes l.into) l.later;
  written : MembersGoOn (members_where (has_name word_text l.names.items.now) (members_view l.members.entries)) (members_where (has_name word_text l.names.items.now) (members_view l.key-iterator)) (string_bytes l.fn.into) (string_bytes l.into) l.later;
}
