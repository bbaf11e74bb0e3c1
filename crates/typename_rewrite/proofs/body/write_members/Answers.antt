use Rattle.std.proofs.Common.{false, ◌++◌, string_bytes, sym, ap, ◌∙◌, subst}
use Rattle.serde_json.specs.View.{view, members_view}
use Rattle.gql_base.specs.names.Names.{has_name}
use Rattle.response_model.specs.WrittenJson.{Appends}
use Rattle.typename_rewrite.specs.ForwardedBodies.{members_where, member_text, IsMemberText}
use Rattle.typename_rewrite.specs.Views.{word_text}
use Rattle.typename_rewrite.proofs.BodySteps.{MembersLeft, members_begun, member_written}
use Rattle.typename_rewrite.proofs.BodyTexts.{MembersGoOn, goes_on_begun, goes_on_written, object_appended}
use Rattle.typename_rewrite.proofs.body.write_members.Goals as goal

pub members-init : goal.members-init
members-init c =
    let keeps = has_name word_text c.args.names.now.items.now in
    let whole = members_where keeps (members_view c.args.members.now.entries) in
    let all = sym (c.into_iter-key-iterator.ensures.into_iter_gives ∙ c.iter-key-items.ensures.rest) in
    record {
      text = subst (λ ms. MembersLeft whole (members_where keeps (members_view ms)) (string_bytes c.args.into.now) (string_bytes c.push_str.new.self) false) all
          (members_begun whole (string_bytes c.args.into.now) (string_bytes c.push_str.new.self) c.in_ok-push_str.ensures.bytes);
      written = subst (λ ms. MembersGoOn whole (members_where keeps (members_view ms)) (string_bytes c.args.into.now) (string_bytes c.push_str.new.self) false) all
          (goes_on_begun whole (string_bytes c.args.into.now) (string_bytes c.push_str.new.self) c.in_ok-push_str.ensures.bytes);
    }

pub members-preserved-then-has : goal.members-preserved-then-has
members-preserved-then-has c =
    let keeps = has_name word_text c.args.names.now.items.now in
    let whole = members_where keeps (members_view c.args.members.now.entries) in
    let stays = ap keeps (sym c.as_str.ensures.value) ∙ (sym c.has.ensures ∙ c.if-has.true) in
    record {
      text = member_written keeps whole (string_bytes c.in-Some.key.now) (view c.in-Some.value.now) (members_view c.next.new.self) (string_bytes c.args.into.now) (string_bytes c.members.into) (string_bytes c.write_member.new.into) c.members.later stays
          (λ floatless. c.in_ok-write_member.ensures.text floatless ∙ ap (λ name. string_bytes c.members.into ++ member_text c.members.later name (view c.in-Some.value.now)) c.as_str-then-has.ensures.value)
          (subst (λ ms. MembersLeft whole (members_where keeps (members_view ms)) (string_bytes c.args.into.now) (string_bytes c.members.into) c.members.later) c.in-Some.ensures.steps c.members.invariant.text);
      written = goes_on_written keeps whole (string_bytes c.in-Some.key.now) (view c.in-Some.value.now) (members_view c.next.new.self) (string_bytes c.args.into.now) (string_bytes c.members.into) (string_bytes c.write_member.new.into) c.members.later stays
          (λ shallow. subst (λ name. Appends (IsMemberText c.members.later name (view c.in-Some.value.now)) (string_bytes c.members.into) (string_bytes c.write_member.new.into)) c.as_str-then-has.ensures.value (c.in_ok-write_member.ensures.written shallow))
          (subst (λ ms. MembersGoOn whole (members_where keeps (members_view ms)) (string_bytes c.args.into.now) (string_bytes c.members.into) c.members.later) c.in-Some.ensures.steps c.members.invariant.written);
    }

pub returns : goal.returns
returns c =
    let keeps = has_name word_text c.args.names.now.items.now in
    let whole = members_where keeps (members_view c.args.members.now.entries) in
    object_appended c.push_str-2.result whole (string_bytes c.args.into.now) (string_bytes c.members.into) (string_bytes c.push_str-2.new.self) c.members.later c.push_str-2.ensures.bytes
    (subst (λ ms. MembersLeft whole (members_where keeps (members_view ms)) (string_bytes c.args.into.now) (string_bytes c.members.into) c.members.later) c.in-None.ensures.steps.0 c.members.invariant.text)
    (subst (λ ms. MembersGoOn whole (members_where keeps (members_view ms)) (string_bytes c.args.into.now) (string_bytes c.members.into) c.members.later) c.in-None.ensures.steps.0 c.members.invariant.written)
