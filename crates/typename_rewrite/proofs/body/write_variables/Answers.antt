use Rattle.std.proofs.Common.{◌≡◌, map, string_bytes, rules, sym, ap, ◌∙◌, subst}
use Rattle.std.proofs.lemmas.Result.{on_ok_weaker}
use Rattle.serde_json.specs.Data.{no_members}
use Rattle.serde_json.specs.View.{view, members_view}
use Rattle.serde_json.specs.declared.value.Value.{the_lemmas}
use Rattle.serde_json.proofs.Views.{view-Object}
use Rattle.gql_base.specs.names.Names.{has_name}
use Rattle.document_reader.specs.Trees.{variable_tree}
use Rattle.typename_rewrite.specs.AddedNames.{is_taken}
use Rattle.typename_rewrite.specs.ForwardedBodies.{AppendsObject, variable_name, members_of, members_where, declares}
use Rattle.typename_rewrite.specs.Views.{word_text}
use Rattle.typename_rewrite.proofs.AliasSteps.{taken_among}
use Rattle.typename_rewrite.proofs.BodySteps.{members_alike}
use Rattle.typename_rewrite.proofs.BodyTexts.{braces_appended}
use Rattle.typename_rewrite.proofs.body.write_variables.Goals as goal

pub returns-in-Object : goal.returns-in-Object
returns-in-Object c =
    let variables = map variable_tree c.args.variables.now in
    let words = c.in_ok-names.names.items.now in
    let entries = c.in-Object.members.entries in
    let listed = c.in_ok-names.ensures ∙ c.as_slice.ensures.value in
    let named = ap (map word_text) listed ∙ c.in_ok-words.ensures in
    let sent = members_alike (has_name word_text words) (declares variables) (members_view entries) (λ name. taken_among word_text words name ∙ (ap (λ names. is_taken names name) named ∙ sym (taken_among variable_name variables name)))
    ∙ ap (λ json. members_where (declares variables) (members_of json)) (sym (ap view c.in-Object.is ∙ view-Object c.in-Object.members)) in
    on_ok_weaker c.write_members.result (subst (AppendsObject (string_bytes c.args.into.now) (string_bytes c.write_members.new.into)) sent) c.write_members.ensures

pub returns : goal.returns
returns c =
    let variables = map variable_tree c.args.variables.now in
    let none : members_of (view c.args.given.now) ≡ no_members = search (rules, the_lemmas, c.in_default.not-Object) in
    braces_appended c.push_str.result (members_where (declares variables) (members_of (view c.args.given.now))) (string_bytes c.args.into.now) (string_bytes c.push_str.new.self) (ap (members_where (declares variables)) none) c.push_str.ensures.bytes
