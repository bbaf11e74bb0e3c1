use Rattle.std.proofs.Common.{sym, ◌∙◌, inr, subst}
use Rattle.serde_json.proofs.Views.{members_len-members_view}
use Rattle.serde_json.specs.View.{members_view}
use Rattle.trusted_documents.specs.Answers.{TellsFault}
use Rattle.trusted_documents.proofs.Entries.{too_many, few_enough}
use Rattle.trusted_documents.proofs.listing.check_members.Goals as goal

pub returns-then-count-gt-LIST_LIMIT : goal.returns-then-count-gt-LIST_LIMIT
returns-then-count-gt-LIST_LIMIT c = inr (sym (too_many (members_view c.args.members.now.entries) _ (c.len-count.ensures.len ∙ sym (members_len-members_view c.args.members.now.entries)) c.if-count-gt-LIST_LIMIT.true))

pub returns : goal.returns
returns c = subst (λ found. TellsFault found c.check_entries.result) (sym (few_enough (members_view c.args.members.now.entries) _ (c.len-count.ensures.len ∙ sym (members_len-members_view c.args.members.now.entries)) c.if-count-gt-LIST_LIMIT.false)) c.check_entries.ensures
