-- The errors and the data of a reply, and the text of both.
use Rattle.std.proofs.Common.{sym, ◌∙◌, option_map, string_bytes}
use Rattle.serde_json.specs.View.{view}
use Rattle.response_meter.specs.Walks.{root_plan}
use Rattle.response_meter.proofs.Replies.{reply_found}
use Rattle.response_meter.proofs.measuring.read_reply.Goals as goal

pub returns : goal.returns
returns c =
    reply_found c.args.by.now c.args.body.now (string_bytes c.in_ok-text.text) (string_bytes c.write_errors.new.into) (string_bytes c.meter_content.new.into) (string_bytes c.push_str.new.self) (root_plan c.args.by.now c.args.types.now)
    (record { cost = c.in_ok-cost.cost; text = c.from.result }) c.in_ok-some_error.some_error (view c.in_ok-reply.reply)
    (option_map (λ v. view v.now) c.get.result) (option_map (λ v. view v.now) c.get-2.result)
    c.in_ok-reply.ensures.read (sym c.if-not-is_object.false ∙ c.is_object.ensures) c.in_ok-text.ensures.ok c.get.ensures c.in_ok-some_error.ensures c.get-2.ensures c.in_ok-cost.ensures c.in_ok-push_str.ensures.bytes c.from.ensures
