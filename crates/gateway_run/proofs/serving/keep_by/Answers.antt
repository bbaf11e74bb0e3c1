-- The journal was opened for the clients of the files, and the gate is one of the files.
use Rattle.std.proofs.Common.{inr, ap, ◌∙◌, subst, map, List}
use Rattle.sha2.specs.Sha256.{sha256}
use Rattle.client_files.specs.declared.client.Client.{Client}
use Rattle.client_files.specs.Written.{client_file}
use Rattle.gateway_serving.specs.PassedOn.{client_limit, limits_of}
use Rattle.gateway_serving.specs.Decisions.{Rules}
use Rattle.gateway_serving.specs.Telling.{doors_told}
use Rattle.journal_serving.specs.PassedOn.{kept_slots, service_kept}
use Rattle.journal_serving.specs.Keeping.{disks_told}
use Rattle.gateway_run.specs.Serve.{kept_service_by, IsKeptTold}
use Rattle.gateway_run.proofs.Services.{same_service, same_limits, came_alike}
use Rattle.gateway_run.proofs.serving.keep_by.Goals as goal

pub returns : goal.returns
returns g c =
    let gate = c.in-Ok-made.gate in
    let asked = c.args.asked.now in
    let inputs = c.args.inputs in
    let clients = inputs.rules.clients in
    let rules = c.in-Ok-made.ensures.rules in
    let serving = c.serving_of-serving.result in
    let came_to = c.serve_journal-came_to.result in
    inr (
      came_to,
      serving,
      c.serving_of-serving.ensures,
      came_alike (service_kept gate) (kept_service_by asked inputs) (limits_of gate) (map client_limit clients.clients.items) c.in-Ok.mark (sha256 (client_file clients.window_seconds clients.clients.items))
          c.as_str-journal.result.now c.args.name.now serving
          (disks_told g.J.Disks c.args.disks.now) (disks_told g.J.Disks c.serve_journal-came_to.new.disks)
          (doors_told g.D.Doors c.args.doors.now) (doors_told g.D.Doors c.serve_journal-came_to.new.doors) came_to
          (same_service kept_slots gate asked inputs c.in-Ok-settings_of.settings rules c.in-Ok-made.ensures.settings c.in-Ok-settings_of.ensures.host c.in-Ok-settings_of.ensures.target c.in-Ok-settings_of.ensures.passed
          c.in-Ok-settings_of.ensures.hints) (same_limits gate inputs asked.most_answer asked.most_work rules) c.in-Ok.ensures c.as_str-journal.ensures c.serve_journal-came_to.ensures.came_to,
      subst (λ (listed : List Client). IsKeptTold listed came_to c.kept_told.result) (c.clients.ensures ∙ ap (λ (r : Rules). r.clients) rules) c.kept_told.ensures,
    )
