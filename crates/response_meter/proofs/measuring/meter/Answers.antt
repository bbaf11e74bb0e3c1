-- What was found is what is measured, since no response costs more than the cap.
use Rattle.response_meter.proofs.Replies.{found_metered, found_within, found_passes}
use Rattle.response_meter.proofs.measuring.meter.Goals as goal

pub returns-in-Ok-clause-metered : goal.returns-in-Ok-clause-metered
returns-in-Ok-clause-metered c = λ tree holds.
    found_metered (record { alloc = c.args.alloc; of = c.args.plan; alias = c.args.alias }) tree c.args.body.now c.in-Ok.metered (c.in-Ok.ensures tree holds) c.requires.counted holds

pub returns-in-Ok-clause-passed : goal.returns-in-Ok-clause-passed
returns-in-Ok-clause-passed c = λ tree holds.
    found_passes (record { alloc = c.args.alloc; of = c.args.plan; alias = c.args.alias }) tree c.args.body.now c.in-Ok.metered (c.in-Ok.ensures tree holds)

pub returns-in-Ok-clause-at_most : goal.returns-in-Ok-clause-at_most
returns-in-Ok-clause-at_most c = λ tree holds bound is.
    found_within (record { alloc = c.args.alloc; of = c.args.plan; alias = c.args.alias }) tree c.args.body.now c.in-Ok.metered bound.types bound.fields (c.in-Ok.ensures tree holds) is.of_types is.of_fields

pub returns-in-Err-clause-fault : goal.returns-in-Err-clause-fault
returns-in-Err-clause-fault c = λ tree holds. c.after.ensures _ (c.in-Err.ensures tree holds)
