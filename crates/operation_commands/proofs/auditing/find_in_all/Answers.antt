use Rattle.std.proofs.Common.{◌≤◌, ◌<◌, ◌∙◌, length, map, arith}
use Rattle.std.proofs.lemmas.List.{length-map}
use Rattle.operation_commands.proofs.AuditWalks.{bytes_of, next_in_all, all_in_all, bytes_at_place}
use Rattle.operation_commands.proofs.auditing.find_in_all.Goals as goal

pub loop-at-preserved : goal.loop-at-preserved
loop-at-preserved c =
    let files = c.args.contents.now in
    let within : c.loop-at.at < length files = omega (arith, c.loop-at-test.true, c.requires.same) in
    let within2 : c.loop-at.at < length (map bytes_of files) = omega (arith, within, length-map files bytes_of) in
    record {
      ready = c.in_ok-find_in_bytes.ensures.ready;
      schema = c.in_ok-find_in_bytes.ensures.schema ∙ c.loop-at.invariant.schema;
      goes = next_in_all c.args.of.now.asked.now c.args.texts.now.schema c.args.names.now (map bytes_of files) c.loop-at.at c.loop-at.texts.schema c.index-names-at.result c.deref.result.now c.loop-at.findings.items
          c.find_in_bytes.new.into.items c.loop-at.invariant.schema c.loop-at-test.true within2 c.index-names-at.is
          (bytes_at_place files c.loop-at.at c.index-contents-at.result c.deref.result.now within c.index-contents-at.is c.deref.ensures.value) c.loop-at.invariant.goes c.in_ok-find_in_bytes.ensures.found;
    }

pub returns : goal.returns
returns c =
    let files = c.args.contents.now in
    let over2 : length (map bytes_of files) ≤ c.loop-at.at = omega (arith, c.loop-at-test.false, c.requires.same, length-map files bytes_of) in
    record { found = all_in_all c.args.of.now.asked.now c.args.texts.now.schema c.args.names.now (map bytes_of files) c.loop-at.at c.loop-at.findings.items c.loop-at-test.false over2 c.loop-at.invariant.goes }
