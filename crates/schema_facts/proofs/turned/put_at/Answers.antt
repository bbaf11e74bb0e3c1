use Rattle.std.proofs.Common.{rules}
use Rattle.std.proofs.lemmas.Result.{on_ok_weaker}
use Rattle.schema_facts.proofs.TurnedLists.{put_there, put_nowhere}
use Rattle.schema_facts.proofs.turned.put_at.Goals as goal

pub returns-in-Some : goal.returns-in-Some
returns-in-Some c = on_ok_weaker c.put_last.result (put_there c.args.lists.now.items c.args.place c.args.number c.put_last.new.list c.in-Some.list.now (search rules) (search rules)) c.put_last.ensures

pub returns-in-None : goal.returns-in-None
returns-in-None c = put_nowhere c.args.lists.now.items c.args.place c.args.number (search rules)
