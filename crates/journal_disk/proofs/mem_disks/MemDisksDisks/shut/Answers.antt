use Rattle.std.proofs.Common.{Some, ◌∙◌, sym, ap, List, ℕ, option_map}
use Rattle.journal_disk.specs.Shutting.{shut_with}
use Rattle.journal_disk.proofs.ShutLaws.{holds_it, holds_others, is_last, name_is}
use Rattle.journal_disk.proofs.mem_disks.MemDisksDisks.shut.Goals as goal

pub returns-in-Some-clause-held : goal.returns-in-Some-clause-held
returns-in-Some-clause-held c name opened =
    let at = c.args.self.now.at in
    ap (λ (b : List ℕ). Some b) (holds_it c.args.self.now.bytes.items c.args.self.now.shut.items c.push_reserved.new.self.items (record { name = c.in-Some.name; disk = c.args.disk }) c.push_reserved.ensures.items
    name (name_is at c.in-Some.name name (sym c.take.ensures.value ∙ c.in-Some.is) opened))

pub returns-in-Some-clause-others : goal.returns-in-Some-clause-others
returns-in-Some-clause-others c name other opened isnt =
    let at = c.args.self.now.at in
    ap (λ (b : List ℕ). Some b) (holds_others c.args.self.now.bytes.items c.args.self.now.shut.items c.push_reserved.new.self.items (record { name = c.in-Some.name; disk = c.args.disk }) c.push_reserved.ensures.items
    other (λ same. isnt (sym same ∙ name_is at c.in-Some.name name (sym c.take.ensures.value ∙ c.in-Some.is) opened)))

pub returns-in-Some-clause-last : goal.returns-in-Some-clause-last
returns-in-Some-clause-last c =
    ap (option_map (λ it. shut_with (Some it.disk.bytes.items) it.disk.faults)) (is_last c.args.self.now.bytes.items c.args.self.now.shut.items c.push_reserved.new.self.items (record { name = c.in-Some.name; disk = c.args.disk }) c.push_reserved.ensures.items)
