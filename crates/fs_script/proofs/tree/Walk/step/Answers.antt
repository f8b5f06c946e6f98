use Rattle.std.proofs.Common.{refl}
use Rattle.fs_nodes.specs.Seen.{seen}
use Rattle.fs_script.proofs.StepLemmas.{entry_there, step_visits, up_goes, last_up}
use Rattle.fs_script.proofs.tree.Walk.step.Goals as goal

pub visit-requires : goal.visit-requires
visit-requires c = entry_there (seen c.args.store.now) c.next.ensures.real _ c.in-Some.entry.1 _ c.in-Some.entry.0.now c.in-Some.ensures.entry

pub returns-in_ok-visit-in-Some-clause-ok : goal.returns-in_ok-visit-in-Some-clause-ok
returns-in_ok-visit-in-Some-clause-ok c =
    step_visits (seen c.args.store.now) c.next.ensures.real c.args.self.now c.visit.new.self c.args.line.now.added c.visit.new.line.added c.in-Some.entry.0.now c.in-Some.entry.1
    c.requires.leads c.in-Some.ensures.rest c.in-Some.ensures.entry
    c.in_ok-visit-in-Some.ensures.ok c.in_ok-visit-in-Some.ensures.walk

pub returns-in-None-clause-ok : goal.returns-in-None-clause-ok
returns-in-None-clause-ok c =
    up_goes (seen c.args.store.now) c.next.ensures.real c.args.self.now c.go_up.new.self c.args.line.now.added c.args.line.now.added c.go_up.result
    c.requires.leads c.in-None.ensures.rest c.go_up.ensures refl

pub returns-in-None-clause-last : goal.returns-in-None-clause-last
returns-in-None-clause-last c = last_up (seen c.args.store.now) c.next.ensures.real c.args.self.now c.go_up.new.self c.go_up.result c.requires.leads c.requires.last c.go_up.ensures
