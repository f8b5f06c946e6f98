-- The history in the text of a run is linearizable.
use Rattle.std.proofs.Common.{◌≡◌, ℕ, List, Option, Some, None}
use Rattle.std.specs.Prelude.{IfSome}
use Rattle.fs_laws.proofs.journal.ViewOfTimeline.{linearizes}
use Rattle.fs_linearizable.proofs.LawfulLemmas.{lawful_is_linearizable}
use Rattle.fs_sched.specs.Devices.{IsSameText}
use Rattle.fs_sched.specs.EachRun.{IsLinearizableRun}
use Rattle.fs_sched.specs.Runs.{IsRunOf}
use Rattle.fs_sched.specs.declared.running.RunEnd.{RunEnd}
use Rattle.fs_sched.specs.declared.schedule.Schedule.{Schedule}
use Rattle.fs_sched.proofs.RunLemmas.{known_run}
use Rattle.fs_sched.proofs.Whole.{last_run}

pub linearizable_run : (schedule : Schedule) (input : List ℕ) (end : RunEnd) (text : List ℕ) → IsRunOf schedule input end text → IsLinearizableRun schedule input text
linearizable_run schedule input end text (script, is, (told, last, runs, (ended, shown))) =
    (script, told, last, is, runs, shown, lawful_is_linearizable last.state.start last.state.timeline (linearizes last.state (last_run schedule script told last runs)).lawful)

-- and so is that in the text of the run of what was read
pub known_linearizable : (r : Option (List ℕ)) (text items out : List ℕ) (schedule : Schedule) (end : RunEnd) → text ≡ items → IfSome r (IsSameText items) → IsRunOf schedule text end out → IfSome r (λ input. IsLinearizableRun schedule input out)
known_linearizable None text items out schedule end e s run = tt
known_linearizable (Some input) text items out schedule end e s run = linearizable_run schedule input end out (known_run (Some input) text items out schedule end e s run)
