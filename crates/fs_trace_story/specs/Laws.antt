-- What holds of the moments that are shown: a law, proved as the contract of a function of the module `laws`.
use Rattle.std.specs.Prelude.{◌≡◌, true, List, map}
use Rattle.fs_sched_witness.specs.declared.moments.Moment.{Moment}
use Rattle.fs_trace_story.specs.Shown.{shown}

-- where every event is asked for, the moments that are shown are all
abbrev pub EveryIsAll : Type 0
EveryIsAll = (ms : List Moment) → map (λ m. m.1) (shown true ms) ≡ ms
