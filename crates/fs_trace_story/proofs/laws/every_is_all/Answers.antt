use Rattle.std.proofs.Common.{◌≡◌, ℕ, ◌+◌, true, List, [], ◌∷◌, map, refl, ap}
use Rattle.fs_trace_story.specs.Shown.{shown_from}
use Rattle.fs_sched_witness.specs.declared.moments.Moment.{Moment}
use Rattle.fs_sched_witness.specs.declared.moments.Moment.TheVariants.{Event, Checkpoint}
use Rattle.fs_sched_witness.specs.declared.moments.Told.{Told}
use Rattle.fs_trace_story.proofs.laws.every_is_all.Goals as goal

all_from : (before : List Told) (number : ℕ) (ms : List Moment) → map (λ m. m.1) (shown_from true before number ms) ≡ ms
all_from before number [] = refl
all_from before number (Event t ∷ ms) = ap (λ (rest : List Moment). Event t ∷ rest) (all_from (t ∷ before) (number + 1) ms)
all_from before number (Checkpoint entries ∷ ms) = ap (λ (rest : List Moment). Checkpoint entries ∷ rest) (all_from before number ms)

pub returns : goal.returns
returns c ms = all_from [] 1 ms
