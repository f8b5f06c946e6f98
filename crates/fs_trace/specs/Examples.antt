-- A worked example of a script that is read back, computed from the definitions.
use Rattle.std.specs.Prelude.{[], ◌∷◌, ◌≡◌, ◌++◌, List, ℕ, codes}
use Prim.Native.String.{String}
use Rattle.fs_names.specs.declared.limits.Limits.TheVariants.{V1}
use Rattle.fs_script.specs.declared.script.Script.{Script}
use Rattle.fs_script.specs.declared.script.Word.TheVariants.{Events, Finish}
use Rattle.fs_sched_witness.specs.Moments.{event_of, spent_of}
use Rattle.fs_sched_witness.specs.declared.moments.Answer.TheVariants.{Begun}
use Rattle.fs_sched_witness.specs.declared.moments.Moment.{Moment}
use Rattle.fs_trace.specs.Traces.{busy_words, IsReadAs}

-- a script of two threads
abbrev pub two_threads : Script
two_threads = record { names = codes "t" ∷ codes "u_1" ∷ []; lists = [] ∷ [] ∷ []; words = Finish ∷ []; limits = V1 }

-- two events of the second thread, an idle turn of the first, and an event of the first
abbrev pub four_turns : List Moment
four_turns = event_of 1 (Begun 1) ∷ event_of 1 (Begun 2) ∷ spent_of 0 ∷ event_of 0 (Begun 3) ∷ []

-- that script, written with these words
abbrev pub written : String → List ℕ
written words = codes "atomfs 1\nthread t\n# u\nthread u_1\nschedule" ++ codes words

pub record SchedulesRead : Type 0 where
  pub idle_turns : busy_words four_turns ≡ Events 1 1 ∷ Events 1 1 ∷ Events 0 1 ∷ []
  pub one_word : IsReadAs two_threads four_turns (written "\nu_1*2 t\n")
  pub each_event : IsReadAs two_threads four_turns (written "\nu_1 u_1\nt\n")
  pub none : IsReadAs two_threads [] (written "\n")
