-- Which entries fit the index of the timeline.
use Rattle.std.proofs.Common.{◌≡◌, ℕ, List, [], ◌∷◌, ◌++◌, subst}
use Rattle.fs_timeline.specs.Timeline.{IsNext, IsWellFormed}
use Rattle.fs_timeline.specs.declared.entry.Entry.{Entry}
use Rattle.fs_timeline.specs.declared.entry.Entry.TheVariants.{Commit}
use Rattle.fs_timeline.proofs.TimelineLemmas.{each_last}
use Rattle.fs_laws.proofs.journal.ViewOfTimeline.{linearizes}
use Rattle.fs_core.specs.CoreValues.{CoreValue, state_of}
use Rattle.fs_core.specs.code.Rooms.{IsKept}

next_by : (es : List Entry) (e : Entry) → IsWellFormed (es ++ e ∷ []) → IsNext es e
next_by es e h = each_last IsNext [] es e h

-- a commit after which the core is kept
pub commit_next : (m : CoreValue) (b k p : ℕ) (es : List Entry) (c : ℕ) → m.timeline ≡ es ++ Commit c ∷ [] → IsKept m b k p → IsNext es (Commit c)
commit_next m b k p es c is kept = next_by es (Commit c) (subst IsWellFormed is (linearizes (state_of m) kept.run).lawful.well_formed)
