-- How the journal of a history is told, step by step.
use Rattle.std.specs.Prelude.{◌≡◌, reverse, true, ℕ, List, [], ◌∷◌, ◌++◌, Some, Contains}
use Rattle.fs_calls.specs.Starts.{Start}
use Rattle.fs_calls.specs.Outcomes.{next_start}
use Rattle.fs_calls.specs.declared.reply.Reply.{Reply}
use Rattle.fs_timeline.specs.Timeline.{has_committed, commits, due, IsWellFormed, IsLawful}
use Rattle.fs_timeline.specs.declared.entry.Entry.{Entry}
use Rattle.fs_timeline.specs.declared.entry.Entry.TheVariants.{Commit}
use Rattle.fs_linearize_histories.specs.declared.heard.Heard.{Heard}
use Rattle.fs_linearize_histories.specs.declared.heard.Pattern.{Pattern}
use Rattle.fs_linearize_histories.specs.Heard.{IsHeardAs, Matches}
use Rattle.fs_linearize_histories.specs.Histories.{Explains}
use Rattle.fs_linearize_configurations.specs.code.Ways.{GoesBy}
use Rattle.fs_linearize.specs.declared.telling.Kept.{Kept}
use Rattle.fs_linearize.specs.declared.telling.Played.{Played}
use Rattle.fs_linearize.specs.declared.telling.Telling.{Telling}
use Rattle.fs_linearize_configurations.specs.declared.steps.Step.{Step}
use Rattle.fs_linearize_configurations.specs.declared.steps.Step.TheVariants.{Passes, Commits}

-- what is played is a journal, and the reply is the one that is due, once the call has committed
pub record IsPlayed (start : Start) (c : ℕ) (es : List Entry) (p : Played) : Type 0 where
  pub tree : p.tree ≡ next_start start (commits es)
  pub due_to : has_committed c es ≡ true → p.due ≡ due start c es

-- one entry more is played
abbrev pub PlaysOn : ℕ → List Entry → Entry → Played → Played → Type 0
PlaysOn c before e old new = (start : Start) → IsWellFormed (before ++ e ∷ []) → IsPlayed start c before old → IsPlayed start c (before ++ e ∷ []) new

-- a reply that is filled in is the only one that matches and is due
abbrev pub IsFilledIn : Start → List Entry → ℕ → Pattern → Reply → Type 0
IsFilledIn start es c p r = (s : Reply) → IsWellFormed es → has_committed c es ≡ true → due start c es ≡ Some s → Matches p s → r ≡ s

-- an entry is the only one that comes next in a lawful timeline, and is heard as this one
abbrev pub IsEntryFor : Start → List Entry → Heard → Entry → Type 0
IsEntryFor start before x e = (f : Entry) → IsLawful start (before ++ f ∷ []) → IsHeardAs f x → e ≡ f

-- a reply that is kept is due to a call that has committed
abbrev pub IsDueTo : Start → List Entry → Kept → Type 0
IsDueTo start es one = (has_committed one.number es ≡ true) × (due start one.number es ≡ Some one.reply)

abbrev pub AreDue : Start → List Entry → List Kept → Type 0
AreDue start es kept = (one : Kept) → Contains kept one → IsDueTo start es one

-- what is kept of a timeline is the tree that it leaves, and replies that are due
pub record IsKept (start : Start) (es : List Entry) (tree : Start) (kept : List Kept) : Type 0 where
  pub grown : tree ≡ next_start start (commits es)
  pub each : AreDue start es kept

-- the commit of a call is played
abbrev pub PlaysNext : ℕ → List Entry → Start → List Kept → Start → List Kept → Type 0
PlaysNext c es tree kept grown more = (start : Start) → IsWellFormed (es ++ Commit c ∷ []) → IsKept start es tree kept → IsKept start (es ++ Commit c ∷ []) grown more

-- what is told so far begins a timeline, which goes on by the steps that are left
pub record IsTold (start : Start) (steps : List Step) (es : List Entry) (t : Telling) : Type 0 where
  pub later : List Entry
  pub whole : es ≡ t.journal.items ++ later
  pub goes : GoesBy (reverse t.rest.items) steps later
  pub kept : IsKept start t.journal.items t.tree t.kept.items

abbrev pub TellsOn : Start → Telling → Step → Telling → Type 0
TellsOn start old step new = (steps : List Step) (es : List Entry) → IsLawful start es → IsTold start (step ∷ steps) es old → IsTold start steps es new

-- an entry is one of such a step
abbrev pub IsOfStep : Step → Entry → Type 0
IsOfStep Passes e = (d : ℕ) → e ≡ Commit d → ⊥
IsOfStep (Commits d) e = e ≡ Commit d

-- one step more is played of a timeline that explains a history
abbrev pub PlaysStep : ℕ → List Heard → Step → Played → Played → Type 0
PlaysStep c h step old new = (start : Start) (before later : List Entry) (e : Entry) → Explains start h (before ++ e ∷ later) → IsOfStep step e → IsPlayed start c before old → IsPlayed start c (before ++ e ∷ []) new
