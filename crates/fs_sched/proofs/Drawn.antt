-- Events of drawn threads, as words.
use Rattle.std.proofs.Common.{◌≡◌, ℕ, zero, suc, ◌-◌, ◌%◌, Bool, true, List, [], ◌∷◌, ◌++◌, length, map, replicate, refl, Ok, ap, ap₂, ◌∙◌, subst, inl, inr}
use Rattle.std.specs.List.{range_with_len}
use Rattle.fs_calls.specs.declared.call.Call.{Call}
use Rattle.fs_timeline.specs.declared.entry.Entry.{Entry}
use Rattle.fs_laws.proofs.journal.ViewOfTimeline.{begin_start, step_start}
use Rattle.fs_script.specs.declared.script.Script.{Script}
use Rattle.fs_script.specs.declared.script.Word.{Word}
use Rattle.fs_script.specs.declared.script.Word.TheVariants as words
use Rattle.fs_sched.specs.Runs.{Stage, EndsBy, Event, Goes, Starts, Spent, Events, ToEnd, Over, More, Words, RunsFrom, Stops, StopsFrom, StopsInWords}
use Rattle.rand_pcg.specs.Lcg.{Lcg}
use Rattle.rand_pcg.specs.Pcg.{pcg32}
use Rattle.fs_sched.specs.Schedules.{generator_of, most_events, one_event, drawn_seats, schedule_by, goes_on, turns_by, turns_from, words_by}
use Rattle.fs_verdict.specs.declared.fault.RunFault.{RunFault}
use Rattle.fs_verdict.specs.declared.fault.RunFault.TheVariants.{Full, UnderWay}
use Rattle.fs_sched.specs.declared.policy.Policy.{Policy}
use Rattle.fs_sched.specs.declared.policy.Policy.TheVariants.{Uniform, Priorities}
use Rattle.fs_sched.specs.declared.schedule.TheConstants.{DRAW_LIMIT}
use Rattle.fs_sched.proofs.Preparing.{OnlyEvents, only_drawn, only_behind}

pub drawn_words : (lists : List (List Call)) (seats : List ℕ) (old new : Stage) → Events lists old seats new → Words lists old (map one_event seats) [] new
drawn_words lists [] old new e = (e, refl)
drawn_words lists (seat ∷ seats) old new (middle, event, rest) = (middle, [], [], ((middle, event, refl), refl), drawn_words lists seats middle new rest, refl)

pub drawn_stops : (lists : List (List Call)) (seats : List ℕ) (old : Stage) → Stops lists old seats → StopsInWords lists old (map one_event seats) Full
drawn_stops lists [] old stops = stops
drawn_stops lists (seat ∷ seats) old (inl refused) = inl (inl refused)
drawn_stops lists (seat ∷ seats) old (inr (middle, event, rest)) = inr (middle, [], ((middle, event, refl), refl), drawn_stops lists seats middle rest)

no_checkpoint : (lists : List (List Call)) (ws : List Word) (old : Stage) (c : ℕ) → OnlyEvents ws → StopsInWords lists old ws (UnderWay c) → ⊥
no_checkpoint lists [] old c only stops = stops
no_checkpoint lists (words.Events seat times ∷ ws) old c only (inl stops) = stops
no_checkpoint lists (words.Events seat times ∷ ws) old c only (inr (middle, told, does, rest)) = no_checkpoint lists ws middle c only rest
no_checkpoint lists (words.Checkpoint ∷ ws) old c only stops = only
no_checkpoint lists (words.Finish ∷ ws) old c only stops = only
no_checkpoint lists (words.Drawn ∷ ws) old c only stops = only

-- the words of a drawn run
abbrev words_drawn : Policy → ℕ → Script → List Word
words_drawn by n script = words_by (schedule_by by n) script.words script.lists

only_ends : (most : ℕ) (seats : List ℕ) → OnlyEvents (map (λ seat. words.Events seat most) seats)
only_ends most [] = tt
only_ends most (seat ∷ seats) = only_ends most seats

only_turns_from : (threads most turns : ℕ) (g : Lcg) → OnlyEvents (turns_from threads most turns g)
unfolding turns_from
only_turns_from threads most zero g = only_ends most (range_with_len ((pcg32 g).0 % threads) (threads - (pcg32 g).0 % threads) ++ range_with_len 0 ((pcg32 g).0 % threads))
only_turns_from threads most (suc turns) g = only_turns_from threads most turns (pcg32 (pcg32 g).1).1

only_turns : (lists : List (List Call)) (depth n : ℕ) → OnlyEvents (turns_by lists depth n)
only_turns [] depth n = tt
only_turns (calls ∷ lists) depth n = only_turns_from (length (calls ∷ lists)) (most_events (calls ∷ lists)) (depth - 1) (generator_of n)

only_words : (by : Policy) (n : ℕ) (script : Script) → OnlyEvents (words_drawn by n script)
only_words Uniform n script = only_drawn script.words (drawn_seats n (length script.lists) DRAW_LIMIT)
only_words (Priorities depth) n script = only_behind script.words (turns_by script.lists depth n) (only_turns script.lists depth n)

-- rounds to the end follow, whatever the words are
ends_always : (by : Policy) (n : ℕ) (words : List Word) → goes_on (schedule_by by n) words ≡ true
ends_always Uniform n words = refl
ends_always (Priorities depth) n words = refl

-- a drawn run comes to no checkpoint
pub never_from : (by : Policy) (n : ℕ) (script : Script) (first : Stage) (c : ℕ) → StopsFrom (schedule_by by n) script first (UnderWay c) → ⊥
never_from by n script first c (inl stops) = no_checkpoint script.lists (words_drawn by n script) first c (only_words by n script) stops
never_from by n script first c (inr (middle, told, done, goes, full, rest)) = let z : ◌≡◌ {A = RunFault} (UnderWay c) Full = full in cc

event_start : (lists : List (List Call)) (old new : Stage) (seat : ℕ) → Event lists old seat new → new.state.start ≡ old.state.start
event_start lists old new seat (Goes c answer on step kept) = step_start old.state seat answer new.state step
event_start lists old new seat (Starts c call off is begins set) = begin_start old.state seat call (Ok c) new.state begins
event_start lists old new seat (Spent off none e) = ap (λ (x : Stage). x.state.start) e

events_start : (lists : List (List Call)) (seats : List ℕ) (old new : Stage) → Events lists old seats new → new.state.start ≡ old.state.start
events_start lists [] old new e = ap (λ (x : Stage). x.state.start) e
events_start lists (seat ∷ seats) old new (middle, event, rest) = events_start lists seats middle new rest ∙ event_start lists old middle seat event

end_start : (lists : List (List Call)) (old last : Stage) → ToEnd lists old last → last.state.start ≡ old.state.start
end_start lists old last (Over over) = refl
end_start lists old last (More {middle} more round rest) = end_start lists middle last rest ∙ events_start lists (range_with_len 0 (length lists)) old middle round

-- its words are one piece
words_start : (lists : List (List Call)) (ws : List Word) (told : List Entry) (old new : Stage) → OnlyEvents ws → Words lists old ws told new → (told ≡ []) × (new.state.start ≡ old.state.start)
words_start lists [] told old new only (e, none) = (none, ap (λ (x : Stage). x.state.start) e)
words_start lists (words.Events seat times ∷ ws) told old new only (middle, first, rest, (events, none), after, both) =
    let more : (rest ≡ []) × (new.state.start ≡ middle.state.start) = words_start lists ws rest middle new only after in
    (both ∙ ap₂ (λ (xs ys : List Entry). xs ++ ys) none more.0, more.1 ∙ events_start lists (replicate times seat) old middle events)
words_start lists (words.Checkpoint ∷ ws) told old new only all = absurd only
words_start lists (words.Finish ∷ ws) told old new only all = absurd only
words_start lists (words.Drawn ∷ ws) told old new only all = absurd only

-- a drawn run is one piece
pub drawn_from : (by : Policy) (n : ℕ) (script : Script) (first : Stage) (told : List Entry) (last : Stage) → RunsFrom (schedule_by by n) script first told last → RunsFrom (schedule_by by n) script first [] last × (last.state.start ≡ first.state.start)
drawn_from by n script first told last runs =
    let once : (told ≡ []) × (runs.0.state.start ≡ first.state.start) = words_start script.lists (words_drawn by n script) told first runs.0 (only_words by n script) runs.1 in
    let ends : ToEnd script.lists runs.0 last = subst (λ (b : Bool). EndsBy b script.lists runs.0 last) (ends_always by n script.words) runs.2 in
    (subst (λ (es : List Entry). RunsFrom (schedule_by by n) script first es last) once.0 runs, end_start script.lists runs.0 last ends ∙ once.1)
