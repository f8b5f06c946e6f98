-- A script comes to its end, or to a checkpoint while calls are under way, and not to both.
use Rattle.std.proofs.Common.{◌≡◌, ℕ, ◌≤◌, List, [], ◌∷◌, length, Option, Some, None, sym, ◌∙◌, inl, inr, arith}
use Rattle.fs_calls.specs.declared.call.Call.{Call}
use Rattle.fs_timeline.specs.declared.entry.Entry.{Entry}
use Rattle.fs_machine.specs.Records.{Record}
use Rattle.fs_machine.specs.Headline.{IsIdle}
use Rattle.fs_machine.specs.States.{State, Run}
use Rattle.fs_laws.proofs.states.Headline.{run_keeps}
use Rattle.fs_script.specs.declared.script.Script.{Script}
use Rattle.fs_script.specs.declared.script.Word.{Word}
use Rattle.fs_script.specs.declared.script.Word.TheVariants as words
use Rattle.fs_sched.specs.Runs.{Stage, start, Does, Words, Runs, StopsAt, StopsInWords}
use Rattle.fs_sched.specs.Laws.{IsUnderWay}
use Rattle.fs_sched.specs.Schedules.{words_by}
use Rattle.fs_verdict.specs.declared.fault.RunFault.{RunFault}
use Rattle.fs_verdict.specs.declared.fault.RunFault.TheVariants.{Full, UnderWay}
use Rattle.fs_sched.specs.declared.schedule.Schedule.{Schedule}
use Rattle.fs_sched.proofs.OneText.{Same, same_seat, same_start, does_same}

-- where no call is under way, no seat has one
idle_seat : (s : State) (seat c : ℕ) → Run s → IsIdle s → s.on_seat seat ≡ Some c → ⊥
idle_seat s seat c run idle on = go ((run_keeps s run).seated seat c on)
  where
    go : (op : Record) × (s.ops c ≡ Some op) × (op.seat ≡ seat) → ⊥
    go (op, is, e) = let z : ◌≡◌ {A = Option Record} None (Some op) = sym (idle c) ∙ is in cc

-- a word is done, or stops the run
not_both_at : (lists : List (List Call)) (w : Word) (told : List Entry) (a b new : Stage) (c : ℕ) → ((seat : ℕ) → b.state.on_seat seat ≡ a.state.on_seat seat) → Run a.state → Does lists a w told new → StopsAt lists b w (UnderWay c) → ⊥
not_both_at lists (words.Events seat times) told a b new c same run does stops = stops
not_both_at lists words.Checkpoint told a b new c same run (idle, is, again) least = idle_seat a.state least.seat c run idle (sym (same least.seat) ∙ least.under_way)
not_both_at lists words.Finish told a b new c same run does stops = stops
not_both_at lists words.Drawn told a b new c same run does stops = stops

not_both : (lists : List (List Call)) (ws : List Word) (told : List Entry) (a b new : Stage) (c : ℕ) → Same a b → Words lists a ws told new → StopsInWords lists b ws (UnderWay c) → ⊥
not_both lists [] told a b new c s done stops = stops
not_both lists (w ∷ ws) told a b new c s (m, first, rest, does, after, both) (inl stops) = not_both_at lists w first a b m c (same_seat a b s) s.run does stops
not_both lists (w ∷ ws) told a b new c s (m, first, rest, does, after, both) (inr (m_b, first_b, does_b, stops)) = not_both lists ws rest m m_b new c (does_same lists w first first_b a b m m_b s does does_b).1 after stops

-- the number is one
one_at : (lists : List (List Call)) (w : Word) (a b : Stage) (c d : ℕ) → Same a b → StopsAt lists a w (UnderWay c) → StopsAt lists b w (UnderWay d) → d ≡ c
one_at lists (words.Events seat times) a b c d s stops stops_b = absurd stops
one_at lists words.Checkpoint a b c d s least least_b =
    let below : c ≤ d = least.least least_b.seat d (sym (same_seat a b s least_b.seat) ∙ least_b.under_way) in
    let above : d ≤ c = least_b.least least.seat c (same_seat a b s least.seat ∙ least.under_way) in
    omega (arith, below, above)
one_at lists words.Finish a b c d s stops stops_b = absurd stops
one_at lists words.Drawn a b c d s stops stops_b = absurd stops

one_number : (lists : List (List Call)) (ws : List Word) (a b : Stage) (c d : ℕ) → Same a b → StopsInWords lists a ws (UnderWay c) → StopsInWords lists b ws (UnderWay d) → d ≡ c
one_number lists [] a b c d s stops stops_b = absurd stops
one_number lists (w ∷ ws) a b c d s (inl stops) (inl stops_b) = one_at lists w a b c d s stops stops_b
one_number lists (w ∷ ws) a b c d s (inl stops) (inr (m_b, first_b, does_b, stops_b)) = absurd (not_both_at lists w first_b b a m_b c (λ seat. sym (same_seat a b s seat)) s.other does_b stops)
one_number lists (w ∷ ws) a b c d s (inr (m, first, does, stops)) (inl stops_b) = absurd (not_both_at lists w first a b m d (same_seat a b s) s.run does stops_b)
one_number lists (w ∷ ws) a b c d s (inr (m, first, does, stops)) (inr (m_b, first_b, does_b, stops_b)) = one_number lists ws m m_b c d (does_same lists w first first_b a b m m_b s does does_b).1 stops stops_b

-- such a stop is one at a word
pub at_word : (schedule : Schedule) (script : Script) (c : ℕ) → IsUnderWay schedule script c → StopsInWords script.lists (start script.limits (length script.lists)) (words_by schedule script.words script.lists) (UnderWay c)
at_word schedule script c (inl stops) = stops
at_word schedule script c (inr (middle, told, done, goes, full, rest)) = absurd (let z : ◌≡◌ {A = RunFault} (UnderWay c) Full = full in cc)

pub one_end : (schedule : Schedule) (script : Script) (c : ℕ) → IsUnderWay schedule script c → ((told : List Entry) (last : Stage) → Runs schedule script told last → ⊥) × ((d : ℕ) → IsUnderWay schedule script d → d ≡ c)
one_end schedule script c under = (
  λ told last runs. not_both script.lists (words_by schedule script.words script.lists) told (start script.limits (length script.lists)) (start script.limits (length script.lists)) runs.0 c (same_start script.limits (length script.lists)) runs.1 (at_word schedule script c under),
  λ d other. one_number script.lists (words_by schedule script.words script.lists) (start script.limits (length script.lists)) (start script.limits (length script.lists)) c d (same_start script.limits (length script.lists)) (at_word schedule script c under) (at_word schedule script d other),
)
