-- Replies of placed calls stay, and of the waiting calls the deepest wait for calls that go on.
use Rattle.std.proofs.Common.{◌≡◌, ℕ, ◌+◌, ◌≤◌, true, List, [], ◌∷◌, ◌++◌, Option, Some, length, length-append, refl, sym, ap, ◌∙◌, arith, inl, inr}
use Rattle.fs_names.specs.Keys.{Key}
use Rattle.fs_names.specs.Parts.{HasNames}
use Rattle.fs_calls.specs.Starts.{Start}
use Rattle.fs_nodes.specs.Graphs.{at, numbers}
use Rattle.fs_timeline.specs.Timeline.{due, has_committed, IsLawful}
use Rattle.fs_timeline.specs.declared.entry.Entry.{Entry}
use Rattle.fs_timeline.specs.declared.entry.Entry.TheVariants.{Commit, Return}
use Rattle.fs_timeline.proofs.AppendLemmas.{due-kept, begun_first}
use Rattle.fs_machine.specs.Records.{Holdings, Record}
use Rattle.fs_machine.specs.States.{State, Step, Run}
use Rattle.fs_machine.specs.declared.answers.Stepped.{Stepped}
use Rattle.fs_machine.specs.declared.answers.Stepped.TheVariants.{Idle, Took, Busy, LetGo, Helped, Committed, CarriedOut, Returned}
use Rattle.fs_laws.specs.Invariants.{Invariant}
use Rattle.fs_laws.specs.Progress.{WaitsFor, HoldsAbove}
use Rattle.fs_laws.proofs.calls.NextMoves.{takes_another}
use Rattle.fs_laws.proofs.graphs.Walks.{at_from}
use Rattle.fs_laws.proofs.journal.PlacesOfPlaced.{places_are_told}
use Rattle.fs_laws.proofs.journal.ViewOfTimeline.{step_start, linearizes}
use Rattle.fs_laws.proofs.states.Agreement.{Holder, run_accounts}
use Rattle.fs_laws.proofs.states.Headline.{run_keeps}
use Rattle.fs_laws.proofs.states.Waiters.{Does, AtNode, Waiting, does_step, waits_above}
use Rattle.fs_core.specs.Told.{RepliesStay, NamesAnother, StandsAt, CanGoOn, DeepestWaitsForOneThatGoesOn}

-- the same timeline, or one more entry
kept : (start : Start) (c : ℕ) (es new : List Entry) → new ≡ es → due start c new ≡ due start c es
kept start c es new same = ap (due start c) same

more : (start : Start) (c : ℕ) (es new : List Entry) (e : Entry) → IsLawful start es → has_committed c es ≡ true → new ≡ es ++ e ∷ [] → due start c new ≡ due start c es
more start c es new e law placed same = ap (due start c) same ∙ due-kept start c es e (begun_first es law.well_formed) placed

abbrev line : State → List Entry
line s = s.timeline

by_step : (s t : State) (seat c : ℕ) (a : Stepped) → IsLawful s.start s.timeline → has_committed c s.timeline ≡ true → Step s seat a t → due s.start c t.timeline ≡ due s.start c s.timeline
by_step s t seat c Idle law placed h = kept s.start c _ _ (ap line h.1)
by_step s t seat c (Took n) law placed (d, op, moves, free, same) = kept s.start c _ _ (ap line same)
by_step s t seat c (Busy n e) law placed (d, op, moves, held, same) = kept s.start c _ _ (ap line same)
by_step s t seat c (LetGo n) law placed (d, op, moves, same) = kept s.start c _ _ (ap line same)
by_step s t seat c (Helped e) law placed (d, op, m, moves, walking, chosen, q, is, same) = more s.start c _ _ (Commit e) law placed (ap line same)
by_step s t seat c Committed law placed (d, op, m, moves, walking, none, same) = more s.start c _ _ (Commit d) law placed (ap line same)
by_step s t seat c CarriedOut law placed (d, op, m, i, moves, at, same) = kept s.start c _ _ (ap line same)
by_step s t seat c (Returned r) law placed (d, op, moves, finished, same) = more s.start c _ _ (Return d r) law placed (ap line same)

pub replies_stay : (s : State) → Run s → RepliesStay s
replies_stay s run c i seat op answer new is placed step =
    ap (λ (t : Start). due t c new.timeline) (step_start s seat answer new step) ∙ by_step s new seat c answer (linearizes s run).lawful (places_are_told s run c i op is placed).committed step

pub names_another : (s : State) → Run s → NamesAnother s
names_another s run seat n d new (c, op, moves, held, same) on =
    let both : ◌≡◌ {A = Option ℕ} (Some c) (Some d) = sym moves.0 ∙ on in
    let own : c ≡ d = cc in takes_another s c op n run moves.1 moves.2 (held ∙ ap (λ (x : ℕ). Some x) (sym own))

-- of two calls that wait, the first for the second, the second stands deeper
deeper : (s : State) → Run s → (c d e depth : ℕ) (op q : Record) → WaitsFor s c d op → WaitsFor s d e q → StandsAt s op depth → (more : ℕ) × (depth + 1 ≤ more) × StandsAt s q more
deeper s run c d e depth op q one two stands = go stands
  where
    above : (other : Holdings) × (q.holdings ≡ Some other) × HoldsAbove s op other.node
    above = waits_above s run c d e op q one two

    inv : Invariant s
    inv = run_keeps s run

    here : numbers s.graph (inv.key d) ≡ Some above.0.node
    here = (inv.kept.each d q above.0 two.is above.1).located.here

    go : StandsAt s op depth → (more : ℕ) × (depth + 1 ≤ more) × StandsAt s q more
    go (inl (none, depth_is)) = (length (inv.key d) + 1, omega (arith, depth_is), inr (above.0, inv.key d, above.1, here, refl))
    go (inr (st, key, on, there, depth_is)) =
        let way : (k : Key) × HasNames k × (at s.graph.child st.node k ≡ Some above.0.node) = above.2 st on in
        (length (key ++ way.0) + 1, longer key way.0 way.1 depth_is, inr (above.0, key ++ way.0, above.1, at_from s.graph.child 0 st.node key way.0 there ∙ way.2, refl))
      where
        longer : (key k : Key) → HasNames k → depth ≡ length key + 1 → depth + 1 ≤ length (key ++ k) + 1
        longer key [] names depth_is = absurd names
        longer key (x ∷ k) names depth_is = omega (arith, depth_is, length-append key (x ∷ k))

pub deepest_waits : (s : State) → Run s → DeepestWaitsForOneThatGoesOn s
deepest_waits s run c d depth w deepest = go (does_step s run d holder.0 holder.1)
  where
    holder : (q : Record) × (s.ops d ≡ Some q)
    holder = let h : Holder s w.waits.node d = (run_accounts s run).holds w.waits.node d w.waits.held in (h.0, h.2)

    go : Does s d holder.0 → CanGoOn s d
    go (AtNode answer new step goes) = record { op = holder.0; is = holder.1; answer = answer; new = new; step = step; goes_on = goes }
    go (Waiting n e wants held) =
        let two : WaitsFor s d e holder.0 = record { is = holder.1; node = n; wants = wants; held = held } in
        let more : (m : ℕ) × (depth + 1 ≤ m) × StandsAt s holder.0 m = deeper s run c d e depth w.op holder.0 w.waits two w.stands in
        let less : more.0 ≤ depth = deepest d e more.0 (record { op = holder.0; waits = two; stands = more.2 }) in
        absurd (omega (arith, more.1, less))
