-- What a step adds to the timeline.
use Rattle.std.proofs.Common.{◌≡◌, ℕ, [], ◌∷◌, ◌++◌, Option, Some, refl, sym, ap, ◌∙◌, append-nil}
use Rattle.fs_timeline.specs.declared.entry.Entry.TheVariants.{Commit, Return}
use Rattle.fs_machine.specs.Laws.{AddsItsEntries}
use Rattle.fs_machine.specs.States.{State}
use Rattle.fs_machine.specs.declared.answers.Stepped.TheVariants.{Idle, Took, Busy, LetGo, Helped, Committed, CarriedOut, Returned}

same_call : (o : Option ℕ) (c d : ℕ) → o ≡ Some c → o ≡ Some d → c ≡ d
same_call o c d e f = let z : ◌≡◌ {A = Option ℕ} (Some c) (Some d) = sym e ∙ f in cc

-- a state with the timeline of another
kept : (s new other : State) → new ≡ other → other.timeline ≡ s.timeline → new.timeline ≡ s.timeline ++ []
kept s new other e f = ap (λ (t : State). t.timeline) e ∙ f ∙ sym (append-nil s.timeline)

pub adds_entries : (s : State) → AddsItsEntries s
adds_entries s seat c Idle new (off, e) on = kept s new s e refl
adds_entries s seat c (Took n) new (d, op, m, free, e) on = kept s new _ e refl
adds_entries s seat c (Busy n h) new (d, op, m, held, e) on = kept s new s e refl
adds_entries s seat c (LetGo n) new (d, op, m, e) on = kept s new _ e refl
adds_entries s seat c (Helped h) new (d, op, t, m, walks, pick, q, is, e) on = ap (λ (x : State). x.timeline) e
adds_entries s seat c Committed new (d, op, o, m, walks, none, e) on =
    ap (λ (x : State). x.timeline) e ∙ ap (λ (n : ℕ). s.timeline ++ Commit n ∷ []) (same_call (s.on_seat seat) d c m.0 on)
adds_entries s seat c CarriedOut new (d, op, o, i, m, placed, e) on = kept s new _ e refl
adds_entries s seat c (Returned r) new (d, op, m, ph, e) on =
    ap (λ (x : State). x.timeline) e ∙ ap (λ (n : ℕ). s.timeline ++ Return n r ∷ []) (same_call (s.on_seat seat) d c m.0 on)
