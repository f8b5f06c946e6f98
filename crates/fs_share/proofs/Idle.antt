-- Where every call that began has returned, no call is under way.
use Rattle.std.proofs.Common.{◌≡◌, ℕ, Bool, true, false, ◌||◌, ◌==◌, List, [], ◌∷◌, Option, Some, None, refl, sym, ap, ◌∙◌}
use Rattle.std.proofs.lemmas.Bool.{eq-eqb, ne_eqb, or_left, or_right}
use Rattle.fs_calls.specs.declared.call.Call.{Call}
use Rattle.fs_nodes.specs.Graphs.{set_at}
use Rattle.fs_timeline.specs.Timeline.{has_begun, has_returned}
use Rattle.fs_timeline.specs.declared.entry.Entry.{Entry}
use Rattle.fs_timeline.specs.declared.entry.Entry.TheVariants.{Begin, Commit, Return}
use Rattle.fs_machine.specs.Records.{Record}
use Rattle.fs_laws.specs.JournalViews.{JournalView, start, noted, commit_of, view_after}
use Rattle.fs_machine.specs.Headline.{IsIdle}
use Rattle.fs_laws.specs.Invariants.{Invariant}
use Rattle.fs_machine.specs.States.{State, Run}
use Rattle.fs_laws.proofs.states.Headline.{run_keeps}
use Rattle.fs_laws.proofs.events.OneCallChanged.{Place, Here, Else, place}
use Rattle.fs_share.specs.Returns.{AllReturned}

-- a commit changes neither who has returned nor who began
same_back : (o : Option Call) (view : JournalView) (n : ℕ) → (commit_of view n o).back ≡ view.back
same_back None view n = refl
same_back (Some call) view n = refl

same_call : (o : Option Call) (view : JournalView) (n : ℕ) → (commit_of view n o).call ≡ view.call
same_call None view n = refl
same_call (Some call) view n = refl

-- who has not returned by the view has not returned by the entries
not_back : (view : JournalView) (es : List Entry) (c : ℕ) → (view_after view es).back c ≡ false → (view.back c ≡ false) × (has_returned c es ≡ false)
not_back view [] c e = (e, refl)
not_back view (Begin n seat call ∷ es) c e = not_back (noted view (Begin n seat call)) es c e
not_back view (Commit n ∷ es) c e =
    let later = not_back (commit_of view n (view.call n)) es c e in
    (ap (λ (f : ℕ → Bool). f c) (sym (same_back (view.call n) view n)) ∙ later.0, later.1)
not_back view (Return n r ∷ es) c e = go (place n true view.back c) (not_back (noted view (Return n r)) es c e)
  where
    go : Place Bool n true view.back c → (set_at n true view.back c ≡ false) × (has_returned c es ≡ false) → (view.back c ≡ false) × (((c == n) || has_returned c es) ≡ false)
    go (Here i j) later = let z : true ≡ false = sym j ∙ later.0 in cc
    go (Else n_c j) later = (sym j ∙ later.0, ap (λ (b : Bool). b || has_returned c es) (ne_eqb c n n_c) ∙ later.1)

-- who began by the view began by the entries
begun : (view : JournalView) (es : List Entry) (c : ℕ) (call : Call) → (view_after view es).call c ≡ Some call → view.call c ≡ None → has_begun c es ≡ true
begun view [] c call e none = let z : ◌≡◌ {A = Option Call} None (Some call) = sym none ∙ e in cc
begun view (Begin n seat x ∷ es) c call e none = go (place n (Some x) view.call c) (begun (noted view (Begin n seat x)) es c call e)
  where
    go : Place (Option Call) n (Some x) view.call c → (set_at n (Some x) view.call c ≡ None → has_begun c es ≡ true) → ((c == n) || has_begun c es) ≡ true
    go (Here i j) later = or_left (c == n) (has_begun c es) (eq-eqb c n i)
    go (Else n_c j) later = or_right (c == n) (has_begun c es) (later (j ∙ none))
begun view (Commit n ∷ es) c call e none = begun (commit_of view n (view.call n)) es c call e (ap (λ (f : ℕ → Option Call). f c) (same_call (view.call n) view n) ∙ none)
begun view (Return n r ∷ es) c call e none = begun (noted view (Return n r)) es c call e none

pub idle_when_returned : (s : State) → Run s → AllReturned s.timeline → IsIdle s
idle_when_returned s run all c = go (s.ops c) refl
  where
    inv : Invariant s
    inv = run_keeps s run

    go : (o : Option Record) → s.ops c ≡ o → o ≡ None
    go None e = refl
    go (Some op) e =
        let back = (not_back (start s.start) s.timeline c (inv.seat_of c op e).1).1 in
        let z : false ≡ true = sym back ∙ all c (begun (start s.start) s.timeline c op.call (inv.tied.calls c op e) refl) in cc
