-- A placed call's place is the number of commits before its own.
use Rattle.std.proofs.Common.{◌≡◌, ℕ, Bool, true, false, ◌||◌, List, [], ◌∷◌, ◌++◌, Option, Some, None, refl, sym, ap, ◌∙◌, subst, Ok, Err}
use Rattle.fs_names.specs.Keys.{Key}
use Rattle.fs_names.specs.Shapes.{Shape}
use Rattle.fs_calls.specs.Forms.{reserved_by}
use Rattle.fs_calls.specs.declared.call.Call.{Call}
use Rattle.fs_calls.specs.Graphs.{Graph, set_at, reserved_in}
use Rattle.fs_timeline.specs.Timeline as journal
use Rattle.fs_timeline.specs.declared.entry.Entry.{Entry}
use Rattle.fs_timeline.specs.declared.entry.Entry.TheVariants.{Begin, Commit, Return}
use Rattle.fs_timeline.proofs.AppendLemmas.{list_any-push, before_commit-kept, before_commit-first}
use Rattle.fs_timeline.proofs.TimelineLemmas.{lawful_appended}
use Rattle.fs_machine.specs.Finishes.{finish}
use Rattle.fs_machine.specs.Leaving.{let_go, finished_op}
use Rattle.fs_machine.specs.Moves.{target, took, took_by}
use Rattle.fs_machine.specs.Records.{Phase, Placed, Record, Holdings}
use Rattle.fs_laws.specs.Below.{HasPlace, PlacesAreCounted}
use Rattle.fs_timeline.specs.Timeline.{commit_count}
use Rattle.fs_machine.specs.States.{State, Begun, Begins, Reserves, new_op, began, Run, Starting, Beginning, Stepping, Step}
use Rattle.fs_machine.specs.declared.answers.Refusal.TheVariants.{SeatBusy, Full, OutOfMemory}
use Rattle.fs_machine.specs.declared.answers.Stepped.{Stepped}
use Rattle.fs_machine.specs.declared.answers.Stepped.TheVariants.{Idle, Took, Busy, LetGo, Helped, Committed, CarriedOut, Returned}
use Rattle.fs_laws.proofs.events.OneCallChanged.{Place, Here, Else, place}
use Rattle.fs_laws.proofs.events.JustFinished.{Either, Changed, Old, either}
use Rattle.fs_laws.proofs.journal.ViewOfTimeline.{linearizes}
use Rattle.fs_laws.proofs.graphs.Walks.{eqb_refl}

or_left : (a b : Bool) → a ≡ true → (a || b) ≡ true
or_left true b e = refl
or_left false b e = cc

or_right : (a b : Bool) → b ≡ true → (a || b) ≡ true
or_right true b e = refl
or_right false b e = e

-- a place stays when an entry comes
place_more : (es : List Entry) (e : Entry) (c i : ℕ) → HasPlace es c i → HasPlace (es ++ e ∷ []) c i
place_more es e c i h = record {
  committed = list_any-push (journal.is_commit c) es e ∙ or_left (journal.has_committed c es) (journal.is_commit c e) h.committed;
  place = ap commit_count (before_commit-kept c es e h.committed) ∙ h.place;
}

-- a call gets its place
place_new : (es : List Entry) (c : ℕ) → journal.has_committed c es ≡ false → HasPlace (es ++ Commit c ∷ []) c (commit_count es)
place_new es c h = record {
  committed = list_any-push (journal.is_commit c) es (Commit c) ∙ or_right (journal.has_committed c es) (journal.is_commit c (Commit c)) (eqb_refl c);
  place = ap commit_count (before_commit-first c es h);
}

took_phase : (op : Record) (n : ℕ) → (took op n).phase ≡ op.phase
took_phase op n = go op.holdings (target op.remaining)
  where
    go : (s : Option Holdings) (l : Key) → (took_by op s l n).phase ≡ op.phase
    go None l = refl
    go (Some st) [] = refl
    go (Some st) (x ∷ l) = refl

-- the record of one call has changed, and it is placed only where it was
kept_places : (s : State) → PlacesAreCounted s → (c : ℕ) (op v : Record) → s.ops c ≡ Some op → (v.phase ≡ op.phase) → (d i : ℕ) (q : Record) → set_at c (Some v) s.ops d ≡ Some q → q.phase ≡ Placed i → HasPlace s.timeline d i
kept_places s h c op v is same d i q e ph = go (either s.ops c v d q e)
  where
    go : Either s.ops c v d q → HasPlace s.timeline d i
    go (Changed j f) = h d i op (ap s.ops j ∙ is) (sym same ∙ ap (λ (o : Record). o.phase) f ∙ ph)
    go (Old n f) = h d i q f ph

-- the record of one call has changed, and it is not placed
other_places : (s : State) → PlacesAreCounted s → (c : ℕ) (v : Record) → ((i : ℕ) → v.phase ≡ Placed i → ⊥) → (d i : ℕ) (q : Record) → set_at c (Some v) s.ops d ≡ Some q → q.phase ≡ Placed i → HasPlace s.timeline d i
other_places s h c v none d i q e ph = go (either s.ops c v d q e)
  where
    go : Either s.ops c v d q → HasPlace s.timeline d i
    go (Changed j f) = absurd (none i (ap (λ (o : Record). o.phase) f ∙ ph))
    go (Old n f) = h d i q f ph

placed_is : (i j : ℕ) → ◌≡◌ {A = Phase} (Placed i) (Placed j) → i ≡ j
placed_is i j e = cc

step_places : (old new : State) (seat : ℕ) (answer : Stepped) → Run new → PlacesAreCounted old → Step old seat answer new → PlacesAreCounted new
step_places old new seat Idle run h st = subst PlacesAreCounted (sym st.1) h
step_places old new seat (Busy n d) run h (c, op, m, held, same) = subst PlacesAreCounted (sym same) h
step_places old new seat (Took n) run h (c, op, m, free, same) = subst PlacesAreCounted (sym same) (λ d i q e ph. kept_places old h c op (took op n) m.1 (took_phase op n) d i q e ph)
step_places old new seat (LetGo n) run h (c, op, m, same) = subst PlacesAreCounted (sym same) (λ d i q e ph. kept_places old h c op (let_go op n) m.1 refl d i q e ph)
step_places old new seat CarriedOut run h (c, op, o, i, m, placed, same) = subst PlacesAreCounted (sym same) (λ d j q e ph. other_places old h c (finished_op op (finish old.graph op)) (λ k f. cc) d j q e ph)
step_places old new seat Committed run h (c, op, o, m, w, below, same) = subst PlacesAreCounted (sym same) (λ d j q e ph. place_more old.timeline (Commit c) d j (other_places old h c (finished_op op (finish old.graph op)) (λ k f. cc) d j q e ph))
step_places old new seat (Returned r) run h (c, op, m, ph, same) = subst PlacesAreCounted (sym same) (λ d i q e f. place_more old.timeline (Return c r) d i (go d i q e f (place c None old.ops d)))
  where
    go : (d i : ℕ) (q : Record) → set_at c None old.ops d ≡ Some q → q.phase ≡ Placed i → Place (Option Record) c None old.ops d → HasPlace old.timeline d i
    go d i q e f (Here j k) = let z : ◌≡◌ {A = Option Record} None (Some q) = sym k ∙ e in cc
    go d i q e f (Else n k) = h d i q (sym k ∙ e) f
step_places old new seat (Helped x) run h (c, op, t, m, w, pick, q, is, same) = subst PlacesAreCounted (sym same) (λ d i p e ph. go d i p ph (either old.ops x (record q { phase = Placed (commit_count old.timeline) }) d p e))
  where
    first : journal.has_committed x old.timeline ≡ false
    first = ((lawful_appended old.start old.timeline (Commit x)).0 (subst (λ (s : State). journal.IsLawful s.start s.timeline) same (linearizes new run).lawful)).1.1

    go : (d i : ℕ) (p : Record) → p.phase ≡ Placed i → Either old.ops x (record q { phase = Placed (commit_count old.timeline) }) d p → HasPlace (old.timeline ++ Commit x ∷ []) d i
    go d i p ph (Changed j f) =
        let a : commit_count old.timeline ≡ i = placed_is (commit_count old.timeline) i (ap (λ (o : Record). o.phase) f ∙ ph) in
        subst (λ (y : ℕ). HasPlace (old.timeline ++ Commit x ∷ []) y i) (sym j) (subst (HasPlace (old.timeline ++ Commit x ∷ []) x) a (place_new old.timeline x first))
    go d i p ph (Old n f) = place_more old.timeline (Commit x) d i (h d i p f ph)

begin_places : (old new : State) (seat : ℕ) (call : Call) (answer : Begun) → PlacesAreCounted old → Begins old seat call answer new → PlacesAreCounted new
begin_places old new seat call (Err SeatBusy) h (c, on, same) = subst PlacesAreCounted (sym same) h
begin_places old new seat call (Err Full) h (on, full, same) = subst PlacesAreCounted (sym same) h
begin_places old new seat call (Err OutOfMemory) h (on, full, same) = subst PlacesAreCounted (sym same) h
begin_places old new seat call (Ok c) h (free, number, r) = go (reserved_by call) r
  where
    by : (reserved : Option ℕ) (graph : Graph) → PlacesAreCounted (began old seat call c reserved graph)
    by reserved graph = λ d i q e ph. place_more old.timeline (Begin c seat call) d i (other_places old h c (new_op old.start.limits seat call reserved) (λ k f. cc) d i q e ph)

    go : (o : Option Shape) → Reserves old seat call c o new → PlacesAreCounted new
    go None same = subst PlacesAreCounted (sym same) (by None old.graph)
    go (Some shape) (n, less, unused, same) = subst PlacesAreCounted (sym same) (by (Some n) (reserved_in n shape old.graph))

pub places_are_told : (s : State) → Run s → PlacesAreCounted s
places_are_told s (Starting limit tree graph h) = λ c i op e ph. cc
places_are_told s (Beginning {old} seat call answer new run b) = begin_places old new seat call answer (places_are_told old run) b
places_are_told s (Stepping {old} seat answer new run st) = step_places old new seat answer (Stepping seat answer new run st) (places_are_told old run) st
