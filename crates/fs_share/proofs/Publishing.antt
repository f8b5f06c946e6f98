-- The commits only grow, and the publisher's lists stay beginnings of them.
use Rattle.std.proofs.Common.{◌≡◌, ℕ, List, [], ◌∷◌, ◌++◌, length, Option, Some, None, Result, Ok, Err, OnOk, OnErr, slice_get, sym, ap, subst, arith, length-append}
use mathlib.Core.List.{IsPrefix}
use Rattle.fs_names.specs.Shapes.{Shape}
use Rattle.fs_calls.specs.Starts.{Start}
use Rattle.fs_calls.specs.Forms.{reserved_by}
use Rattle.fs_calls.specs.declared.call.Call.{Call}
use Rattle.fs_timeline.specs.Timeline.{commits, commits_of, IsLawful}
use Rattle.fs_timeline.specs.declared.entry.Entry.{Entry}
use Rattle.fs_timeline.specs.declared.entry.Entry.TheVariants.{Begin, Commit, Return}
use Rattle.fs_timeline.proofs.AppendLemmas.{commits-push, begun_first}
use Rattle.fs_machine.specs.States.{State, Begins, Reserves, Step}
use Rattle.fs_machine.specs.declared.answers.Refusal.{Refusal}
use Rattle.fs_machine.specs.declared.answers.Refusal.TheVariants.{OutOfMemory, Full, SeatBusy}
use Rattle.fs_machine.specs.declared.answers.Stepped.{Stepped}
use Rattle.fs_machine.specs.declared.answers.Stepped.TheVariants.{Idle, Took, Busy, LetGo, Helped, Committed, CarriedOut, Returned}
use Rattle.fs_share_observe.specs.Lists.{Lists}
use Rattle.fs_share_observe.proofs.Fronts.{prefix_self, prefix_trans, prefix_shorter, prefix_more, prefix_length}
use Rattle.fs_share.specs.Boards.{AreBeginnings}

-- the same timeline, or one more entry
kept : (es new : List Entry) → new ≡ es → IsPrefix (commits es) (commits new)
kept es new h = subst (λ (l : List Entry). IsPrefix (commits es) (commits l)) (sym h) (prefix_self (commits es))

more : (start : Start) (es new : List Entry) (e : Entry) → IsLawful start es → new ≡ es ++ e ∷ [] → IsPrefix (commits es) (commits new)
more start es new e law h = subst (λ (l : List Entry). IsPrefix (commits es) (commits l)) (sym h) (commits_of (es ++ e ∷ []) (e ∷ []), sym (commits-push es e (begun_first es law.well_formed)))

abbrev line : State → List Entry
line s = s.timeline

pub step_grows : (s t : State) (seat : ℕ) (a : Stepped) → IsLawful s.start s.timeline → Step s seat a t → IsPrefix (commits s.timeline) (commits t.timeline)
step_grows s t seat Idle law h = kept _ _ (ap line h.1)
step_grows s t seat (Took n) law (c, op, moves, free, same) = kept _ _ (ap line same)
step_grows s t seat (Busy n d) law (c, op, moves, held, same) = kept _ _ (ap line same)
step_grows s t seat (LetGo n) law (c, op, moves, same) = kept _ _ (ap line same)
step_grows s t seat (Helped d) law (c, op, m, moves, walking, chosen, q, is, same) = more _ _ _ (Commit d) law (ap line same)
step_grows s t seat Committed law (c, op, m, moves, walking, none, same) = more _ _ _ (Commit c) law (ap line same)
step_grows s t seat CarriedOut law (c, op, m, i, moves, placed, same) = kept _ _ (ap line same)
step_grows s t seat (Returned r) law (c, op, moves, finished, same) = more _ _ _ (Return c r) law (ap line same)

reserve_grows : (s t : State) (seat : ℕ) (call : Call) (c : ℕ) (shape : Option Shape) → IsLawful s.start s.timeline → Reserves s seat call c shape t → IsPrefix (commits s.timeline) (commits t.timeline)
reserve_grows s t seat call c None law same = more _ _ _ (Begin c seat call) law (ap line same)
reserve_grows s t seat call c (Some shape) law (n, less, free, same) = more _ _ _ (Begin c seat call) law (ap line same)

pub begin_grows : (s t : State) (seat : ℕ) (call : Call) (r : Result ℕ Refusal) → IsLawful s.start s.timeline → Begins s seat call r t → IsPrefix (commits s.timeline) (commits t.timeline)
begin_grows s t seat call (Ok c) law (free, number, made) = reserve_grows s t seat call c (reserved_by call) law made
begin_grows s t seat call (Err OutOfMemory) law (free, full, same) = kept _ _ (ap line same)
begin_grows s t seat call (Err Full) law (free, full, same) = kept _ _ (ap line same)
begin_grows s t seat call (Err SeatBusy) law (c, on, same) = kept _ _ (ap line same)

-- beginnings of a beginning
pub beginnings_grow : (old new : List Call) (lists : Lists) → IsPrefix old new → AreBeginnings old lists → AreBeginnings new lists
beginnings_grow old new lists p h = record {
  published = prefix_trans lists.published old new h.published p;
  taken = prefix_trans lists.taken old new h.taken p;
  entered = prefix_trans lists.entered old new h.entered p;
  one_more = h.one_more;
}

-- what waits for memory is the next commit
pub next_fits : (commits : List Call) (lists : Lists) (call : Call) → AreBeginnings commits lists → slice_get commits (length lists.taken) ≡ Some call → IsPrefix lists.entered (lists.taken ++ call ∷ [])
next_fits commits lists call h at =
    prefix_shorter lists.entered (lists.taken ++ call ∷ []) commits h.entered (prefix_more lists.taken commits call h.taken at)
    (omega (arith, h.one_more, length-append lists.taken (call ∷ [])))

-- with the next commit
taken_more : (commits : List Call) (old new : Lists) (call : Call) → AreBeginnings commits old → slice_get commits (length old.taken) ≡ Some call → new.published ≡ old.published → new.taken ≡ old.taken ++ call ∷ [] → new.entered ≡ new.taken → AreBeginnings commits new
taken_more commits old new call h at same taken entered =
    let there : IsPrefix new.taken commits = subst (λ (l : List Call). IsPrefix l commits) (sym taken) (prefix_more old.taken commits call h.taken at) in record {
      published = subst (λ (l : List Call). IsPrefix l commits) (sym same) h.published;
      taken = there;
      entered = subst (λ (l : List Call). IsPrefix l commits) (sym entered) there;
      one_more = omega (arith, ap length entered);
    }

-- without it, though it may stand in the history
taken_none : (commits : List Call) (old new : Lists) (call : Call) → AreBeginnings commits old → slice_get commits (length old.taken) ≡ Some call → new.published ≡ old.published → new.taken ≡ old.taken → IsPrefix new.entered (old.taken ++ call ∷ []) → AreBeginnings commits new
taken_none commits old new call h at same taken entered = record {
  published = subst (λ (l : List Call). IsPrefix l commits) (sym same) h.published;
  taken = subst (λ (l : List Call). IsPrefix l commits) (sym taken) h.taken;
  entered = prefix_trans new.entered (old.taken ++ call ∷ []) commits entered (prefix_more old.taken commits call h.taken at);
  one_more = omega (arith, ap length taken, length-append old.taken (call ∷ []), prefix_length new.entered (old.taken ++ call ∷ []) entered);
}

pub taken_in : {A E : Type 0} (commits : List Call) (old new : Lists) (call : Call) (r : Result A E) → AreBeginnings commits old → slice_get commits (length old.taken) ≡ Some call → new.published ≡ old.published
    → OnOk r ((new.taken ≡ old.taken ++ call ∷ []) × (new.entered ≡ new.taken)) → OnErr r (new.taken ≡ old.taken) → OnErr r (IsPrefix new.entered (old.taken ++ call ∷ [])) → AreBeginnings commits new
taken_in commits old new call (Ok x) h at same ok err entered = taken_more commits old new call h at same ok.0 ok.1
taken_in commits old new call (Err e) h at same ok err entered = taken_none commits old new call h at same err entered

-- after a publishing
pub published_all : (commits : List Call) (old new : Lists) → AreBeginnings commits old → new.published ≡ old.taken → new.taken ≡ old.taken → new.entered ≡ old.entered → AreBeginnings commits new
published_all commits old new h published taken entered = record {
  published = subst (λ (l : List Call). IsPrefix l commits) (sym published) h.taken;
  taken = subst (λ (l : List Call). IsPrefix l commits) (sym taken) h.taken;
  entered = subst (λ (l : List Call). IsPrefix l commits) (sym entered) h.entered;
  one_more = omega (arith, ap length taken, ap length entered, h.one_more);
}

pub none_taken : (start : Start) (lists : Lists) → lists ≡ record { start = start; published = []; taken = []; entered = [] } → AreBeginnings [] lists
none_taken start lists h = subst (λ (l : Lists). AreBeginnings [] l) (sym h) (record { published = prefix_self []; taken = prefix_self []; entered = prefix_self []; one_more = omega arith })
