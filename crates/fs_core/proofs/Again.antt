-- A core at rest begins its timeline again.
use Rattle.std.proofs.Common.{◌≡◌, ℕ, suc, ◌+◌, true, false, ◌==◌, List, [], ◌∷◌, ◌++◌, length, take, slice_get, Option, Some, None, refl, sym, ap, ◌∙◌, subst, arith}
use Rattle.std.proofs.Math.Dec.{eqb-suc-zero}
use Rattle.std.proofs.lemmas.List.{take_more}
use Rattle.std.proofs.lemmas.Option.{slice_get_within, get_or_from_slice_get}
use mathlib.Core.Path.{fun_ext}
use Rattle.fs_names.specs.Limits.{in_blocks}
use Rattle.fs_calls.specs.Starts.{Start}
use Rattle.fs_calls.specs.Outcomes.{called, next_start}
use Rattle.fs_calls.specs.declared.call.Call.{Call}
use Rattle.fs_timeline.specs.Timeline.{commits}
use Rattle.fs_timeline.specs.declared.entry.Entry.{Entry}
use Rattle.fs_timeline.proofs.AppendLemmas.{next_start-push}
use Rattle.fs_locks.specs.Holding.{holder}
use Rattle.fs_machine.specs.Records.{Record}
use Rattle.fs_machine.specs.States.{Run, begun_again}
use Rattle.fs_laws.specs.Agreement.{IsHeldBy}
use Rattle.fs_laws.proofs.Again.{timelines_begin_again}
use Rattle.fs_laws.proofs.Agreement.{parts_agree}
use Rattle.fs_core_seats.specs.declared.seat.Running.{Running}
use Rattle.fs_core.specs.CoreValues.{CoreValue, state_of, IsAtRest}
use Rattle.fs_core_seats.specs.Seats.{number_on}
use Rattle.fs_core.specs.code.Rooms.{IsKept}
use Rattle.fs_core_seats.specs.code.Owed.{walking, owed}
use Rattle.fs_core.proofs.Resting.{idle_at_rest}
use Rattle.fs_core.proofs.States.{same_state}

none_walk : (seats : List (Option Running)) → ((seat : ℕ) → number_on seats seat ≡ None) → walking seats ≡ 0
none_walk [] rest = refl
none_walk (None ∷ seats) rest = let a : walking seats ≡ 0 = none_walk seats (λ seat. rest (suc seat)) in omega (arith, a)
none_walk (Some running ∷ seats) rest = let z : ◌≡◌ {A = Option ℕ} (Some running.call) None = rest 0 in cc

none_owed : (seats : List (Option Running)) → ((seat : ℕ) → number_on seats seat ≡ None) → owed seats ≡ 0
none_owed [] rest = refl
none_owed (None ∷ seats) rest = let a : owed seats ≡ 0 = none_owed seats (λ seat. rest (suc seat)) in omega (arith, a)
none_owed (Some running ∷ seats) rest = let z : ◌≡◌ {A = Option ℕ} (Some running.call) None = rest 0 in cc

nobody_holds : (m : CoreValue) → Run (state_of m) → IsAtRest m → (n : ℕ) → holder m.holding n ≡ None
nobody_holds m run rest n = go (holder m.holding n) refl
  where
    go : (o : Option ℕ) → holder m.holding n ≡ o → o ≡ None
    go None e = refl
    go (Some c) e =
        let by : IsHeldBy (state_of m) n c = (parts_agree (state_of m) run).holder_holds n c e in
        let z : ◌≡◌ {A = Option Record} None (Some by.0) = sym (idle_at_rest m rest c) ∙ by.2 in cc

-- what the core is then
abbrev pub again : CoreValue → Start → CoreValue
again m start = record m { start = start; timeline = [] }

pub again_is : (m : CoreValue) (start : Start) → Run (state_of m) → IsAtRest m → start ≡ next_start m.start (commits m.timeline) → state_of (again m start) ≡ begun_again (state_of m)
again_is m start run rest is =
    ap (λ (s : Start). state_of (again m s)) is
    ∙ same_state _ _ _ _ _ _ _ _ _ _ _ _ refl refl (fun_ext (nobody_holds m run rest)) (fun_ext (idle_at_rest m rest)) (fun_ext rest)

-- the same of a core that is kept
pub again_by : (m : CoreValue) (b k p : ℕ) (start : Start) → IsKept m b k p → IsAtRest m → start ≡ next_start m.start (commits m.timeline) → state_of (again m start) ≡ begun_again (state_of m)
again_by m b k p start kept rest is = again_is m start kept.run rest is

pub again_kept : (m : CoreValue) (b k p places : ℕ) (start : Start) → IsKept m b k p → IsAtRest m → start ≡ next_start m.start (commits m.timeline) → IsKept (again m start) 0 0 places
again_kept m b k p places start kept rest is = record {
  run = subst Run (sym (again_is m start kept.run rest is)) (timelines_begin_again (state_of m) kept.run (idle_at_rest m rest));
  limited = kept.limited;
  form = kept.form ∙ ap in_blocks (sym same);
  limits = λ seat r on. kept.limits seat r on ∙ sym same;
  roomy = kept.roomy;
  begun_is = refl;
  few = omega arith;
  commits_is = refl;
  within = let a : walking m.seats ≡ 0 = none_walk m.seats rest in omega (arith, a);
  owed_is = let a : owed m.seats ≡ 0 = none_owed m.seats rest in omega (arith, a);
}
  where
    same : start.limits ≡ m.start.limits
    same = ap (λ (s : Start). s.limits) is

-- the start that one commit more plays
pub played_next : (start : Start) (calls : List Call) (i : ℕ) (call : Call) (tree new : Start) → slice_get calls i ≡ Some call → tree ≡ next_start start (take i calls) → new ≡ called tree call → new ≡ next_start start (take (i + 1) calls)
played_next start calls i call tree new at was is =
    let more : take (i + 1) calls ≡ take i calls ++ call ∷ [] = take_more calls i call (slice_get_within calls i call at) ∙ ap (λ (x : Call). take i calls ++ x ∷ []) (get_or_from_slice_get calls i call call at) in
    is ∙ ap (λ (t : Start). called t call) was ∙ sym (next_start-push start (take i calls) call) ∙ ap (next_start start) (sym more)

pub no_entries : (es : List Entry) → true ≡ (length es == 0) → es ≡ []
no_entries [] e = refl
no_entries (x ∷ es) e = let z : true ≡ false = e ∙ eqb-suc-zero (length es) in cc

-- where there are no entries, a core at rest is it already
pub again_empty : (m : CoreValue) → Run (state_of m) → IsAtRest m → m.timeline ≡ [] → state_of m ≡ begun_again (state_of m)
again_empty m run rest empty =
    ap (λ (es : List Entry). state_of (record m { timeline = es })) empty
    ∙ again_is m m.start run rest (ap (λ (es : List Entry). next_start m.start (commits es)) (sym empty))
