-- Rows of drawn runs, one run more, and in another order.
use Rattle.std.proofs.Common.{ℕ, suc, ◌≡◌, ◌+◌, List, [], ◌∷◌, ◌++◌, length, IsPermutation, refl, sym, ap, ◌∙◌, subst, arith, length-append}
use Rattle.std.specs.List.{AllByRecursion, sum_by}
use Rattle.std.proofs.lemmas.List.Elements.{All-contains, All-from_recursion, recursion_from_All}
use Rattle.std.proofs.lemmas.List.Sorted.{All-permutation, list_any-IsPermutation, sum_by-IsPermutation}
use Rattle.std.proofs.lemmas.Map.Keys.{IsDistinct-IsPermutation}
use Rattle.fs_script.specs.declared.script.Script.{Script}
use Rattle.fs_sched.specs.declared.policy.Campaign.{Campaign}
use Rattle.fs_sched_outcomes.specs.Ends.{EndValue}
use Rattle.fs_sched_outcomes.specs.Outcomes.{EndsOn, IsOfItsRun, IsTimeline, AreDrawn, AreOutcomes, AreTimelines}
use Rattle.fs_sched_outcomes.specs.Sums.{same_end, times_of, IsSum, IsAmongEnds, AddsUp, AreInOrder}
use Rattle.fs_sched_outcomes.specs.code.Adding.{with_row}
use Rattle.fs_sched_outcomes.specs.code.Mades.{single, AddsRun, HasRuns, NotesRun, NotesRuns}
use Rattle.fs_sched_seen.specs.code.Meetings.{HaveMet}
use Rattle.fs_sched_seen.specs.declared.meetings.Meetings.{Meetings}
use Rattle.fs_timeline.specs.declared.entry.Entry.{Entry}
use Rattle.fs_sched_outcomes.specs.declared.rows.Row.{Row}
use Rattle.fs_sched_outcomes.proofs.AddLemmas.{adds_none, adds_more, same_flip, total_more}

-- ---- one run more

drawn_more : (drawn : Campaign) (script : Script) (n : ℕ) (singles : List Row) (m : ℕ) (end : EndValue) → m ≡ n + length singles → AreDrawn drawn script n singles → EndsOn drawn script m end → AreDrawn drawn script n (singles ++ single m end ∷ [])
drawn_more drawn script n [] m end is all ends = (refl, (let z : m ≡ n + 0 = is in omega (arith, z)), ends, tt)
drawn_more drawn script n (row ∷ rows) m end is all ends =
    let z : m ≡ n + suc (length rows) = is in
    (all.0, all.1, all.2, drawn_more drawn script (n + 1) rows m end (omega (arith, z)) all.3 ends)

pub runs_none : (drawn : Campaign) (script : Script) (n : ℕ) → HasRuns drawn script n 0 []
runs_none drawn script n = record { singles = []; are_drawn = tt; count = refl; adds_up = adds_none; total = refl }

pub runs_more : (drawn : Campaign) (script : Script) (n runs : ℕ) (old new : List Row) → HasRuns drawn script n runs old → AddsRun drawn script (n + runs) old new → HasRuns drawn script n (runs + 1) new
runs_more drawn script n runs old new has (end, ends, is) =
    let g = single (n + runs) end in
    let len : length (has.singles ++ g ∷ []) ≡ length has.singles + 1 = length-append has.singles (g ∷ []) in
    let count = has.count in
    let sum : sum_by times_of (with_row old g) ≡ sum_by times_of old + 1 = total_more old g in
    let total = has.total in
    record {
      singles = has.singles ++ g ∷ [];
      are_drawn = drawn_more drawn script n has.singles (n + runs) end (omega (arith, count)) has.are_drawn ends;
      count = omega (arith, len, count);
      adds_up = subst (λ rows. AddsUp (has.singles ++ g ∷ []) rows) (sym is) (adds_more has.singles old g has.adds_up);
      total = ap (λ rows. sum_by times_of rows) is ∙ (omega (arith, sum, total));
    }

-- ---- in another order

each_order : (P : Row → Type 0) (rows others : List Row) → IsPermutation rows others → AllByRecursion P rows → AllByRecursion P others
each_order P rows others moved all = recursion_from_All P others (All-permutation P rows others moved (All-from_recursion P rows all))

every_order : (rows others given : List Row) → IsPermutation rows others → AllByRecursion (IsAmongEnds rows) given → AllByRecursion (IsAmongEnds others) given
every_order rows others [] moved all = tt
every_order rows others (g ∷ given) moved all = (sym (list_any-IsPermutation (same_end g) rows others moved) ∙ all.0, every_order rows others given moved all.1)

pub sums_order : (given rows others : List Row) → IsPermutation rows others → AddsUp given rows → AddsUp given others
sums_order given rows others moved a = record {
  each = each_order (IsSum given) rows others moved a.each;
  every = every_order rows others given moved a.every;
  once = IsDistinct-IsPermutation same_end same_flip rows others moved a.once;
  total = sum_by-IsPermutation times_of rows others moved ∙ a.total;
}

-- ---- of what runs they are

drawn_each : (drawn : Campaign) (script : Script) (n : ℕ) (singles : List Row) → AreDrawn drawn script n singles → AllByRecursion (IsOfItsRun drawn script) singles
drawn_each drawn script n [] all = tt
drawn_each drawn script n (row ∷ rows) all = (all.2, drawn_each drawn script (n + 1) rows all.3)

of_sum : (drawn : Campaign) (script : Script) (singles : List Row) (row : Row) → AllByRecursion (IsOfItsRun drawn script) singles → IsSum singles row → IsOfItsRun drawn script row
of_sum drawn script singles row all s =
    let one : IsOfItsRun drawn script s.one = All-contains (IsOfItsRun drawn script) singles s.one (All-from_recursion (IsOfItsRun drawn script) singles all) s.among in
    subst (λ n. EndsOn drawn script n row.end) (sym s.seed) (subst (λ e. EndsOn drawn script s.one.seed e) (sym s.end) one)

of_sums : (drawn : Campaign) (script : Script) (singles rows : List Row) → AllByRecursion (IsOfItsRun drawn script) singles → AllByRecursion (IsSum singles) rows → AllByRecursion (IsOfItsRun drawn script) rows
of_sums drawn script singles [] all each = tt
of_sums drawn script singles (row ∷ rows) all each = (of_sum drawn script singles row all each.0, of_sums drawn script singles rows all each.1)

pub outcomes_made : (drawn : Campaign) (script : Script) (n runs : ℕ) (rows ordered : List Row) → HasRuns drawn script n runs rows → IsPermutation rows ordered → AreInOrder ordered → AreOutcomes drawn script n runs ordered
outcomes_made drawn script n runs rows ordered has moved order =
    let sums = sums_order has.singles rows ordered moved has.adds_up in
    record {
      singles = has.singles;
      are_drawn = has.are_drawn;
      count = has.count;
      adds_up = sums;
      of_runs = of_sums drawn script has.singles ordered (drawn_each drawn script n has.singles has.are_drawn) sums.each;
      total = sum_by-IsPermutation times_of rows ordered moved ∙ has.total;
      order = order;
    }

-- ---- their timelines

timelines_more : (drawn : Campaign) (script : Script) (n : ℕ) (timelines : List (List Entry)) (m : ℕ) (es : List Entry) → m ≡ n + length timelines → AreTimelines drawn script n timelines → IsTimeline drawn script m es → AreTimelines drawn script n (timelines ++ es ∷ [])
timelines_more drawn script n [] m es is all one =
    let at : m ≡ n = (let z : m ≡ n + 0 = is in omega (arith, z)) in
    (subst (λ k. IsTimeline drawn script k es) at one, tt)
timelines_more drawn script n (first ∷ timelines) m es is all one =
    let z : m ≡ n + suc (length timelines) = is in
    (all.0, timelines_more drawn script (n + 1) timelines m es (omega (arith, z)) all.1 one)

pub notes_none : (drawn : Campaign) (script : Script) (n : ℕ) (met : Meetings) → HaveMet met [] → NotesRuns drawn script n 0 met
notes_none drawn script n met none = ([], tt, refl, none)

pub notes_more : (drawn : Campaign) (script : Script) (n runs : ℕ) (old new : Meetings) → NotesRuns drawn script n runs old → ((timelines : List (List Entry)) → HaveMet old timelines → NotesRun drawn script (n + runs) timelines new) → NotesRuns drawn script n (runs + 1) new
notes_more drawn script n runs old new (timelines, are, count, have) notes =
    let (es, is, met) = notes timelines have in
    let len : length (timelines ++ es ∷ []) ≡ length timelines + 1 = length-append timelines (es ∷ []) in
    (timelines ++ es ∷ [], timelines_more drawn script n timelines (n + runs) es (omega (arith, count)) are is, omega (arith, len, count), met)
