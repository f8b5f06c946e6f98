-- Faults of histories.
use Rattle.std.proofs.Common.{◌≡◌, ℕ, suc, ◌+◌, ◌-◌, Bool, true, false, not, List, [], ◌∷◌, ◌++◌, take, map, length, Option, Some, None, refl, sym, subst, ap, ◌∙◌, arith, ◌⊎◌, inl, inr, ⊎_elim}
use Rattle.fs_names.specs.Failures.{or_else, check, first_failure}
use Rattle.fs_timeline.specs.Timeline.{has_begun, has_returned, is_busy, IsNext, Each, IsWellFormed}
use Rattle.fs_timeline.specs.declared.entry.Entry.{Entry}
use Rattle.fs_timeline.specs.declared.entry.Entry.TheVariants as entry
use Rattle.fs_linearizable.specs.Linearizable.{history}
use Rattle.fs_linearizable.proofs.LawfulLemmas.{history-append, has_returned-history, has_begun-history, is_busy-history}
use Rattle.fs_linearize_histories.specs.declared.heard.Heard.{Heard}
use Rattle.fs_linearize_histories.specs.declared.heard.Heard.TheVariants.{Begin, Return}
use Rattle.fs_linearize_histories.specs.declared.heard.Pattern.{Pattern}
use Rattle.fs_linearize_histories.specs.Heard.{IsHeardAs, AreHeardIn, entry_of}
use Rattle.fs_timeline.proofs.AppendLemmas.{begun_first}
use Rattle.fs_timeline.proofs.TimelineLemmas.{append_nil, well_formed_appended}
use Rattle.fs_linearize_histories.specs.Histories.{IsNextHeard, AreNextHeard}
use Rattle.fs_linearize_histories.specs.Faults.{heard_fault, fault_at, fault_from}
use Rattle.fs_linearize_histories.specs.Laws.{ExplainedAreHistories, IsFirstFault, FaultsAreFirst}
use Rattle.fs_linearize_histories.specs.declared.fault.HistoryFault.{HistoryFault}
use Rattle.fs_linearize_histories.proofs.HistoryLemmas.{blank, blanks, has_returned-blank, heard_entry}
use Rattle.fs_linearize_histories.proofs.PathLemmas.{has_begun-blank, is_busy-blank}
use Rattle.fs_calls.specs.declared.call.Call.{Call}
use Rattle.fs_calls.specs.declared.reply.Reply.{Reply}

-- ---- what a timeline explains

begin_heard : (before : List Entry) (b : List Entry) (c seat : ℕ) (call : Call) → b ≡ blanks (history before) → IsNext before (entry.Begin c seat call) → IsNextHeard b (Begin c seat call)
begin_heard before b c seat call is next = (
  ap (has_begun c) is ∙ has_begun-blank c (history before) ∙ has_begun-history c before ∙ next.0,
  ap (is_busy seat) is ∙ is_busy-blank seat (history before) ∙ is_busy-history seat before ∙ next.1,
)

return_heard : (before : List Entry) (b : List Entry) (c : ℕ) (p : Pattern) (r : Reply) → IsWellFormed before → b ≡ blanks (history before) → IsNext before (entry.Return c r) → IsNextHeard b (Return c p)
return_heard before b c p r well is next = (
  ap (has_begun c) is ∙ has_begun-blank c (history before) ∙ has_begun-history c before ∙ begun_first before well c next.0,
  ap (has_returned c) is ∙ has_returned-blank c (history before) ∙ has_returned-history c before ∙ next.1,
)

blanks_more : (before b : List Entry) (e : Entry) (x : Heard) → b ≡ blanks (history before) → IsHeardAs e x → history (e ∷ []) ≡ e ∷ [] → b ++ entry_of x ∷ [] ≡ blanks (history (before ++ e ∷ []))
blanks_more before b e x is like one =
    ap (λ ys. ys ++ entry_of x ∷ []) is ∙ ap (λ y. blanks (history before) ++ y ∷ []) (heard_entry e x like)
    ∙ sym (ap blanks (history-append before (e ∷ []) ∙ ap (λ ys. history before ++ ys) one) ∙ map_append blank (history before) (e ∷ []))
  where
    map_append : (f : Entry → Entry) (xs ys : List Entry) → map f (xs ++ ys) ≡ map f xs ++ map f ys
    map_append f [] ys = refl
    map_append f (y ∷ xs) ys = ap (λ zs. f y ∷ zs) (map_append f xs ys)

heard_along : (before es b : List Entry) (h : List Heard) → IsWellFormed before → Each IsNext before es → b ≡ blanks (history before) → AreHeardIn (history es) h → length (history es) ≡ length h → AreNextHeard b h
heard_along before [] b [] well k is like whole = tt
heard_along before [] b (x ∷ h) well k is like whole = absurd (cc)
heard_along before (entry.Begin c seat call ∷ es) b [] well k is like whole = absurd like
heard_along before (entry.Begin c seat call ∷ es) b (x ∷ h) well k is like whole = (
  subst (IsNextHeard b) (sym like.0) (begin_heard before b c seat call is k.0),
  heard_along (before ++ entry.Begin c seat call ∷ []) es (b ++ entry_of x ∷ []) h ((well_formed_appended before (entry.Begin c seat call)).1 (well, k.0)) k.1
      (blanks_more before b (entry.Begin c seat call) x is like.0 refl) like.1 (omega (arith, whole)),
)
heard_along before (entry.Commit c ∷ es) b h well k is like whole =
    heard_along (before ++ entry.Commit c ∷ []) es b h ((well_formed_appended before (entry.Commit c)).1 (well, k.0)) k.1
    (is ∙ ap blanks (sym (history-append before (entry.Commit c ∷ []) ∙ append_nil (history before)))) like whole
heard_along before (entry.Return c r ∷ es) b [] well k is like whole = absurd like
heard_along before (entry.Return c r ∷ es) b (x ∷ h) well k is like whole = (
  subst (IsNextHeard b) (sym like.0.1) (return_heard before b c like.0.0 r well is k.0),
  heard_along (before ++ entry.Return c r ∷ []) es (b ++ entry_of x ∷ []) h ((well_formed_appended before (entry.Return c r)).1 (well, k.0)) k.1
      (blanks_more before b (entry.Return c r) x is like.0 refl) like.1 (omega (arith, whole)),
)

pub explained_are_histories : ExplainedAreHistories
explained_are_histories start h es x = heard_along [] es [] h tt x.lawful.well_formed refl x.heard_as x.whole

-- ---- the first fault

two_none : {F : Type 0} (a b : Bool) (f g : F) → first_failure (check a f ∷ check b g ∷ []) ≡ None → (a ≡ false) × (b ≡ false)
two_none true b f g h = absurd (cc)
two_none false true f g h = absurd (cc)
two_none false false f g h = (refl, refl)

not_false : (a : Bool) → not a ≡ false → a ≡ true
not_false true h = refl
not_false false h = absurd (cc)

next_from_none : (before : List Entry) (e : Heard) → heard_fault before e ≡ None → IsNextHeard before e
next_from_none before (Begin c seat call) h = two_none _ _ _ _ h
next_from_none before (Return c r) h = let parts = two_none _ _ _ _ h in (not_false _ parts.0, parts.1)

none_from_next : (before : List Entry) (e : Heard) → IsNextHeard before e → heard_fault before e ≡ None
none_from_next before (Begin c seat call) h = rw (h.0, h.1) refl
none_from_next before (Return c r) h = rw (h.0, h.1) refl

nothing_at : (place : ℕ) (found : Option HistoryFault) (later : Option (ℕ × HistoryFault)) → or_else (fault_at place found) later ≡ None → (found ≡ None) × (later ≡ None)
nothing_at place None later h = (refl, h)
nothing_at place (Some kind) later h = absurd (cc)

each_heard : (before : List Entry) (place : ℕ) (es : List Heard) → fault_from before place es ≡ None → AreNextHeard before es
each_heard before place [] h = tt
each_heard before place (e ∷ es) h =
    let parts = nothing_at place (heard_fault before e) (fault_from (before ++ entry_of e ∷ []) (place + 1) es) h in
    (next_from_none before e parts.0, each_heard (before ++ entry_of e ∷ []) (place + 1) es parts.1)

no_fault : (before : List Entry) (place : ℕ) (es : List Heard) → AreNextHeard before es → fault_from before place es ≡ None
no_fault before place [] h = refl
no_fault before place (e ∷ es) h =
    let fine = none_from_next before e h.0 in
    rw fine (no_fault (before ++ entry_of e ∷ []) (place + 1) es h.1)

-- what a fault at the n-th of the entries says of those up to it
record StopsAt (before : List Entry) (es : List Heard) (n : ℕ) : Type 0 where
  before_it : AreNextHeard before (take n es)
  with_it : AreNextHeard before (take (suc n) es) → ⊥

found_at : (place : ℕ) (found : Option HistoryFault) (later : Option (ℕ × HistoryFault)) (at : ℕ) (kind : HistoryFault) → or_else (fault_at place found) later ≡ Some (at, kind)
    → ((found ≡ Some kind) × (at ≡ place)) ⊎ ((found ≡ None) × (later ≡ Some (at, kind)))
found_at place None later at kind h = inr (refl, h)
found_at place (Some k) later at kind h =
    let same = some_is (place, k) (at, kind) h in
    inl (ap (λ (p : ℕ × HistoryFault). Some p.1) same, ap (λ (p : ℕ × HistoryFault). p.0) (sym same))
  where
    some_is : (p q : ℕ × HistoryFault) → Some p ≡ Some q → p ≡ q
    some_is p q is = cc

stops_at : (before : List Entry) (place : ℕ) (es : List Heard) (at : ℕ) (kind : HistoryFault) → fault_from before place es ≡ Some (at, kind)
    → (n : ℕ) × (at ≡ place + n) × StopsAt before es n
stops_at before place [] at kind h = absurd (cc)
stops_at before place (e ∷ es) at kind h =
    ⊎_elim
    (λ here. (0, omega (arith, here.1), record { before_it = tt; with_it = λ all. let none = none_from_next before e all.0 in let some = here.0 in absurd (cc) }))
    (λ later.
    let more = stops_at (before ++ entry_of e ∷ []) (place + 1) es at kind later.1 in
    (suc more.0, omega (arith, more.1), record { before_it = (next_from_none before e later.0, more.2.before_it); with_it = λ all. more.2.with_it all.1 }))
    (found_at place (heard_fault before e) (fault_from (before ++ entry_of e ∷ []) (place + 1) es) at kind h)

first_fault : (h : List Heard) (n : ℕ) → StopsAt [] h n → IsFirstFault h (suc n)
first_fault h n s = record {
  before = let one_less : suc n - 1 ≡ n = omega arith in rw one_less s.before_it;
  with_it = s.with_it;
}

pub faults_are_first : FaultsAreFirst
faults_are_first = record {
  none = λ h. (λ k. each_heard [] 1 h k, λ k. no_fault [] 1 h k);
  first = λ h place kind is.
      let found = stops_at [] 1 h place kind is in
      let at : suc found.0 ≡ place = omega (arith, found.1) in
      subst (IsFirstFault h) at (first_fault h found.0 found.2);
}
