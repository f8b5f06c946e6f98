-- Verdicts and lawful timelines.
use Rattle.std.proofs.Common.{◌≡◌, ℕ, suc, ◌+◌, ◌-◌, Bool, true, false, not, List, [], ◌∷◌, ◌++◌, take, Option, Some, None, refl, sym, subst, ap, arith, ◌⊎◌, inl, inr, ⊎_elim}
use Rattle.fs_names.specs.Failures.{check, first_failure}
use Rattle.fs_calls.specs.Starts.{Start}
use Rattle.fs_calls.specs.declared.reply.Reply.{Reply}
use Rattle.fs_timeline.specs.Timeline.{due, IsNext, IsAnswered, Each, IsLawful}
use Rattle.fs_timeline.specs.Verdicts.{is_due, entry_fault, fault_or, verdict_from, verdict}
use Rattle.fs_timeline.specs.Laws.{LawfulIsLawful, IsFirstFault, NamesFirstFault, FaultsAreFirst}
use Rattle.fs_timeline.specs.declared.entry.Entry.{Entry}
use Rattle.fs_timeline.specs.declared.entry.Entry.TheVariants.{Begin, Commit, Return}
use Rattle.fs_timeline.specs.declared.verdict.Verdict.{Verdict}
use Rattle.fs_timeline.specs.declared.verdict.Verdict.TheVariants.{Lawful, Fault}
use Rattle.fs_timeline.specs.declared.verdict.FaultKind.{FaultKind}
use Rattle.fs_timeline.proofs.ReplyLemmas.{same_reply_exact, same_reply_refl}

-- the entry may come next, and a reply in it is the one that is due
abbrev pub Fits : Start → List Entry → Entry → Type 0
Fits start before e = IsNext before e × IsAnswered start before e

-- a first of two and of three checks that finds nothing
two_none : {F : Type 0} (a b : Bool) (f g : F) → first_failure (check a f ∷ check b g ∷ []) ≡ None → (a ≡ false) × (b ≡ false)
two_none true b f g h = absurd (cc)
two_none false true f g h = absurd (cc)
two_none false false f g h = (refl, refl)

three_none : {F : Type 0} (a b d : Bool) (f g k : F) → first_failure (check a f ∷ check b g ∷ check d k ∷ []) ≡ None → (a ≡ false) × (b ≡ false) × (d ≡ false)
three_none true b d f g k h = absurd (cc)
three_none false true d f g k h = absurd (cc)
three_none false false true f g k h = absurd (cc)
three_none false false false f g k h = (refl, refl, refl)

not_false : (a : Bool) → not a ≡ false → a ≡ true
not_false true h = refl
not_false false h = absurd (cc)

is_due_exact : (due : Option Reply) (r : Reply) → is_due due r ≡ true → due ≡ Some r
is_due_exact None r h = absurd (cc)
is_due_exact (Some d) r h = ap Some (same_reply_exact d r h)

is_due_some : (due : Option Reply) (r : Reply) → due ≡ Some r → is_due due r ≡ true
is_due_some due r h = subst (λ (d : Option Reply). is_due d r ≡ true) (sym h) (same_reply_refl r)

-- an entry in which nothing is wrong fits
pub fits_from_none : (start : Start) (before : List Entry) (e : Entry) → entry_fault start before e ≡ None → Fits start before e
fits_from_none start before (Begin c seat call) h = (two_none _ _ _ _ h, tt)
fits_from_none start before (Commit c) h =
    let parts = two_none _ _ _ _ h in
    ((not_false _ parts.0, parts.1), tt)
fits_from_none start before (Return c r) h =
    let parts = three_none _ _ _ _ _ _ h in
    ((not_false _ parts.0, parts.1), is_due_exact _ _ (not_false _ parts.2))

-- nothing is wrong with an entry that fits
pub none_from_fits : (start : Start) (before : List Entry) (e : Entry) → Fits start before e → entry_fault start before e ≡ None
none_from_fits start before (Begin c seat call) h = rw (h.0.0, h.0.1) refl
none_from_fits start before (Commit c) h = rw (h.0.0, h.0.1) refl
none_from_fits start before (Return c r) h =
    let replied = is_due_some _ _ h.1 in
    rw (h.0.0, h.0.1, replied) refl

fault_or-lawful : (place : ℕ) (found : Option FaultKind) (later : Verdict) → fault_or place found later ≡ Lawful → (found ≡ None) × (later ≡ Lawful)
fault_or-lawful place None later h = (refl, h)
fault_or-lawful place (Some kind) later h = absurd (cc)

each_fits : (start : Start) (before : List Entry) (place : ℕ) (es : List Entry) → verdict_from start before place es ≡ Lawful → Each (Fits start) before es
each_fits start before place [] h = tt
each_fits start before place (e ∷ es) h =
    let parts = fault_or-lawful place (entry_fault start before e) (verdict_from start (before ++ e ∷ []) (place + 1) es) h in
    (fits_from_none start before e parts.0, each_fits start (before ++ e ∷ []) (place + 1) es parts.1)

lawful_from_fits : (start : Start) (before : List Entry) (place : ℕ) (es : List Entry) → Each (Fits start) before es → verdict_from start before place es ≡ Lawful
lawful_from_fits start before place [] h = refl
lawful_from_fits start before place (e ∷ es) h =
    let fits = none_from_fits start before e h.0 in
    rw fits (lawful_from_fits start (before ++ e ∷ []) (place + 1) es h.1)

-- two properties of each entry, apart and together
each_first : (start : Start) (before es : List Entry) → Each (Fits start) before es → Each IsNext before es
each_first start before [] h = tt
each_first start before (e ∷ es) h = (h.0.0, each_first start (before ++ e ∷ []) es h.1)

each_second : (start : Start) (before es : List Entry) → Each (Fits start) before es → Each (IsAnswered start) before es
each_second start before [] h = tt
each_second start before (e ∷ es) h = (h.0.1, each_second start (before ++ e ∷ []) es h.1)

each_both : (start : Start) (before es : List Entry) → Each IsNext before es → Each (IsAnswered start) before es → Each (Fits start) before es
each_both start before [] h k = tt
each_both start before (e ∷ es) h k = ((h.0, k.0), each_both start (before ++ e ∷ []) es h.1 k.1)

lawful_from_each : (start : Start) (es : List Entry) → Each (Fits start) [] es → IsLawful start es
lawful_from_each start es h = record { well_formed = each_first start [] es h; replies = each_second start [] es h }

each_from_lawful : (start : Start) (es : List Entry) → IsLawful start es → Each (Fits start) [] es
each_from_lawful start es h = each_both start [] es h.well_formed h.replies

pub lawful_is_lawful : LawfulIsLawful
lawful_is_lawful start es = (λ h. lawful_from_each start es (each_fits start [] 1 es h), λ h. lawful_from_fits start [] 1 es (each_from_lawful start es h))

-- what a fault at the n-th of the entries says of those up to it
record StopsAt (start : Start) (before es : List Entry) (n : ℕ) : Type 0 where
  before_it : Each (Fits start) before (take n es)
  with_it : Each (Fits start) before (take (suc n) es) → ⊥

stops_later : (start : Start) (before es : List Entry) (e : Entry) (n : ℕ) → Fits start before e → StopsAt start (before ++ e ∷ []) es n → StopsAt start before (e ∷ es) (suc n)
stops_later start before es e n fits h = record { before_it = (fits, h.before_it); with_it = λ all. h.with_it all.1 }

fault_or-fault : (place : ℕ) (found : Option FaultKind) (later : Verdict) (at : ℕ) (kind : FaultKind) → fault_or place found later ≡ Fault at kind
    → ((found ≡ Some kind) × (at ≡ place)) ⊎ ((found ≡ None) × (later ≡ Fault at kind))
fault_or-fault place None later at kind h = inr (refl, h)
fault_or-fault place (Some k) later at kind h = inl (cc, cc)

stops_at : (start : Start) (before : List Entry) (place : ℕ) (es : List Entry) (at : ℕ) (kind : FaultKind) → verdict_from start before place es ≡ Fault at kind
    → (n : ℕ) × (at ≡ place + n) × StopsAt start before es n
stops_at start before place [] at kind h = absurd (cc)
stops_at start before place (e ∷ es) at kind h =
    ⊎_elim
    (λ here. (0, omega (arith, here.1), record { before_it = tt; with_it = λ all. let none = none_from_fits start before e all.0 in let some = here.0 in absurd (cc) }))
    (λ later.
    let more = stops_at start (before ++ e ∷ []) (place + 1) es at kind later.1 in
    (suc more.0, omega (arith, more.1), stops_later start before es e more.0 (fits_from_none start before e later.0) more.2))
    (fault_or-fault place (entry_fault start before e) (verdict_from start (before ++ e ∷ []) (place + 1) es) at kind h)

first_fault : (start : Start) (es : List Entry) (n : ℕ) → StopsAt start [] es n → IsFirstFault start es (suc n)
first_fault start es n h = record {
  before = let one_less : suc n - 1 ≡ n = omega arith in rw one_less (lawful_from_each start (take n es) h.before_it);
  with_it = λ lawful. h.with_it (each_from_lawful start (take (suc n) es) lawful);
}

-- the first fault is named, whatever verdict is the entries'
pub names_first_fault : (start : Start) (es : List Entry) (v : Verdict) → v ≡ verdict start es → NamesFirstFault start es v
names_first_fault start es Lawful h = tt
names_first_fault start es (Fault place kind) h =
    let found = stops_at start [] 1 es place kind (sym h) in
    let at : suc found.0 ≡ place = omega (arith, found.1) in
    subst (IsFirstFault start es) at (first_fault start es found.0 found.2)

pub faults_are_first : FaultsAreFirst
faults_are_first start es = names_first_fault start es (verdict start es) refl
