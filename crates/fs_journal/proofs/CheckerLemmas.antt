-- What the checker knows once a call has begun, has committed or has returned.
use Rattle.std.proofs.Common.{◌≡◌, ℕ, Bool, true, false, if◌then◌else◌, List, [], ◌∷◌, Option, Some, None, is_some, IsSome, IfSome, refl, sym, ap, subst, ◌∙◌, ◌==◌, arith}
use mathlib.Core.Path.{fun_ext}
use Rattle.std.specs.Ordering.{is_eq, nat_cmp}
use Rattle.std.specs.BTreeMap.{BTreeMap, get, Updates}
use Rattle.fs_names.specs.Failures.{check, first_failure}
use Rattle.fs_calls.specs.declared.call.Call.{Call}
use Rattle.fs_calls.specs.declared.reply.Reply.{Reply}
use Rattle.fs_journal.specs.declared.calls.Begun.{Begun}
use Rattle.fs_journal.specs.declared.calls.Calls.{Calls}
use Rattle.fs_timeline.specs.declared.entry.Entry.TheVariants.{Begin, Commit, Return}
use Rattle.fs_timeline.specs.declared.verdict.FaultKind.{FaultKind}
use Rattle.fs_timeline.specs.declared.verdict.FaultKind.TheVariants.{BeginTwice, SeatBusy}
use Rattle.fs_calls.specs.Starts.{Start}
use Rattle.fs_calls.specs.Outcomes.{reply_at, called}
use Rattle.fs_journal.specs.code.Calls.{begun_at, call_in, due_in, is_back}
use Rattle.fs_timeline.specs.JournalStates.{JournalState, taken_in, played, is_waiting, known_fault, return_fault, changed}
use Rattle.fs_journal.specs.code.Checkers.{known}

pub same_number : (c q : ℕ) → is_eq (nat_cmp c q) ≡ (c == q)
same_number c q = grind arith

-- a question about each call, once one call has another record
asked_by : {A : Type 0} (ask : Option Begun → A) (same : Bool) (o p : Option Begun) → ask (if same then o else p) ≡ (if same then ask o else ask p)
asked_by ask true o p = refl
asked_by ask false o p = refl

pub asked_changed : {A : Type 0} (ask : Option Begun → A) (f : ℕ → Option Begun) (c : ℕ) (o : Option Begun)
    → ◌≡◌ {A = ℕ → A} (λ q. ask (changed f c o q)) (changed (λ q. ask (f q)) c (ask o))
asked_changed ask f c o = fun_ext (λ q. asked_by ask (c == q) o (f q))

-- one that answers of this call as before
number : (c q : ℕ) → (c == q) ≡ true → c ≡ q
number c q h = grind arith

kept_by : {A : Type 0} (same : Bool) (a b : A) → (same ≡ true → a ≡ b) → (if same then a else b) ≡ b
kept_by true a b h = h refl
kept_by false a b h = refl

pub changed_back : {A : Type 0} (f : ℕ → A) (c : ℕ) (a : A) → a ≡ f c → changed f c a ≡ f
changed_back f c a h = fun_ext (λ q. kept_by (c == q) a (f q) (λ same. h ∙ ap f (number c q same)))

-- the map of the seats before and after
pub last_in : (before after : BTreeMap ℕ ℕ) (seat c : ℕ) → Updates nat_cmp before after seat (Some c) → ◌≡◌ {A = ℕ → Option ℕ} (λ s. get nat_cmp after s) (changed (λ s. get nat_cmp before s) seat (Some c))
last_in before after seat c h = fun_ext (λ s. h.0 s ∙ ap (λ b. if b then Some c else get nat_cmp before s) (same_number seat s))

not_begun : (o : Option Call) (others : List (Option FaultKind)) → first_failure (check (is_some o) BeginTwice ∷ others) ≡ None → o ≡ None
not_begun None others h = refl
not_begun (Some call) others h = absurd (cc)

committed : (o : Option Reply) (returned : Bool) (r : Reply) → return_fault o returned r ≡ None → IsSome o
committed None returned r h = absurd (cc)
committed (Some due) returned r h = refl

-- an entry in which nothing is wrong: a Begin of a new call, or a Return of a call that has committed
pub is_new : (k : JournalState) (c seat : ℕ) (call : Call) → known_fault k (Begin c seat call) ≡ None → k.calls c ≡ None
is_new k c seat call h = not_begun (k.calls c) (check (is_waiting k.returned (k.last seat)) SeatBusy ∷ []) h

pub has_reply : (k : JournalState) (c : ℕ) (r : Reply) → known_fault k (Return c r) ≡ None → IsSome (k.replies c)
has_reply k c r h = committed (k.replies c) (k.returned c) r h

-- what is known, by its parts
knowledge_by : (calls calls2 : ℕ → Option Call) (replies replies2 : ℕ → Option Reply) (returned returned2 : ℕ → Bool) (last last2 : ℕ → Option ℕ) (now now2 : Start)
    → calls ≡ calls2 → replies ≡ replies2 → returned ≡ returned2 → last ≡ last2 → now ≡ now2
    → ◌≡◌ {A = JournalState} (record { calls = calls; replies = replies; returned = returned; last = last; now = now }) (record { calls = calls2; replies = replies2; returned = returned2; last = last2; now = now2 })
knowledge_by calls calls2 replies replies2 returned returned2 last last2 now now2 a b c d e = rw (a, b, c, d, e) refl

asks : {A : Type 0} (ask : Option Begun → A) (old new : ℕ → Option Begun) (c : ℕ) (o : Option Begun) → new ≡ changed old c o
    → ◌≡◌ {A = ℕ → A} (λ q. ask (new q)) (changed (λ q. ask (old q)) c (ask o))
asks {A} ask old new c o h = ap (λ (f : ℕ → Option Begun). λ q. ask (f q)) h ∙ asked_changed ask old c o

keeps : {A : Type 0} (ask : Option Begun → A) (old new : ℕ → Option Begun) (c : ℕ) (o : Option Begun) → new ≡ changed old c o → ask o ≡ ask (old c)
    → ◌≡◌ {A = ℕ → A} (λ q. ask (new q)) (λ q. ask (old q))
keeps ask old new c o h same = asks ask old new c o h ∙ changed_back (λ q. ask (old q)) c (ask o) same

-- a call has begun: what is not there is due nothing, and has not returned
due_of_none : (o : Option Begun) → call_in o ≡ None → due_in o ≡ None
due_of_none None h = refl
due_of_none (Some begun) h = absurd (cc)

back_of_none : (o : Option Begun) → call_in o ≡ None → is_back o ≡ false
back_of_none None h = refl
back_of_none (Some begun) h = absurd (cc)

pub knows_begin : (old new : Calls) (last last2 : BTreeMap ℕ ℕ) (tree : Start) (c seat : ℕ) (begun : Begun) → begun.due ≡ None → begun.returned ≡ false
    → call_in (begun_at old c) ≡ None → begun_at new ≡ changed (begun_at old) c (Some begun) → Updates nat_cmp last last2 seat (Some c)
    → known (record { calls = new; last = last2; tree = tree }) ≡ taken_in (known (record { calls = old; last = last; tree = tree })) (Begin c seat begun.call.now)
knows_begin old new last last2 tree c seat begun due back none h seats =
    knowledge_by _ _ _ _ _ _ _ _ _ _ (asks call_in (begun_at old) (begun_at new) c (Some begun) h)
    (keeps due_in (begun_at old) (begun_at new) c (Some begun) h (due ∙ sym (due_of_none (begun_at old c) none)))
    (keeps is_back (begun_at old) (begun_at new) c (Some begun) h (back ∙ sym (back_of_none (begun_at old c) none)))
    (last_in last last2 seat c seats) refl

commits : (o : Option Begun) (R : Begun → Type 0) (begun : Begun) → o ≡ Some begun → IfSome o R → R begun
commits o R begun is h = subst (λ p. IfSome p R) is h

pub knows_commit : (old new : Calls) (last : BTreeMap ℕ ℕ) (tree : Start) (c : ℕ) (begun : Begun) → begun_at old c ≡ Some begun
    → IfSome (begun_at old c) (λ b. begun_at new ≡ changed (begun_at old) c (Some (record b { due = Some (reply_at tree begun.call.now) })))
    → (tree2 : Start) → tree2 ≡ called tree begun.call.now
    → known (record { calls = new; last = last; tree = tree2 }) ≡ taken_in (known (record { calls = old; last = last; tree = tree })) (Commit c)
knows_commit old new last tree c begun is has tree2 grown =
    let there = ap call_in is in
    let h = commits (begun_at old c) (λ b. begun_at new ≡ changed (begun_at old) c (Some (record b { due = Some (reply_at tree begun.call.now) }))) begun is has in
    knowledge_by _ _ _ _ _ _ _ _ _ _ (keeps call_in (begun_at old) (begun_at new) c _ h (sym there))
    (asks due_in (begun_at old) (begun_at new) c _ h)
    (keeps is_back (begun_at old) (begun_at new) c _ h (sym (ap is_back is))) refl grown
    ∙ sym (ap (λ o. played (known (record { calls = old; last = last; tree = tree })) c o) there)

has_begun : (o : Option Begun) → IsSome (due_in o) → IsSome o
has_begun None h = h
has_begun (Some begun) h = refl

pub begun_if_due : (calls : Calls) (c : ℕ) → IsSome (due_in (begun_at calls c)) → IsSome (begun_at calls c)
begun_if_due calls c h = has_begun (begun_at calls c) h

ended : (o : Option Begun) (R : Begun → Type 0) → IsSome o → IfSome o R → (begun : Begun) × (o ≡ Some begun) × R begun
ended None R h r = absurd (cc)
ended (Some begun) R h r = (begun, refl, r)

pub knows_end : (old new : Calls) (last : BTreeMap ℕ ℕ) (tree : Start) (c : ℕ) (r : Reply) → IsSome (begun_at old c)
    → IfSome (begun_at old c) (λ begun. begun_at new ≡ changed (begun_at old) c (Some (record begun { returned = true })))
    → known (record { calls = new; last = last; tree = tree }) ≡ taken_in (known (record { calls = old; last = last; tree = tree })) (Return c r)
knows_end old new last tree c r there h =
    let it = ended (begun_at old c) (λ begun. begun_at new ≡ changed (begun_at old) c (Some (record begun { returned = true }))) there h in
    knowledge_by _ _ _ _ _ _ _ _ _ _ (keeps call_in (begun_at old) (begun_at new) c _ it.2 (sym (ap call_in it.1)))
    (keeps due_in (begun_at old) (begun_at new) c _ it.2 (sym (ap due_in it.1)))
    (asks is_back (begun_at old) (begun_at new) c _ it.2) refl refl
