-- Where calls begin: each begins once, so its Begin says which call it is.
use Rattle.std.proofs.Common.{◌≡◌, ◌<◌, length, get_or, ℕ, zero, suc, Bool, true, false, cond, ◌==◌, List, [], ◌∷◌, ◌++◌, Option, Some, None, slice_get, refl, sym, ap, ◌∙◌, append_assoc}
use Rattle.std.specs.Prelude.{IfSome, option_copied}
use Rattle.std.specs.Borrow.{Bor}
use Rattle.std.proofs.lemmas.Bool.{eqb-true}
use Rattle.std.proofs.lemmas.Option.{slice_get-get_or}
use Rattle.fs_names.specs.Failures.{or_else}
use Rattle.fs_names.proofs.FailureLemmas.{or_else-assoc}
use Rattle.fs_calls.specs.declared.call.Call.{Call}
use Rattle.fs_timeline.specs.Timeline.{has_begun, begun_as, call_of, IsNext, Each, IsWellFormed}
use Rattle.fs_timeline.specs.declared.entry.Entry.{Entry}
use Rattle.fs_timeline.specs.declared.entry.Entry.TheVariants.{Begin, Commit, Return}
use Rattle.fs_timeline.proofs.AppendLemmas.{is_some-call_of}
use Rattle.fs_linearize_histories.specs.declared.heard.Heard.{Heard}
use Rattle.fs_linearize_histories.specs.declared.heard.Heard.TheVariants as heard
use Rattle.fs_linearize_histories.specs.Heard.{entry_of, entries}
use Rattle.fs_linearize_histories.specs.Histories.{IsHistory, IsNextHeard, AreNextHeard}
use Rattle.fs_linearize_histories.proofs.HistoryLemmas.{none_from}

pub call_append : (c : ℕ) (xs ys : List Entry) → call_of c (xs ++ ys) ≡ or_else (call_of c xs) (call_of c ys)
call_append c [] ys = refl
call_append c (e ∷ xs) ys = ap (or_else (begun_as c e)) (call_append c xs ys) ∙ or_else-assoc (begun_as c e) (call_of c xs) (call_of c ys)

-- what an entry begins had not begun
abbrev IsFresh : List Entry → Entry → Type 0
IsFresh before e = (c : ℕ) (call : Call) → begun_as c e ≡ Some call → call_of c before ≡ None

begin_fresh : (before : List Entry) (d seat : ℕ) (k : Call) → has_begun d before ≡ false → IsFresh before (Begin d seat k)
begin_fresh before d seat k none c call is = by (c == d) refl is
  where
    by : (b : Bool) → (c == d) ≡ b → cond {A = Option Call} b (Some k) None ≡ Some call → call_of c before ≡ None
    by true same e = none_from (call_of c before) (is_some-call_of c before ∙ ap (λ n. has_begun n before) (eqb-true c d same) ∙ none)
    by false apart e = absurd (cc)

next_fresh : (before : List Entry) (e : Entry) → IsNext before e → IsFresh before e
next_fresh before (Begin d seat k) next = begin_fresh before d seat k next.0
next_fresh before (Commit d) next = λ c call e. absurd (cc)
next_fresh before (Return d r) next = λ c call e. absurd (cc)

heard_fresh : (before : List Entry) (x : Heard) → IsNextHeard before x → IsFresh before (entry_of x)
heard_fresh before (heard.Begin d seat k) next = begin_fresh before d seat k next.0
heard_fresh before (heard.Return d p) next = λ c call e. absurd (cc)

each_fresh : (before es : List Entry) → Each IsNext before es → Each IsFresh before es
each_fresh before [] h = tt
each_fresh before (e ∷ es) h = (next_fresh before e h.0, each_fresh (before ++ e ∷ []) es h.1)

each_heard_fresh : (before : List Entry) (h : List Heard) → AreNextHeard before h → Each IsFresh before (entries h)
each_heard_fresh before [] k = tt
each_heard_fresh before (x ∷ h) k = (heard_fresh before x k.0, each_heard_fresh (before ++ entry_of x ∷ []) h k.1)

begun_there : (before es : List Entry) (i c : ℕ) (e : Entry) (call : Call) → Each IsFresh before es → slice_get es i ≡ Some e → begun_as c e ≡ Some call → call_of c (before ++ es) ≡ Some call
begun_there before [] i c e call fresh is begun = absurd (cc)
begun_there before (f ∷ es) zero c e call fresh is begun =
    let same : f ≡ e = cc in
    let here : begun_as c f ≡ Some call = ap (begun_as c) same ∙ begun in
    call_append c before (f ∷ es) ∙ ap (λ o. or_else o (call_of c (f ∷ es))) (fresh.0 c call here) ∙ ap (λ o. or_else o (call_of c es)) here
begun_there before (f ∷ es) (suc i) c e call fresh is begun = ap (call_of c) (sym (append_assoc before (f ∷ []) es)) ∙ begun_there (before ++ f ∷ []) es i c e call fresh.1 is begun

heard_entry : (h : List Heard) (i : ℕ) (x : Heard) → slice_get h i ≡ Some x → slice_get (entries h) i ≡ Some (entry_of x)
heard_entry [] i x e = absurd (cc)
heard_entry (y ∷ h) zero x e = let same : y ≡ x = cc in ap (λ z. Some (entry_of z)) same
heard_entry (y ∷ h) (suc i) x e = heard_entry h i x e

-- the call that an entry of a history begins under a number
pub heard_begins : (h : List Heard) (i c : ℕ) (x : Heard) (o : Option Call) → IsHistory h → slice_get h i ≡ Some x → o ≡ begun_as c (entry_of x) → (call : Call) → o ≡ Some call → call_of c (entries h) ≡ Some call
heard_begins h i c x o history is begun call some = begun_there [] (entries h) i c (entry_of x) call (each_heard_fresh [] h history) (heard_entry h i x is) (sym begun ∙ some)

-- and one of a timeline
pub entry_begins : (es : List Entry) (i c : ℕ) (e : Entry) (o : Option Call) → IsWellFormed es → slice_get es i ≡ Some e → o ≡ begun_as c e → (call : Call) → o ≡ Some call → call_of c es ≡ Some call
entry_begins es i c e o well is begun call some = begun_there [] es i c e call (each_fresh [] es well) is (sym begun ∙ some)

pub item_there : {X : Type 0} (xs : List X) (i : ℕ) (x : X) → i < length xs → x ≡ get_or xs i x → slice_get xs i ≡ Some x
item_there xs i x small is = slice_get-get_or xs i x small ∙ ap Some (sym is)

-- what is found of a call is the call, if there is one
pub if_begun : (es : List Entry) (c : ℕ) (o : Option (Bor Call)) → ((call : Call) → option_copied o ≡ Some call → call_of c es ≡ Some call) → IfSome o (λ call. call_of c es ≡ Some call.now)
if_begun es c None h = tt
if_begun es c (Some call) h = h call.now refl
