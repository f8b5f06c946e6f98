-- One more entry.
use Rattle.std.proofs.Common.{◌≡◌, ℕ, ◌+◌, Bool, true, false, List, [], ◌∷◌, ◌++◌, Option, Some, None, refl, sym, ap, ◌∙◌}
use Rattle.fs_laws.specs.Changes.{reply}
use Rattle.fs_calls.specs.Forms.{form}
use Rattle.fs_calls.specs.declared.call.Call.{Call}
use Rattle.fs_calls.specs.declared.reply.Reply.{Reply}
use Rattle.fs_calls.specs.Graphs.{set_at}
use Rattle.fs_timeline.specs.declared.entry.Entry.{Entry}
use Rattle.fs_timeline.specs.declared.entry.Entry.TheVariants.{Begin, Commit, Return}
use Rattle.fs_laws.specs.JournalViews.{JournalView, commit_of, IsLawful, IsNext, view_after, noted}
use Rattle.fs_timeline.specs.Timeline.{begins, commit_count}
use Rattle.fs_laws.specs.Invariants.{Dues}
use Rattle.fs_laws.proofs.events.OneCallChanged.{Place, Here, Else, place}

pub view_push : (view : JournalView) (es : List Entry) (e : Entry) → view_after view (es ++ e ∷ []) ≡ noted (view_after view es) e
view_push view [] e = refl
view_push view (x ∷ es) e = view_push (noted view x) es e

pub lawful_push : (view : JournalView) (es : List Entry) (e : Entry) → IsLawful view es → IsNext (view_after view es) e → IsLawful view (es ++ e ∷ [])
lawful_push view [] e l n = (n, tt)
lawful_push view (x ∷ es) e l n = (l.0, lawful_push (noted view x) es e l.1 n)

-- counts after one more entry
pub returns_commits : (es : List Entry) (c : ℕ) (r : Reply) → commit_count (es ++ Return c r ∷ []) ≡ commit_count es
returns_commits [] c r = refl
returns_commits (Begin n seat call ∷ es) c r = returns_commits es c r
returns_commits (Commit n ∷ es) c r = ap (λ (m : ℕ). m + 1) (returns_commits es c r)
returns_commits (Return n q ∷ es) c r = returns_commits es c r

pub returns_begins : (es : List Entry) (c : ℕ) (r : Reply) → begins (es ++ Return c r ∷ []) ≡ begins es
returns_begins [] c r = refl
returns_begins (Begin n seat call ∷ es) c r = ap (λ (m : ℕ). m + 1) (returns_begins es c r)
returns_begins (Commit n ∷ es) c r = returns_begins es c r
returns_begins (Return n q ∷ es) c r = returns_begins es c r

pub begins_commits : (es : List Entry) (c seat : ℕ) (call : Call) → commit_count (es ++ Begin c seat call ∷ []) ≡ commit_count es
begins_commits [] c seat call = refl
begins_commits (Begin n s x ∷ es) c seat call = begins_commits es c seat call
begins_commits (Commit n ∷ es) c seat call = ap (λ (m : ℕ). m + 1) (begins_commits es c seat call)
begins_commits (Return n q ∷ es) c seat call = begins_commits es c seat call

pub begins_begins : (es : List Entry) (c seat : ℕ) (call : Call) → begins (es ++ Begin c seat call ∷ []) ≡ begins es + 1
begins_begins [] c seat call = refl
begins_begins (Begin n s x ∷ es) c seat call = ap (λ (m : ℕ). m + 1) (begins_begins es c seat call)
begins_begins (Commit n ∷ es) c seat call = begins_begins es c seat call
begins_begins (Return n q ∷ es) c seat call = begins_begins es c seat call

-- a call that did not begin is due nothing and did not return
abbrev pub Unknown : JournalView → Type 0
Unknown view = (c : ℕ) → view.call c ≡ None → (view.due c ≡ None) × (view.back c ≡ false)

pub unknown_step : (view : JournalView) (e : Entry) → Unknown view → IsNext view e → Unknown (noted view e)
unknown_step view (Begin n seat call) u next c e = u c (go (place n (Some call) view.call c))
  where
    go : Place (Option Call) n (Some call) view.call c → view.call c ≡ None
    go (Here i j) = let z : ◌≡◌ {A = Option Call} (Some call) None = sym j ∙ e in cc
    go (Else m j) = sym j ∙ e
unknown_step view (Commit n) u ((call, known), new) c e = go (place n (Some (reply view.tree (form view.limits call))) view.due c)
  where
    is : commit_of view n (view.call n) ≡ commit_of view n (Some call)
    is = ap (commit_of view n) known

    old : view.call c ≡ None
    old = sym (ap (λ (b : JournalView). b.call c) is) ∙ e

    go : Place (Option Reply) n (Some (reply view.tree (form view.limits call))) view.due c → ((commit_of view n (view.call n)).due c ≡ None) × ((commit_of view n (view.call n)).back c ≡ false)
    go (Here i j) = let z : ◌≡◌ {A = Option Call} (Some call) None = sym known ∙ ap view.call (sym i) ∙ old in cc
    go (Else m j) = (ap (λ (b : JournalView). b.due c) is ∙ j ∙ (u c old).0, ap (λ (b : JournalView). b.back c) is ∙ (u c old).1)
unknown_step view (Return n r) u (due, back) c e = go (place n true view.back c)
  where
    go : Place Bool n true view.back c → (view.due c ≡ None) × (set_at n true view.back c ≡ false)
    go (Here i j) = let z : ◌≡◌ {A = Option Reply} None (Some r) = sym (u c e).0 ∙ ap view.due i ∙ due in cc
    go (Else m j) = ((u c e).0, j ∙ (u c e).1)

pub unknown_of : (view : JournalView) (es : List Entry) → Unknown view → IsLawful view es → Unknown (view_after view es)
unknown_of view [] u l = u
unknown_of view (e ∷ es) u l = unknown_of (noted view e) es (unknown_step view e u l.0) l.1

pub dues_due : (view new : JournalView) (cs : List ℕ) (rs : List Reply) → ((c : ℕ) → new.due c ≡ view.due c) → Dues view cs rs → Dues new cs rs
dues_due view new [] rs h d = tt
dues_due view new (c ∷ cs) [] h d = d
dues_due view new (c ∷ cs) (r ∷ rs) h d = (h c ∙ d.0, dues_due view new cs rs h d.1)
