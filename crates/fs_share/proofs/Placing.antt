-- Where a call's commit stands among the commits, and the reply that its Return has.
use Rattle.std.proofs.Common.{◌≡◌, ℕ, zero, suc, ◌<◌, true, false, cond, ◌||◌, ◌==◌, List, [], ◌∷◌, ◌++◌, length, take, Option, Some, None, slice_get, refl, sym, ap, ◌∙◌, subst, append_assoc}
use Rattle.std.proofs.lemmas.Bool.{eqb-true, or_left}
use Rattle.std.proofs.Math.Seq.{take-append_seam}
use mathlib.Core.List.{IsPrefix}
use Rattle.fs_calls.specs.Starts.{Start}
use Rattle.fs_calls.specs.Outcomes.{reply_at, next_start}
use Rattle.fs_calls.specs.declared.call.Call.{Call}
use Rattle.fs_calls.specs.declared.reply.Reply.{Reply}
use Rattle.fs_timeline.specs.Timeline.{has_begun, has_committed, call_of, with_call, commits, commits_of, before_commit, reply_after, due, IsNext, IsAnswered, Each, IsWellFormed, IsLawful}
use Rattle.fs_timeline.specs.declared.entry.Entry.{Entry}
use Rattle.fs_timeline.specs.declared.entry.Entry.TheVariants.{Begin, Commit, Return}
use Rattle.fs_timeline.proofs.TimelineLemmas.{append_nil}
use Rattle.fs_timeline.proofs.AppendLemmas.{list_any-push, call_of-kept, commits-push, due-kept, begun_first}
use Rattle.fs_timeline.specs.Index.{place_of}
use Rattle.fs_share_observe.proofs.Fronts.{prefix_self, prefix_trans, prefix_get}
use Rattle.fs_share.specs.Boards.{IsListed}

-- what each entry has, each of a beginning has
each_beginning : (P : List Entry → Entry → Type 0) (before xs ys : List Entry) → Each P before (xs ++ ys) → Each P before xs
each_beginning P before [] ys h = tt
each_beginning P before (x ∷ xs) ys h = (h.0, each_beginning P (before ++ x ∷ []) xs ys h.1)

-- and the next one has it
each_next : (P : List Entry → Entry → Type 0) (before xs : List Entry) (e : Entry) (ys : List Entry) → Each P before (xs ++ e ∷ ys) → P (before ++ xs) e
each_next P before [] e ys h = subst (λ (b : List Entry). P b e) (sym (append_nil before)) h.0
each_next P before (x ∷ xs) e ys h = subst (λ (b : List Entry). P b e) (append_assoc before (x ∷ []) xs) (each_next P (before ++ x ∷ []) xs e ys h.1)

-- the commits of a beginning are a beginning of the commits
pub commits_grow : (xs ys : List Entry) → IsWellFormed (xs ++ ys) → IsPrefix (commits xs) (commits (xs ++ ys))
commits_grow xs [] h = subst (λ (l : List Entry). IsPrefix (commits xs) (commits l)) (sym (append_nil xs)) (prefix_self (commits xs))
commits_grow xs (y ∷ ys) h =
    let all : (xs ++ y ∷ []) ++ ys ≡ xs ++ y ∷ ys = append_assoc xs (y ∷ []) ys in
    let rest : IsPrefix (commits (xs ++ y ∷ [])) (commits (xs ++ y ∷ ys)) = subst (λ (l : List Entry). IsPrefix (commits (xs ++ y ∷ [])) (commits l)) all (commits_grow (xs ++ y ∷ []) ys (subst (λ (l : List Entry). IsWellFormed l) (sym all) h)) in
    let one : IsPrefix (commits xs) (commits (xs ++ y ∷ [])) = (commits_of (xs ++ y ∷ []) (y ∷ []), sym (commits-push xs y (begun_first xs (each_beginning IsNext [] xs (y ∷ ys) h)))) in
    prefix_trans (commits xs) (commits (xs ++ y ∷ [])) (commits (xs ++ y ∷ ys)) one rest

-- the call of a number that has begun stays
call_of_grows : (c : ℕ) (xs ys : List Entry) → has_begun c xs ≡ true → call_of c (xs ++ ys) ≡ call_of c xs
call_of_grows c xs [] h = ap (call_of c) (append_nil xs)
call_of_grows c xs (y ∷ ys) h =
    let more : has_begun c (xs ++ y ∷ []) ≡ true = list_any-push _ xs y ∙ or_left _ _ h in
    ap (call_of c) (sym (append_assoc xs (y ∷ []) ys)) ∙ call_of_grows c (xs ++ y ∷ []) ys more ∙ call_of-kept c xs y h

-- the reply that is due to a call that has committed stays
due_grows : (start : Start) (c : ℕ) (xs ys : List Entry) → IsWellFormed (xs ++ ys) → has_committed c xs ≡ true → due start c (xs ++ ys) ≡ due start c xs
due_grows start c xs [] w h = ap (due start c) (append_nil xs)
due_grows start c xs (y ∷ ys) w h =
    let all : (xs ++ y ∷ []) ++ ys ≡ xs ++ y ∷ ys = append_assoc xs (y ∷ []) ys in
    let more : has_committed c (xs ++ y ∷ []) ≡ true = list_any-push _ xs y ∙ or_left _ _ h in
    ap (due start c) (sym all) ∙ due_grows start c (xs ++ y ∷ []) ys (subst (λ (l : List Entry). IsWellFormed l) (sym all) w) more
    ∙ due-kept start c xs y (begun_first xs (each_beginning IsNext [] xs (y ∷ ys) w)) h

-- a committed call's Commit follows what stands before it
commit_there : (c : ℕ) (es : List Entry) → has_committed c es ≡ true → (rest : List Entry) × (es ≡ before_commit c es ++ Commit c ∷ rest)
commit_there c [] h = absurd (cc)
commit_there c (Begin d seat call ∷ es) h = let r = commit_there c es h in (r.0, ap (λ (l : List Entry). Begin d seat call ∷ l) r.1)
commit_there c (Commit d ∷ es) h =
    elim (c == d) as (λ b. (c == d) ≡ b → (b || has_committed c es) ≡ true → (rest : List Entry) × (Commit d ∷ es ≡ cond b [] (Commit d ∷ before_commit c es) ++ Commit c ∷ rest)) [
      | true ↦ λ e k. (es, ap (λ (n : ℕ). Commit n ∷ es) (sym (eqb-true c d e)))
      | false ↦ λ e k. let r = commit_there c es k in (r.0, ap (λ (l : List Entry). Commit d ∷ l) r.1)
    ] refl h
commit_there c (Return d r ∷ es) h = let q = commit_there c es h in (q.0, ap (λ (l : List Entry). Return d r ∷ l) q.1)

-- of a list with one element after a beginning, that beginning and that element
last_get : (xs : List Call) (x : Call) → slice_get (xs ++ x ∷ []) (length xs) ≡ Some x
last_get [] x = refl
last_get (y ∷ xs) x = last_get xs x

prefix_take : (xs ys : List Call) → IsPrefix xs ys → take (length xs) ys ≡ xs
prefix_take xs ys p = ap (λ (l : List Call). take (length xs) l) (sym p.1) ∙ take-append_seam xs p.0

-- the commits before a call's own are the first so many
pub commits_before : (c : ℕ) (es : List Entry) → IsWellFormed es → has_committed c es ≡ true → take (length (commits (before_commit c es))) (commits es) ≡ commits (before_commit c es)
commits_before c es w h =
    let at = commit_there c es h in
    let wf : IsWellFormed (before_commit c es ++ Commit c ∷ at.0) = subst (λ (l : List Entry). IsWellFormed l) at.1 w in
    prefix_take (commits (before_commit c es)) (commits es) (subst (λ (l : List Entry). IsPrefix (commits (before_commit c es)) (commits l)) (sym at.1) (commits_grow (before_commit c es) (Commit c ∷ at.0) wf))

with_some : (o : Option Call) (call : Call) → o ≡ Some call → with_call o [] ≡ call ∷ []
with_some o call h = ap (λ (p : Option Call). with_call p []) h

-- after them comes the call
pub commit_call : (c : ℕ) (es : List Entry) (call : Call) → IsWellFormed es → has_committed c es ≡ true → call_of c es ≡ Some call → slice_get (commits es) (length (commits (before_commit c es))) ≡ Some call
commit_call c es call w h is =
    let at = commit_there c es h in
    let b = before_commit c es in
    let wf : IsWellFormed (b ++ Commit c ∷ at.0) = subst (λ (l : List Entry). IsWellFormed l) at.1 w in
    let begun : has_begun c b ≡ true = (each_next IsNext [] b (Commit c) at.0 wf).0 in
    let early : call_of c b ≡ Some call = sym (call_of_grows c b (Commit c ∷ at.0) begun) ∙ ap (call_of c) (sym at.1) ∙ is in
    let here : call_of c (b ++ Commit c ∷ []) ≡ Some call = call_of-kept c b (Commit c) begun ∙ early in
    let one : commits (b ++ Commit c ∷ []) ≡ commits b ++ call ∷ [] = commits-push b (Commit c) (begun_first b (each_beginning IsNext [] b (Commit c ∷ at.0) wf)) ∙ ap (λ (l : List Call). commits b ++ l) (with_some (call_of c (b ++ Commit c ∷ [])) call here) in
    let all : (b ++ Commit c ∷ []) ++ at.0 ≡ es = append_assoc b (Commit c ∷ []) at.0 ∙ sym at.1 in
    let grow : IsPrefix (commits (b ++ Commit c ∷ [])) (commits es) = subst (λ (l : List Entry). IsPrefix (commits (b ++ Commit c ∷ [])) (commits l)) all (commits_grow (b ++ Commit c ∷ []) at.0 (subst (λ (l : List Entry). IsWellFormed l) (sym all) w)) in
    prefix_get (commits (b ++ Commit c ∷ [])) (commits es) (length (commits b)) call grow (ap (λ (l : List Call). slice_get l (length (commits b))) one ∙ last_get (commits b) call)

-- a list around the element at a place
around : (es : List Entry) (i : ℕ) (e : Entry) → slice_get es i ≡ Some e → (before rest : List Entry) × (es ≡ before ++ e ∷ rest)
around [] i e h = absurd (cc)
around (x ∷ es) zero e h = ([], es, cc h)
around (x ∷ es) (suc i) e h = let r = around es i e h in (x ∷ r.0, r.1, ap (λ (l : List Entry). x ∷ l) r.2)

-- a lawful timeline's Return has the reply that is due
pub returned_due : (start : Start) (es : List Entry) (i c : ℕ) (r : Reply) → IsLawful start es → slice_get es i ≡ Some (Return c r) → due start c es ≡ Some r
returned_due start es i c r law h =
    let at = around es i (Return c r) h in
    let wf : IsWellFormed (at.0 ++ Return c r ∷ at.1) = subst (λ (l : List Entry). IsWellFormed l) at.2 law.well_formed in
    let committed : has_committed c at.0 ≡ true = (each_next IsNext [] at.0 (Return c r) at.1 wf).0 in
    let answered : due start c at.0 ≡ Some r = each_next (IsAnswered start) [] at.0 (Return c r) at.1 (subst (λ (l : List Entry). Each (IsAnswered start) [] l) at.2 law.replies) in
    ap (due start c) at.2 ∙ due_grows start c at.0 (Return c r ∷ at.1) wf committed ∙ answered

placed : (es : List Entry) (c p : ℕ) → place_of c es ≡ Some p → (has_committed c es ≡ true) × (p ≡ length (commits (before_commit c es)))
placed es c p h =
    elim (has_committed c es) as (λ b. cond b (Some (length (commits (before_commit c es)))) None ≡ Some p → (b ≡ true) × (p ≡ length (commits (before_commit c es)))) [
      | true ↦ λ k. (refl, sym (cc k))
      | false ↦ λ k. absurd (cc)
    ] h

told_call : (start : Start) (calls : List Call) (o : Option Call) (r : Reply) → reply_after start calls o ≡ Some r → (call : Call) × (o ≡ Some call) × (r ≡ reply_at (next_start start calls) call)
told_call start calls None r h = absurd (cc)
told_call start calls (Some call) r h = (call, refl, sym (cc h))

-- what a call is told of: its place, itself and its reply
pub is_told_by : (start : Start) (es : List Entry) (i c p : ℕ) (call : Call) (r : Reply) → IsLawful start es → place_of c es ≡ Some p → p < length (commits es) → slice_get (commits es) p ≡ Some call → slice_get es i ≡ Some (Return c r) → IsListed start (commits es) p call r
is_told_by start es i c p call r law at inside is returned =
    let where_ = placed es c p at in
    let due_is = told_call start (commits (before_commit c es)) (call_of c es) r (returned_due start es i c r law returned) in
    let found : slice_get (commits es) p ≡ Some due_is.0 = ap (λ (n : ℕ). slice_get (commits es) n) where_.1 ∙ commit_call c es due_is.0 law.well_formed where_.0 due_is.1 in
    let same : due_is.0 ≡ call = cc (sym found ∙ is) in
    let first : take p (commits es) ≡ commits (before_commit c es) = ap (λ (n : ℕ). take n (commits es)) where_.1 ∙ commits_before c es law.well_formed where_.0 in
    record {
      inside = inside;
      stands = is;
      replied = due_is.2 ∙ ap (λ (x : Call). reply_at (next_start start (commits (before_commit c es))) x) same ∙ ap (λ (l : List Call). reply_at (next_start start l) call) (sym first);
    }
