-- What is heard of one entry more.
use Rattle.std.proofs.Common.{ℕ, ◌≡◌, ◌==◌, Bool, true, false, if◌then◌else◌, List, [], ◌∷◌, ◌++◌, length, Option, Some, None, Result, Ok, Err, OnOk, refl, sym, ap, ◌∙◌, subst, append-nil}
use Rattle.std.proofs.lemmas.List.Elements.{filter_map-append}
use Rattle.std.proofs.lemmas.Option.{slice_get_within}
use Rattle.fs_names.specs.Failures.{or_else}
use Rattle.fs_names.proofs.FailureLemmas.{or_else-assoc}
use Rattle.fs_calls.proofs.ListLemmas.{slice_get-seam, slice_get-front}
use Rattle.fs_calls.specs.declared.call.Call.{Call}
use Rattle.fs_calls.specs.declared.reply.Reply.{Reply}
use Rattle.fs_timeline.specs.Timeline.{begun_on}
use Rattle.fs_timeline.specs.declared.entry.Entry.{Entry}
use Rattle.fs_timeline.specs.declared.entry.Entry.TheVariants.{Begin, Commit, Return}
use Rattle.fs_timeline.proofs.AppendLemmas.{or_else-nothing}
use Rattle.fs_sched_seen.specs.Calls.{calls_on, reply_of, returned_as}
use Rattle.fs_sched_seen.specs.code.Heards.{begun_of, returned_of, Begins, Returns, IsHeard, IsReplyAt}
use Rattle.fs_sched_seen.specs.declared.heard.Heard.{Heard}

reply_push : (c : ℕ) (es : List Entry) (e : Entry) → reply_of c (es ++ e ∷ []) ≡ or_else (returned_as c e) (reply_of c es)
reply_push c [] e = sym (or_else-nothing (returned_as c e))
reply_push c (f ∷ es) e = ap (λ o. or_else o (returned_as c f)) (reply_push c es e) ∙ sym (or_else-assoc (returned_as c e) (reply_of c es) (returned_as c f))

-- the calls of a seat, where one began
begun_more : (b : Bool) (s c seat : ℕ) (call : Call) (calls : List ℕ) (es : List Entry) → (s == seat) ≡ b → calls ≡ calls_on s es → (if b then calls ++ c ∷ [] else calls) ≡ calls_on s (es ++ Begin c seat call ∷ [])
begun_more true s c seat call calls es e is =
    let one : calls_on s (Begin c seat call ∷ []) ≡ c ∷ [] = rw e refl in
    sym (filter_map-append (begun_on s) es (Begin c seat call ∷ []) ∙ ap (λ l. calls_on s es ++ l) one ∙ ap (λ l. l ++ c ∷ []) (sym is))
begun_more false s c seat call calls es e is =
    let none : calls_on s (Begin c seat call ∷ []) ≡ [] = rw e refl in
    sym (filter_map-append (begun_on s) es (Begin c seat call ∷ []) ∙ ap (λ l. calls_on s es ++ l) none ∙ append-nil (calls_on s es) ∙ sym is)

pub begin_heard : (s c seat : ℕ) (call : Call) (old new : List ℕ) (es : List Entry) → new ≡ (if s == seat then old ++ c ∷ [] else old) → old ≡ calls_on s es → new ≡ calls_on s (es ++ Begin c seat call ∷ [])
begin_heard s c seat call old new es e is = e ∙ begun_more (s == seat) s c seat call old es refl is

pub others_heard : (s : ℕ) (e : Entry) (old new : List ℕ) (es : List Entry) → begun_on s e ≡ None → new ≡ old → old ≡ calls_on s es → new ≡ calls_on s (es ++ e ∷ [])
others_heard s e old new es none same is =
    let one : calls_on s (e ∷ []) ≡ [] = rw none refl in
    same ∙ is ∙ sym (filter_map-append (begun_on s) es (e ∷ []) ∙ ap (λ l. calls_on s es ++ l) one ∙ append-nil (calls_on s es))

-- what was returned stays so
kept : (es : List Entry) (e : Entry) (r : Option Reply) (at : Option ℕ) → IsReplyAt es r at → IsReplyAt (es ++ e ∷ []) r at
kept es e r None is = is
kept es e r (Some at) (d, reply, there, same) = (d, reply, slice_get-front es (e ∷ []) at (slice_get_within es at (Return d reply) there) ∙ there, same)

pub reply_kept : (c : ℕ) (es : List Entry) (e : Entry) (old new : Option ℕ) → returned_as c e ≡ None → new ≡ old → IsReplyAt es (reply_of c es) old → IsReplyAt (es ++ e ∷ []) (reply_of c (es ++ e ∷ [])) new
reply_kept c es e old new none same is =
    let all : reply_of c (es ++ e ∷ []) ≡ reply_of c es = reply_push c es e ∙ ap (λ o. or_else o (reply_of c es)) none in
    subst (λ at. IsReplyAt (es ++ e ∷ []) (reply_of c (es ++ e ∷ [])) at) (sym same) (subst (λ r. IsReplyAt (es ++ e ∷ []) r old) (sym all) (kept es e (reply_of c es) old is))

returned_more : (b : Bool) (c call : ℕ) (r : Reply) (es : List Entry) (old : Option ℕ) → (c == call) ≡ b → IsReplyAt es (reply_of c es) old → IsReplyAt (es ++ Return call r ∷ []) (or_else (if b then Some r else None) (reply_of c es)) (if b then Some (length es) else old)
returned_more true c call r es old e is = (call, r, slice_get-seam es (Return call r), refl)
returned_more false c call r es old e is = kept es (Return call r) (reply_of c es) old is

pub return_heard : (c call : ℕ) (r : Reply) (es : List Entry) (at : ℕ) (old new : Option ℕ) → length es ≡ at → new ≡ (if c == call then Some at else old) → IsReplyAt es (reply_of c es) old → IsReplyAt (es ++ Return call r ∷ []) (reply_of c (es ++ Return call r ∷ [])) new
return_heard c call r es at old new len e is =
    let slot : new ≡ (if c == call then Some (length es) else old) = e ∙ ap (λ n. if c == call then Some n else old) (sym len) in
    subst (λ o. IsReplyAt (es ++ Return call r ∷ []) (reply_of c (es ++ Return call r ∷ [])) o) (sym slot)
    (subst (λ o. IsReplyAt (es ++ Return call r ∷ []) o (if c == call then Some (length es) else old)) (sym (reply_push c es (Return call r))) (returned_more (c == call) c call r es old refl is))

-- ---- all that is heard

heard_begin_of : (old new : Heard) (es : List Entry) (n s : ℕ) (call : Call) → IsHeard old es → Begins old new s n → ((c : ℕ) → returned_of new c ≡ returned_of old c) → IsHeard new (es ++ Begin n s call ∷ [])
heard_begin_of old new es n s call heard begins same = record {
  begun = λ other. begin_heard other n s call (begun_of old other) (begun_of new other) es (begins other) (heard.begun other);
  returned = λ c. reply_kept c es (Begin n s call) (returned_of old c) (returned_of new c) refl (same c) (heard.returned c);
}

pub heard_begin : {E : Type 0} (r : Result (Unit {0}) E) (old new : Heard) (es : List Entry) (e : Entry) (c seat n s : ℕ) (call : Call) → e ≡ Begin c seat call → n ≡ c → s ≡ seat → IsHeard old es
    → OnOk r (Begins old new s n) → OnOk r ((k : ℕ) → returned_of new k ≡ returned_of old k) → OnOk r (IsHeard new (es ++ e ∷ []))
heard_begin (Ok u) old new es e c seat n s call is num place heard begins same =
    let at : Begin n s call ≡ e = ap (λ k. Begin k s call) num ∙ ap (λ k. Begin c k call) place ∙ sym is in
    subst (λ x. IsHeard new (es ++ x ∷ [])) at (heard_begin_of old new es n s call heard begins same)
heard_begin (Err x) old new es e c seat n s call is num place heard begins same = tt

pub heard_commit : (heard : Heard) (es : List Entry) (e : Entry) (c : ℕ) → e ≡ Commit c → IsHeard heard es → IsHeard heard (es ++ e ∷ [])
heard_commit heard es e c is was = subst (λ x. IsHeard heard (es ++ x ∷ [])) (sym is) (record {
  begun = λ s. others_heard s (Commit c) (begun_of heard s) (begun_of heard s) es refl refl (was.begun s);
  returned = λ k. reply_kept k es (Commit c) (returned_of heard k) (returned_of heard k) refl refl (was.returned k);
})

heard_return_of : (old new : Heard) (es : List Entry) (n at : ℕ) (reply : Reply) → length es ≡ at → IsHeard old es → Returns old new n at → ((s : ℕ) → begun_of new s ≡ begun_of old s) → IsHeard new (es ++ Return n reply ∷ [])
heard_return_of old new es n at reply len heard returns same = record {
  begun = λ s. others_heard s (Return n reply) (begun_of old s) (begun_of new s) es refl (same s) (heard.begun s);
  returned = λ c. return_heard c n reply es at (returned_of old c) (returned_of new c) len (returns c) (heard.returned c);
}

pub heard_return : {E : Type 0} (r : Result (Unit {0}) E) (old new : Heard) (es : List Entry) (e : Entry) (c n at : ℕ) (reply : Reply) → e ≡ Return c reply → n ≡ c → length es ≡ at → IsHeard old es
    → OnOk r (Returns old new n at) → OnOk r ((s : ℕ) → begun_of new s ≡ begun_of old s) → OnOk r (IsHeard new (es ++ e ∷ []))
heard_return (Ok u) old new es e c n at reply is num len heard returns same =
    let there : Return n reply ≡ e = ap (λ k. Return k reply) num ∙ sym is in
    subst (λ x. IsHeard new (es ++ x ∷ [])) there (heard_return_of old new es n at reply len heard returns same)
heard_return (Err x) old new es e c n at reply is num len heard returns same = tt
