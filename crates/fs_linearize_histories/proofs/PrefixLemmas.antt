-- Prefixes of histories, and the last return of one.
use Rattle.std.proofs.Common.{◌≡◌, ℕ, zero, suc, ◌+◌, ◌<◌, true, false, List, [], ◌∷◌, ◌++◌, length, take, slice_get, Some, None, refl, sym, ap, ◌∙◌, subst, append_assoc, arith}
use Rattle.std.proofs.lemmas.List.{length-take-le, length-append, take_all}
use Rattle.std.proofs.lemmas.Option.{slice_get_within, get_or_from_slice_get}
use Rattle.std.proofs.lemmas.Bool.{eq-eqb, or_right}
use Rattle.fs_names.specs.Failures.{or_else}
use Rattle.fs_calls.specs.Starts.{Start}
use Rattle.fs_calls.specs.Outcomes.{next_start, reply_at}
use Rattle.fs_calls.specs.declared.call.Call.{Call}
use Rattle.fs_calls.specs.declared.reply.Reply.{Reply}
use Rattle.fs_timeline.specs.Timeline.{is_return, has_begun, has_committed, has_returned, is_busy, call_of, commits, before_commit, reply_after, due}
use Rattle.fs_timeline.specs.declared.entry.Entry.{Entry}
use Rattle.fs_timeline.specs.declared.entry.Entry.TheVariants.{Begin, Commit, Return}
use Rattle.fs_timeline.proofs.AppendLemmas.{begun_first, committed_first, list_any-push, is_some-call_of}
use Rattle.fs_timeline.proofs.TimelineLemmas.{append_nil, lawful_appended}
use Rattle.fs_linearizable.specs.Linearizable.{history}
use Rattle.fs_linearizable.proofs.LawfulLemmas.{history-append, has_returned-history}
use Rattle.fs_linearize_histories.specs.declared.heard.Heard.{Heard}
use Rattle.fs_linearize_histories.specs.declared.heard.Heard.TheVariants as heard
use Rattle.fs_linearize_histories.specs.declared.heard.Pattern.{Pattern}
use Rattle.fs_linearize_histories.specs.declared.heard.Pattern.TheVariants.{Exactly}
use Rattle.fs_linearize_histories.specs.Heard.{Matches, IsHeardAs, AreHeardIn, entry_of, entries}
use Rattle.fs_linearize_histories.specs.Histories.{IsNextHeard, AreNextHeard, IsHistory, recorded, Explains, ExplainsFront}
use Rattle.fs_linearize_histories.proofs.HistoryLemmas.{recorded-append, is_some_recorded, none_from, some_from, take_step, explained_front}
use Rattle.fs_linearize_histories.proofs.PathLemmas.{next_at, passed_begun, passed_busy}

-- ---- prefixes

next_take : (before : List Entry) (h : List Heard) (n : ℕ) → AreNextHeard before h → AreNextHeard before (take n h)
next_take before h zero k = tt
next_take before [] (suc n) k = tt
next_take before (x ∷ h) (suc n) k = (k.0, next_take (before ++ entry_of x ∷ []) h n k.1)

pub history_take : (h : List Heard) (n : ℕ) → IsHistory h → IsHistory (take n h)
history_take h n k = next_take [] h n k

heard_take : (es : List Entry) (h : List Heard) → AreHeardIn es h → AreHeardIn es (take (length es) h) × (length es ≡ length (take (length es) h))
heard_take [] h k = (tt, refl)
heard_take (e ∷ es) [] k = absurd k
heard_take (e ∷ es) (x ∷ h) k = let rest = heard_take es h k.1 in ((k.0, rest.0), ap suc rest.1)

-- what explains a front explains the entries that it has
pub explained_take : (start : Start) (h : List Heard) (es : List Entry) (n : ℕ) → ExplainsFront start h es → n ≡ length (history es) → Explains start (take n h) es
explained_take start h es n x at = let heard = heard_take (history es) h x.heard_as in record { lawful = x.lawful; heard_as = rw at heard.0; whole = rw at heard.1 }

-- ---- one entry more

heard_last : (es : List Entry) (h : List Heard) (e : Entry) (x : Heard) → AreHeardIn es h → length es ≡ length h → IsHeardAs e x → AreHeardIn (es ++ e ∷ []) (h ++ x ∷ [])
heard_last [] [] e x k same like = (like, tt)
heard_last [] (y ∷ h) e x k same like = absurd (cc)
heard_last (d ∷ es) [] e x k same like = absurd k
heard_last (d ∷ es) (y ∷ h) e x k same like = (k.0, heard_last es h e x k.1 (omega (arith, same)) like)

-- entries that are explained are so with a begin behind them
pub begun_explained : (start : Start) (h : List Heard) (es : List Entry) (n c seat : ℕ) (call : Call) → IsHistory h → slice_get h n ≡ Some (heard.Begin c seat call) → Explains start (take n h) es → Explains start (take (n + 1) h) (es ++ Begin c seat call ∷ [])
begun_explained start h es n c seat call known is x =
    let g = take n h in
    let e = Begin c seat call in
    let y = heard.Begin c seat call in
    let within : n < length h = slice_get_within h n y is in
    let long : length g ≡ n = length-take-le n h (omega (arith, within)) in
    let front = explained_front start g es x in
    let at : n ≡ length (history es) = sym long ∙ sym x.whole in
    let whole : take n g ≡ g = take_all n g (omega (arith, long)) in
    let next : IsNextHeard (entries g) y = next_at [] h n y known is in
    let begun : has_begun c es ≡ false = sym (passed_begun start g es n c front at) ∙ ap (λ (k : List Heard). has_begun c (entries k)) whole ∙ next.0 in
    let busy : is_busy seat es ≡ false = sym (passed_busy start g es n seat front at) ∙ ap (λ (k : List Heard). is_busy seat (entries k)) whole ∙ next.1 in
    let more : take (n + 1) h ≡ g ++ y ∷ [] = take_step h n y within (sym (get_or_from_slice_get h n y y is)) in
    let pushed : history (es ++ e ∷ []) ≡ history es ++ e ∷ [] = history-append es (e ∷ []) in
    record {
      lawful = (lawful_appended start es e).1 (x.lawful, (begun, busy), tt);
      heard_as = subst (λ (xs : List Entry). AreHeardIn xs (take (n + 1) h)) (sym pushed) (subst (AreHeardIn (history es ++ e ∷ [])) (sym more) (heard_last (history es) g e y x.heard_as x.whole refl));
      whole = ap length pushed ∙ length-append (history es) (e ∷ []) ∙ ap (λ k. k + 1) x.whole ∙ sym (ap length more ∙ length-append g (y ∷ []));
    }

-- ---- a return behind entries

-- whatever is known of its reply
pub returned_otherwise : (before : List Entry) (g : List Heard) (c : ℕ) (p q : Pattern) → AreNextHeard before (g ++ heard.Return c p ∷ []) → AreNextHeard before (g ++ heard.Return c q ∷ [])
returned_otherwise before [] c p q k = (k.0, tt)
returned_otherwise before (y ∷ g) c p q k = (k.0, returned_otherwise (before ++ entry_of y ∷ []) g c p q k.1)

next_last : (before : List Entry) (g : List Heard) (x : Heard) → AreNextHeard before (g ++ x ∷ []) → IsNextHeard (before ++ entries g) x
next_last before [] x k = subst (λ (b : List Entry). IsNextHeard b x) (sym (append_nil before)) k.0
next_last before (y ∷ g) x k = subst (λ (b : List Entry). IsNextHeard b x) (append_assoc before (entry_of y ∷ []) (entries g)) (next_last (before ++ entry_of y ∷ []) g x k.1)

recorded_last : (g : List Heard) (c : ℕ) (p q : Pattern) → IsHistory (g ++ heard.Return c p ∷ []) → recorded c (g ++ heard.Return c q ∷ []) ≡ Some q
recorded_last g c p q known =
    let next = next_last [] g (heard.Return c p) known in
    let none : recorded c g ≡ None = none_from _ (is_some_recorded c g ∙ next.1) in
    let here = eq-eqb c c refl in
    recorded-append c g (heard.Return c q ∷ []) ∙ ap (λ o. or_else o (recorded c (heard.Return c q ∷ []))) none ∙ (rw here refl)

record Parts (es : List Entry) (g : List Heard) (x : Heard) : Type 0 where
  pub before : List Entry
  pub last : Entry
  pub is : es ≡ before ++ last ∷ []
  pub heard_as : AreHeardIn before g
  pub whole : length before ≡ length g
  pub like : IsHeardAs last x

heard_parts : (es : List Entry) (g : List Heard) (x : Heard) → AreHeardIn es (g ++ x ∷ []) → length es ≡ length (g ++ x ∷ []) → Parts es g x
heard_parts [] [] x k same = absurd (cc)
heard_parts [] (y ∷ g) x k same = absurd (cc)
heard_parts (e ∷ []) [] x k same = record { before = []; last = e; is = refl; heard_as = tt; whole = refl; like = k.0 }
heard_parts (e ∷ f ∷ es) [] x k same = absurd k.1
heard_parts (e ∷ es) (y ∷ g) x k same =
    let rest = heard_parts es g x k.1 (omega (arith, same)) in
    record { before = e ∷ rest.before; last = rest.last; is = ap (λ xs. e ∷ xs) rest.is; heard_as = (k.0, rest.heard_as); whole = ap suc rest.whole; like = rest.like }

returned_with : (e : Entry) (c : ℕ) (p : Pattern) → IsHeardAs e (heard.Return c p) → (r : Reply) × (e ≡ Return c r) × Matches p r
returned_with (Begin d seat call) c p is = absurd (cc)
returned_with (Commit d) c p is = absurd is
returned_with (Return d r) c p is =
    let same : d ≡ c = number d c is.0 p is.1 in
    let known : is.0 ≡ p = pattern d c is.0 p is.1 in
    (r, ap (λ n. Return n r) same, subst (λ (k : Pattern). Matches k r) known is.2)
  where
    number : (d c : ℕ) (q p : Pattern) → heard.Return c p ≡ heard.Return d q → d ≡ c
    number d c q p k = cc

    pattern : (d c : ℕ) (q p : Pattern) → heard.Return c p ≡ heard.Return d q → q ≡ p
    pattern d c q p k = cc

-- what explains entries with a return behind them gives a reply there, and explains them with whatever matches that reply
pub record AnswersLast (start : Start) (g : List Heard) (c : ℕ) (p : Pattern) (es : List Entry) : Type 0 where
  pub reply : Reply
  pub matches : Matches p reply
  pub returned : has_returned c es ≡ true
  pub otherwise : (q : Pattern) → Matches q reply → Explains start (g ++ heard.Return c q ∷ []) es

pub answers_last : (start : Start) (g : List Heard) (c : ℕ) (p : Pattern) (es : List Entry) → Explains start (g ++ heard.Return c p ∷ []) es → AnswersLast start g c p es
answers_last start g c p es x =
    let parts = heard_parts (history es) g (heard.Return c p) x.heard_as x.whole in
    let last = returned_with parts.last c p parts.like in
    let e = Return c last.0 in
    let is : history es ≡ parts.before ++ e ∷ [] = parts.is ∙ ap (λ d. parts.before ++ d ∷ []) last.1 in
    let here = eq-eqb c c refl in
    record {
      reply = last.0;
      matches = last.2;
      returned = sym (has_returned-history c es) ∙ ap (has_returned c) is ∙ list_any-push (is_return c) parts.before e ∙ or_right _ _ here;
      otherwise = λ q fits. record {
        lawful = x.lawful;
        heard_as = subst (λ (xs : List Entry). AreHeardIn xs (g ++ heard.Return c q ∷ [])) (sym is) (heard_last parts.before g e (heard.Return c q) parts.heard_as parts.whole (q, refl, fits));
        whole = x.whole ∙ length-append g (heard.Return c p ∷ []) ∙ sym (length-append g (heard.Return c q ∷ []));
      };
    }

-- that reply is the one that is due
pub answers_due : (start : Start) (g : List Heard) (c : ℕ) (p : Pattern) (es : List Entry) → IsHistory (g ++ heard.Return c p ∷ []) → (x : Explains start (g ++ heard.Return c p ∷ []) es) → due start c es ≡ Some (answers_last start g c p es x).reply
answers_due start g c p es known x =
    let last = answers_last start g c p es x in
    let exact = last.otherwise (Exactly last.reply) refl in
    let well = x.lawful.well_formed in
    let done : has_committed c es ≡ true = committed_first es well c last.returned in
    let begun : has_begun c es ≡ true = begun_first es well c done in
    let found = some_from (call_of c es) (is_some-call_of c es ∙ begun) in
    let r : Reply = reply_at (next_start start (commits (before_commit c es))) found.0 in
    let is : due start c es ≡ Some r = ap (reply_after start (commits (before_commit c es))) found.1 in
    let same : r ≡ last.reply = (explained_front start (g ++ heard.Return c (Exactly last.reply) ∷ []) es exact).held_to c r done is (Exactly last.reply) (recorded_last g c p (Exactly last.reply) known) in
    is ∙ ap Some same
