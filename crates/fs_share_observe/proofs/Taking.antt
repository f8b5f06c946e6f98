-- One more call that a publisher takes in.
use Rattle.std.proofs.Common.{◌≡◌, List, [], ◌∷◌, ◌++◌, length, Option, Some, None, IfSome, Result, Ok, Err, OnErr, refl, ap, sym, ◌∙◌, subst, arith, length-append}
use mathlib.Core.List.{IsPrefix}
use Rattle.logbook.specs.Pages.{Book}
use Rattle.fs_calls.specs.Starts.{Start}
use Rattle.fs_calls.specs.Outcomes.{called, next_start}
use Rattle.fs_calls.specs.declared.call.Call.{Call}
use Rattle.fs_timeline.proofs.AppendLemmas.{next_start-push}
use Rattle.fs_share_observe.specs.declared.history.Noted.{Noted}
use Rattle.fs_share_observe.specs.declared.history.Noted.TheVariants.{Played}
use Rattle.fs_share_observe.specs.declared.shown.Shown.{Shown}
use Rattle.fs_share_observe.specs.declared.shown.Op.{Op}
use Rattle.fs_share_observe.specs.Pasts.{start_of, calls_of, IsNoted}
use Rattle.fs_share_observe.specs.Playing.{after, total, IsPlayed}
use Rattle.fs_share_observe.specs.Tied.{Tied, IsNext, entered}
use Rattle.fs_share_observe.proofs.Fronts.{prefix_self, prefix_trans, prefix_whole}
use Rattle.fs_share_observe.proofs.Pasts.{calls_push, start_push, length_push, noted_push}

last_same : (xs : List Call) (x y : Call) → xs ++ x ∷ [] ≡ xs ++ y ∷ [] → x ≡ y
last_same [] x y h = cc h
last_same (a ∷ xs) x y h = last_same xs x y (cc h)

as_long : (xs : List Call) (x y : Call) → length (xs ++ x ∷ []) ≡ length (xs ++ y ∷ [])
as_long xs x y = omega (arith, length-append xs (x ∷ []), length-append xs (y ∷ []))

-- what is held is the call that comes next
pub held_next : (b : Book) (taken : List Noted) (held : Option Op) (call : Call) → IfSome held (λ o. IsNext b taken o) → IsPrefix (calls_of (entered taken held)) (calls_of taken ++ call ∷ []) → IfSome held (λ o. IsNext b taken o × (o.call ≡ call))
held_next b taken None call h p = h
held_next b taken (Some o) call h p =
    let calls = calls_of taken in
    let q : IsPrefix (calls ++ o.call ∷ []) (calls ++ call ∷ []) = subst (λ (l : List Call). IsPrefix l (calls ++ call ∷ [])) (calls_push taken o.token.log o.call h.1) p in
    (h, last_same calls o.call call (prefix_whole (calls ++ o.call ∷ []) (calls ++ call ∷ []) q (omega (arith, as_long calls o.call call))))

total_push : (shown : Shown) (ops : List Op) (o : Op) → total shown (ops ++ o ∷ []) ≡ after (total shown ops) o
total_push shown [] o = refl
total_push shown (p ∷ ops) o = total_push (after shown p) ops o

played_next : (x : Shown) (o : Op) (taken : List Noted) → IsPlayed x → x.token.log ≡ taken → o.token.log ≡ taken ++ Played o.call ∷ [] → IsPlayed (after x o)
played_next x o taken h log next =
    let noted : IsNoted taken = subst (λ (l : List Noted). IsNoted l) log h.0 in
    let calls : calls_of o.token.log ≡ calls_of taken ++ o.call ∷ [] = calls_push taken o.token.log o.call next in
    let start : start_of o.token.log ≡ start_of taken = start_push taken o.token.log o.call noted next in
    let now : x.tree ≡ next_start (start_of taken) (calls_of taken) = h.2 ∙ ap (λ (l : List Noted). next_start (start_of l) (calls_of l)) log in
    let then_ : called x.tree o.call ≡ next_start (start_of taken) (calls_of taken ++ o.call ∷ []) = ap (λ (t : Start). called t o.call) now ∙ sym (next_start-push (start_of taken) (calls_of taken) o.call) in (
      subst (λ (l : List Noted). IsNoted l) (sym next) (noted_push taken o.call noted),
      omega (arith, h.1, ap (λ (l : List Noted). length (calls_of l)) log, length_push taken o.token.log o.call next),
      then_ ∙ ap (λ (l : List Call). next_start (start_of taken) l) (sym calls) ∙ ap (λ (t : Start). next_start t (calls_of o.token.log)) (sym start),
    )

-- of copies that have played nothing
pub tied_first : (b : Book) (shown first : Shown) (ops : List Op) (front : List Noted) → shown ≡ first → total shown ops ≡ first → first.token.book ≡ b → first.token.log ≡ front → IsPlayed first → Tied b shown ops front None
tied_first b shown first ops front is all book log played = record {
  begins = subst (λ (l : List Noted). IsPrefix l front) (sym (ap (λ (s : Shown). s.token.log) is ∙ log)) (prefix_self front);
  book = ap (λ (s : Shown). s.token.book) is ∙ book;
  total_book = ap (λ (s : Shown). s.token.book) all ∙ book;
  total_log = ap (λ (s : Shown). s.token.log) all ∙ log;
  total_played = subst (λ (s : Shown). IsPlayed s) (sym all) played;
  next = tt;
}

-- what was taken in begins with a start tree
pub tied_noted : (b : Book) (shown : Shown) (ops : List Op) (taken : List Noted) (held : Option Op) → Tied b shown ops taken held → IsNoted taken
tied_noted b shown ops taken held h = subst (λ (l : List Noted). IsNoted l) h.total_log h.total_played.0

-- with the call appended
pub tied_more : (b : Book) (shown : Shown) (ops more : List Op) (taken : List Noted) (o : Op) → Tied b shown ops taken None → IsNext b taken o → more ≡ ops ++ o ∷ [] → Tied b shown more o.token.log None
tied_more b shown ops more taken o h next is =
    let all : total shown more ≡ after (total shown ops) o = ap (λ (l : List Op). total shown l) is ∙ total_push shown ops o in record {
      begins = prefix_trans shown.token.log taken o.token.log h.begins (Played o.call ∷ [], sym next.1);
      book = h.book;
      total_book = ap (λ (s : Shown). s.token.book) all ∙ next.0;
      total_log = ap (λ (s : Shown). s.token.log) all;
      total_played = subst (λ (s : Shown). IsPlayed s) (sym all) (played_next (total shown ops) o taken h.total_played h.total_log next.1);
      next = tt;
    }

-- without what is held
pub tied_none : (b : Book) (shown : Shown) (ops : List Op) (taken : List Noted) (held : Option Op) → Tied b shown ops taken held → Tied b shown ops taken None
tied_none b shown ops taken held h = record { begins = h.begins; book = h.book; total_book = h.total_book; total_log = h.total_log; total_played = h.total_played; next = tt }

-- with a call that waits for memory
pub tied_held : (b : Book) (shown : Shown) (ops more : List Op) (taken : List Noted) (o : Op) → Tied b shown ops taken None → IsNext b taken o → more ≡ ops → Tied b shown more taken (Some o)
tied_held b shown ops more taken o h next is = subst (λ (l : List Op). Tied b shown l taken (Some o)) (sym is) (record { begins = h.begins; book = h.book; total_book = h.total_book; total_log = h.total_log; total_played = h.total_played; next = next })

pub on_err : {A E : Type 0} (r : Result A E) (P : Type 0) → P → OnErr r P
on_err (Ok x) P p = tt
on_err (Err e) P p = p
