-- Each call under way keeps the limits of the start, after one seat changed.
use Rattle.std.proofs.Common.{◌≡◌, ℕ, zero, suc, ◌<◌, Bool, true, false, eqb, List, [], ◌∷◌, ◌++◌, Option, Some, None, length, refl, sym, ap, ◌∙◌}
use Rattle.std.specs.Prelude.{slice_get, slice_set}
use Rattle.std.proofs.lemmas.Option.{slice_get_within}
use Rattle.fs_names.specs.declared.limits.Limits.{Limits}
use Rattle.fs_calls.proofs.ListLemmas.{slice_get-set_same, slice_get-set_other}
use Rattle.fs_laws.proofs.graphs.Walks.{eqb_true}
use Rattle.fs_core_seats.specs.declared.seat.Running.{Running}
use Rattle.fs_core.specs.code.Rooms.{AllKeep}
use Rattle.fs_core.proofs.Starting.{apart}

keep_set : (limits : Limits) (seats : List (Option Running)) (seat : ℕ) (v : Option Running) → AllKeep limits seats → seat < length seats → ((r : Running) → v ≡ Some r → r.op.limits ≡ limits) → AllKeep limits (slice_set seats seat v)
keep_set limits seats seat v kept within here i r e = go (eqb i seat) refl
  where
    go : (b : Bool) → eqb i seat ≡ b → r.op.limits ≡ limits
    go true f =
        let z : ◌≡◌ {A = Option (Option Running)} (Some v) (Some (Some r)) = sym (slice_get-set_same seats seat v within) ∙ ap (slice_get (slice_set seats seat v)) (sym (eqb_true i seat f)) ∙ e in
        here r (cc)
    go false f = kept i r (sym (slice_get-set_other seats seat i v (apart i seat f)) ∙ e)

is_one : (r q : Running) (v : Option Running) → v ≡ Some q → v ≡ Some r → q ≡ r
is_one r q v e f = let z : ◌≡◌ {A = Option Running} (Some q) (Some r) = sym e ∙ f in cc

-- the call on a seat goes on, by the limits that it has
pub keep_moved : (limits : Limits) (seats : List (Option Running)) (seat : ℕ) (old new : Running) (v : Option Running) → AllKeep limits seats → slice_get seats seat ≡ Some (Some old) → v ≡ Some new → new.op.limits ≡ old.op.limits → AllKeep limits (slice_set seats seat v)
keep_moved limits seats seat old new v kept on is same =
    keep_set limits seats seat v kept (slice_get_within seats seat (Some old) on) (λ r e. ap (λ (q : Running). q.op.limits) (sym (is_one r new v is e)) ∙ same ∙ kept seat old on)

-- a call begins
pub keep_begun : (limits : Limits) (seats : List (Option Running)) (seat : ℕ) (new : Running) (v : Option Running) → AllKeep limits seats → slice_get seats seat ≡ Some None → v ≡ Some new → new.op.limits ≡ limits → AllKeep limits (slice_set seats seat v)
keep_begun limits seats seat new v kept free is by =
    keep_set limits seats seat v kept (slice_get_within seats seat None free) (λ r e. ap (λ (q : Running). q.op.limits) (sym (is_one r new v is e)) ∙ by)

-- a call ends
pub keep_ended : (limits : Limits) (seats : List (Option Running)) (seat : ℕ) (old : Running) (v : Option Running) → AllKeep limits seats → slice_get seats seat ≡ Some (Some old) → v ≡ None → AllKeep limits (slice_set seats seat v)
keep_ended limits seats seat old v kept on is =
    keep_set limits seats seat v kept (slice_get_within seats seat (Some old) on) (λ r e. let z : ◌≡◌ {A = Option Running} None (Some r) = sym is ∙ e in absurd (cc))

-- a seat more
get_before : (seats : List (Option Running)) (i : ℕ) (r : Running) → slice_get (seats ++ None ∷ []) i ≡ Some (Some r) → slice_get seats i ≡ Some (Some r)
get_before [] zero r e = cc
get_before [] (suc i) r e = cc
get_before (x ∷ seats) zero r e = e
get_before (x ∷ seats) (suc i) r e = get_before seats i r e

pub keep_more : (limits : Limits) (seats more : List (Option Running)) → AllKeep limits seats → more ≡ seats ++ None ∷ [] → AllKeep limits more
keep_more limits seats more kept is i r e = kept i r (get_before seats i r (ap (λ (l : List (Option Running)). slice_get l i) (sym is) ∙ e))

-- no seats
pub keep_none : (limits : Limits) → AllKeep limits []
keep_none limits zero r e = cc
keep_none limits (suc i) r e = cc
