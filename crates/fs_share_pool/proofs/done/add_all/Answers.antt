use Rattle.std.proofs.Common.{arith, ◌≡◌, ℕ, ◌+◌, ◌≤◌, List, [], ◌∷◌, ◌++◌, ap, ◌∙◌, vec_len, vec_capacity, Result, Ok, Err, IsOk, is_ok, if◌then◌else◌}
use Rattle.std.proofs.lemmas.Bool.{false≢true}
use Rattle.fs_share_pool.specs.declared.done.Done.{Done}
use Rattle.fs_share_pool.specs.Dones.{numbers, ok_count, number_total, ok_total}
use Rattle.fs_share_pool.specs.Jobs.{one, total}
use Rattle.fs_share_pool.proofs.Counts.{number_total_append, ok_count_append, dones_counted}
use Rattle.fs_share_pool.proofs.Keeps.{total_append}
use Rattle.fs_share_pool.proofs.done.add_all.Goals as goal

appended : {T E X : Type 0} (r : Result T E) (xs ys zs : List X) → IsOk r → zs ≡ (if is_ok r then xs ++ ys else xs) → zs ≡ xs ++ ys
appended (Ok u) xs ys zs ok is = is
appended (Err e) xs ys zs ok is = absurd (false≢true ok)

pub loop-list-preserved : goal.loop-list-preserved
loop-list-preserved c =
    let was = c.loop-list.invariant in
    let list = c.in-Some.list in
    let ds = c.loop-list.done.items in
    let left : (f : (ℕ → ℕ)) → number_total f c.loop-list.lists.items ≡ number_total f c.pop.new.self.items + total f (numbers list.items) =
    (λ f. omega (arith, ap (number_total f) c.in-Some.ensures.items, total_append (λ v. total f (numbers v.items)) c.pop.new.self.items (list ∷ []))) in
    let ok_left : ok_total c.loop-list.lists.items ≡ ok_total c.pop.new.self.items + ok_count list.items =
    omega (arith, ap ok_total c.in-Some.ensures.items, total_append (λ v. ok_count v.items) c.pop.new.self.items (list ∷ [])) in
    let room : vec_len c.loop-list.done + vec_len list ≤ vec_capacity c.loop-list.done =
    omega (arith, was.0, left one, dones_counted ds, dones_counted list.items, c.loop-list.done.ok.0, list.ok.0) in
    let all : c.append.new.self.items ≡ ds ++ list.items = appended c.append.result ds list.items c.append.new.self.items (c.append.ensures.succeeds room) c.append.ensures.items in
    let more : (f : (ℕ → ℕ)) → total f (numbers c.append.new.self.items) ≡ total f (numbers ds) + total f (numbers list.items) =
    (λ f. ap (λ (l : List Done). total f (numbers l)) all ∙ number_total_append f ds list.items) in (
      omega (arith, was.0, left one, more one, c.append.ensures.capacity),
      (λ h. omega (arith, was.1 h, left h, more h)),
      omega (arith, was.2, ok_left, ap ok_count all, ok_count_append ds list.items),
      omega (arith, was.3, c.append.ensures.capacity),
    )
