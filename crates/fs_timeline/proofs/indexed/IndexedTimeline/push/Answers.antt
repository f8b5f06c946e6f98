use Rattle.std.proofs.Common.{◌≤◌, ◌<◌, ◌-◌, ℕ, length, arith, ap}
use Rattle.fs_timeline.proofs.IndexLemmas.{index_begun, index_pushed, index_returned, commit_within, fits_begin}
use Rattle.fs_timeline.proofs.indexed.IndexedTimeline.push.Goals as goal

pub overflow_sub-at : goal.overflow_sub-at
overflow_sub-at c = rw c.get.ensures (commit_within c.self.inside.timeline.entries _ _ _ c.args.entry c.in-Commit.call c.self.invariant.4 (rw (← c.self.view_is) at c.requires.fits) c.in-Commit.is).0

pub index_mut-requires : goal.index_mut-requires
index_mut-requires c =
    let l : (1 ≤ c.in-Commit.call) × (c.in-Commit.call ≤ length c.self.inside.begun.items) × (c.in-Commit.call ≤ length c.self.inside.places.items) =
    commit_within c.self.inside.timeline.entries _ _ _ c.args.entry c.in-Commit.call c.self.invariant.4 (rw (← c.self.view_is) at c.requires.fits) c.in-Commit.is in
    omega (arith, c.get.ensures, l.0, l.2)

pub index-requires : goal.index-requires
index-requires c =
    let l : (1 ≤ c.in-Commit.call) × (c.in-Commit.call ≤ length c.self.inside.begun.items) × (c.in-Commit.call ≤ length c.self.inside.places.items) =
    commit_within c.self.inside.timeline.entries _ _ _ c.args.entry c.in-Commit.call c.self.invariant.4 (rw (← c.self.view_is) at c.requires.fits) c.in-Commit.is in
    omega (arith, c.get.ensures, l.0, l.1)

pub invariant_of-self : goal.invariant_of-self
invariant_of-self c =
    let p : 0 < c.self.inside.timeline.reserved = rw (← c.self.view_is) at c.requires.place in (
      rw c.push.ensures (ap (λ (n : ℕ). n - 1) c.self.invariant.0),
      omega (arith, p, c.self.invariant.0, c.self.invariant.1, c.push_reserved.ensures.len, c.push_reserved.ensures.capacity),
      omega (arith, p, c.self.invariant.0, c.self.invariant.2, c.push_reserved-in-Begin.ensures.len, c.push_reserved-in-Begin.ensures.capacity),
      omega (arith, c.self.invariant.3),
      rw (c.push.ensures, c.push_reserved.ensures.items, c.push_reserved-in-Begin.ensures.items)
          (index_begun c.self.inside.timeline.entries _ _ _ c.in-Begin.number c.in-Begin.seat c.in-Begin.call _ c.self.invariant.4 (fits_begin c.self.inside.timeline.entries c.args.entry _ _ _ (rw (← c.self.view_is) at c.requires.fits) c.in-Begin.is) (ap length c.entries.ensures)),
    )

pub invariant_of-self-in-Commit : goal.invariant_of-self-in-Commit
invariant_of-self-in-Commit c =
    let p : 0 < c.self.inside.timeline.reserved = rw (← c.self.view_is) at c.requires.place in (
      rw c.push-in-Commit.ensures (ap (λ (n : ℕ). n - 1) c.self.invariant.0),
      omega (arith, c.self.invariant.1),
      omega (arith, c.self.invariant.2),
      omega (arith, p, c.self.invariant.0, c.self.invariant.3, c.push_reserved-in-Commit.ensures.len, c.push_reserved-in-Commit.ensures.capacity),
      rw (c.push-in-Commit.ensures, c.push_reserved-in-Commit.ensures.items, c.set.ensures)
          (index_pushed c.self.inside.timeline.entries _ _ _ c.args.entry c.in-Commit.call c.get.result c.index.result.now c.len.result c.self.invariant.4 (rw (← c.self.view_is) at c.requires.fits) c.in-Commit.is c.get.ensures c.index.ensures (omega (arith, c.len.ensures))),
    )

pub invariant_of-self-in-Return : goal.invariant_of-self-in-Return
invariant_of-self-in-Return c = (
  rw c.push-in-Return.ensures (ap (λ (n : ℕ). n - 1) c.self.invariant.0),
  omega (arith, c.self.invariant.1),
  omega (arith, c.self.invariant.2),
  omega (arith, c.self.invariant.3),
  rw c.push-in-Return.ensures (index_returned _ _ _ _ _ _ c.self.invariant.4),
)
