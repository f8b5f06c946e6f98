use Rattle.std.proofs.Common.{◌<◌, length, arith}
use Rattle.fs_timeline.proofs.IndexLemmas.{Committed, committed_at, committed_within, committed_entry, committed_call}
use Rattle.fs_timeline.proofs.indexed.IndexedTimeline.committed.Goals as goal

pub bounds-entries-index : goal.bounds-entries-index
bounds-entries-index c =
    let b : Committed c.self.inside.timeline.entries c.args.i c.index.result.now = committed_at _ _ _ _ c.args.i c.index.result.now c.self.invariant.4 (rw (← c.self.view_is) at c.requires) c.index.ensures in
    rw c.entries.ensures (committed_within _ _ _ b)

pub offset_bounds-entries-index : goal.offset_bounds-entries-index
offset_bounds-entries-index c =
    let b : Committed c.self.inside.timeline.entries c.args.i c.index.result.now = committed_at _ _ _ _ c.args.i c.index.result.now c.self.invariant.4 (rw (← c.self.view_is) at c.requires) c.index.ensures in
    let w : c.index.result.now < length c.entries.result.now = rw c.entries.ensures (committed_within _ _ _ b) in
    omega (arith, w, c.entries.type_inv.1)

pub unreachable-requires : goal.unreachable-requires
unreachable-requires c =
    let b : Committed c.self.inside.timeline.entries c.args.i c.index.result.now = committed_at _ _ _ _ c.args.i c.index.result.now c.self.invariant.4 (rw (← c.self.view_is) at c.requires) c.index.ensures in
    c.in_default.not-Begin b.number b.seat b.call (committed_entry _ _ _ _ _ c.entries.ensures b c.index-entries-index.is)

pub returns : goal.returns
returns c =
    let b : Committed c.self.inside.timeline.entries c.args.i c.index.result.now = committed_at _ _ _ _ c.args.i c.index.result.now c.self.invariant.4 (rw (← c.self.view_is) at c.requires) c.index.ensures in
    rw (← c.self.view_is) (committed_call _ _ _ _ _ _ _ _ c.entries.ensures b c.index-entries-index.is c.in-Begin.is)
