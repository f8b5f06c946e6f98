use Rattle.std.proofs.Common.{◌≡◌, ℕ, ◌-◌, ◌+◌, None, get_or, length}
use Rattle.fs_trace_story.proofs.shown.Waits.make_place.Given as goal

-- what stands at each place is what stood there
abbrev pub invariant-places : goal.invariant-places
invariant-places l = (other : ℕ) → get_or l.self.last.items other None ≡ get_or l.fn.self.last.items other None

abbrev pub decreases-places : goal.decreases-places
decreases-places l = (l.seat + 1) - length l.self.last.items
