use Rattle.std.proofs.Common.{◌≡◌, length}
use Rattle.fs_linearize.proofs.PossibleLemmas.{AreSome}
use Rattle.fs_linearize.proofs.replies.possible_replies.Given as goal

abbrev pub invariant-loop-turn : goal.invariant-loop-turn
invariant-loop-turn g l = (l.entries.items ≡ l.fn.before.items) × AreSome l.start l.fn.before.items l.number l.replies.items × (length l.replies.items ≡ l._turn)
