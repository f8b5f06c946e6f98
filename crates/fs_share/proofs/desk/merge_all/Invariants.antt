use Rattle.std.proofs.Common.{◌≡◌, ◌+◌, ◌≤◌, length, sum_by}
use Rattle.fs_share.proofs.desk.merge_all.Given as goal

abbrev pub invariant-loop-tally : goal.invariant-loop-tally
invariant-loop-tally g l =
    (l.rest.parts ≡ l.initial.rest.parts + length l.yielded)
    × (l.rest.amount ≡ l.initial.rest.amount + sum_by (λ tally. tally.count) l.yielded)
    × (l.initial.rest.parts ≤ g.N.Ledger.parts → l.rest.parts ≤ g.N.Ledger.parts)
