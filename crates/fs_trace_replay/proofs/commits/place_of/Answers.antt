use Rattle.std.proofs.Common.{◌≡◌}
use Rattle.fs_trace_replay.proofs.CommitLemmas.{at_place, not_at_all, not_more}
use Rattle.fs_trace_replay.proofs.commits.place_of.Goals as goal

pub loop-index-preserved : goal.loop-index-preserved
loop-index-preserved c = not_more c.args.numbers.now c.loop-index.index c.args.number c.index-numbers-index.result c.loop-index-test.true c.index-numbers-index.is c.loop-index.invariant (λ same. c.if-get.false (cc))

pub returns-then-get : goal.returns-then-get
returns-then-get c =
    let same : c.index-numbers-index.result ≡ c.args.number = cc in
    at_place c.args.numbers.now c.loop-index.index c.args.number c.index-numbers-index.result c.loop-index-test.true c.index-numbers-index.is same

pub returns : goal.returns
returns c = not_at_all c.args.numbers.now c.loop-index.index c.args.number c.loop-index-test.false c.loop-index.invariant
