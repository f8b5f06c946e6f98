use Rattle.std.proofs.Common.{◌-◌, arith}
use Rattle.fs_linearize_configurations.proofs.WayLemmas.{goes_back_none, goes_back_commit, goes_back_pass}
use Rattle.fs_linearize_configurations.proofs.ways.last_step.Goals as goal

pub returns-in-Some-clause-some : goal.returns-in-Some-clause-some
returns-in-Some-clause-some c = λ ss k. goes_back_commit c.args.links.now c.args.at c.args.last c.in-Some.link c.in-Some.ensures.some ss k

pub returns-then-at-eq0-clause-none : goal.returns-then-at-eq0-clause-none
returns-then-at-eq0-clause-none c = λ ss k. goes_back_none c.args.links.now c.args.at c.args.last c.if-at-eq0.true c.in_default.ensures.none ss k

pub returns-clause-some : goal.returns-clause-some
returns-clause-some c = λ ss k. goes_back_pass c.args.links.now c.args.at c.args.last (c.args.at - 1) (omega arith) c.in_default.ensures.none ss k
