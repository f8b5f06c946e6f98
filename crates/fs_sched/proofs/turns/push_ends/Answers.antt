use Rattle.std.proofs.Common.{arith}
use Rattle.fs_sched.proofs.Turning.{ends_more, no_ends, ends_all}
use Rattle.fs_sched.proofs.turns.push_ends.Goals as goal

pub loop-seat-init : goal.loop-seat-init
loop-seat-init c = record {
  least = omega arith;
  words = no_ends c.args.first c.args.most c.args.words.now.items;
}

pub loop-seat-preserved : goal.loop-seat-preserved
loop-seat-preserved c = record {
  least = omega (arith, c.loop-seat.invariant.least);
  words = ends_more c.args.first c.loop-seat.seat c.args.most c.args.words.now.items c.loop-seat.words.items c.push.new.self.items c.loop-seat.invariant.least c.loop-seat.invariant.words c.in_ok-push.ensures.items;
}

pub returns : goal.returns
returns c = ends_all c.args.first c.args.end c.loop-seat.seat c.args.most c.args.words.now.items c.loop-seat.words.items (omega (arith, c.requires, c.loop-seat-test.false, c.loop-seat.auto.seat-end)) c.loop-seat.invariant.words
