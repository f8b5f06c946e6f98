use Rattle.fs_sched.proofs.DrawLemmas.{upcoming_from}
use Rattle.fs_sched.proofs.seats.SeatsAhead.new.Goals as goal

pub returns : goal.returns
returns c = record {
  seats = upcoming_from c.args.threads _ _ c.new-threads.ensures c.new-draws.result c.new-draws.ensures c.seat-ahead.ensures.seats;
  threads = c.new-threads.ensures;
}
