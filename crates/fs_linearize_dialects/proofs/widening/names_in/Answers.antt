use Rattle.std.proofs.Common.{ℕ}
use Rattle.std.specs.Ordering.{nat_cmp}
use Rattle.std.specs.BTreeMap.{get}
use Rattle.fs_linearize_dialects.proofs.WideLemmas.{named_put}
use Rattle.fs_linearize_dialects.proofs.widening.names_in.Goals as goal

pub loop-entry-preserved : goal.loop-entry-preserved
loop-entry-preserved c = named_put c.args.history.now c.loop-entry.entry-index c.entry-item.result (λ q. get nat_cmp c.loop-entry.names q) (λ q. get nat_cmp c.take_in.new.names q) c.loop-entry-test.true c.entry-item.is c.in_ok-take_in.ensures c.loop-entry.invariant
