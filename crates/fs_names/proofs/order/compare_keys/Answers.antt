use Rattle.fs_names.proofs.KeyOrder.{order_end}
use Rattle.fs_names.proofs.order.compare_keys.Goals as goal

pub returns : goal.returns
returns c = order_end c.args.key.now c.args.other.now c.loop-i.i c.min-i-end.result c.cmp.result c.min-i-end.ensures c.loop-i.auto.i-end c.loop-i-test.false c.cmp.ensures c.loop-i.invariant
