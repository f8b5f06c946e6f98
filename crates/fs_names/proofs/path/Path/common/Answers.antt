use Rattle.std.proofs.Common.{◌≡◌, ◌+◌, drop, arith, sym, ◌∙◌, add-one, suc}
use Rattle.fs_names.specs.Keys.{common_len}
use Rattle.fs_names.proofs.Lemmas.{common_more, common_past_right, common_apart}
use Rattle.fs_names.proofs.path.Path.common.Goals as goal

pub loop-i-preserved : goal.loop-i-preserved
loop-i-preserved c =
    let p = c.args.self.now in
    let q = c.args.other.now in
    let more : common_len (drop c.loop-i.i p) (drop c.loop-i.i q) ≡ common_len (drop (suc c.loop-i.i) p) (drop (suc c.loop-i.i) q) + 1
    = common_more p q c.loop-i.i _ _ c.name.ensures c.name-then-i-len.ensures (sym c.same.ensures ∙ c.if-same.true) in
    record { within = omega arith; inside = omega arith; rest = rw add-one (omega (arith, more, c.loop-i.invariant.rest)) }

pub returns-else-same : goal.returns-else-same
returns-else-same c =
    let apart = common_apart c.args.self.now c.args.other.now c.loop-i.i _ _ c.name.ensures c.name-then-i-len.ensures (sym c.same.ensures ∙ c.if-same.false) in
    omega (arith, apart, c.loop-i.invariant.rest)

pub returns-else-i-len : goal.returns-else-i-len
returns-else-i-len c =
    let past = common_past_right c.args.self.now c.args.other.now c.loop-i.i (omega arith) in
    omega (arith, past, c.loop-i.invariant.rest)
