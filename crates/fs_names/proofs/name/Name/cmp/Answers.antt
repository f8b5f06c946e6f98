use Rattle.std.proofs.Common.{sym, arith}
use Rattle.fs_names.proofs.HeadLemmas.{head_less, head_greater, head_same, head_front}
use Rattle.fs_names.proofs.name.Name.cmp.Goals as goal

pub returns-then-len-le-WIDTH-2 : goal.returns-then-len-le-WIDTH-2
returns-then-len-le-WIDTH-2 c = head_same _ _ c.args.self.now c.args.other.now c.head-first.ensures.head c.head-other_first.ensures.head c.head-first.ensures.named c.head-other_first.ensures.named (omega (arith, c.len.ensures.len, c.if-len-le-WIDTH.true)) (omega (arith, c.len-then-len-le-WIDTH.ensures.len, c.if-len-le-WIDTH-2.true)) c.if-first-other_first.false c.if-other_first-first.false

pub cmp_behind-requires : goal.cmp_behind-requires
cmp_behind-requires c = head_front _ _ c.args.self.now c.args.other.now c.head-first.ensures.head c.head-other_first.ensures.head c.head-first.ensures.named c.head-other_first.ensures.named c.if-first-other_first.false c.if-other_first-first.false

pub returns-then-first-other_first : goal.returns-then-first-other_first
returns-then-first-other_first c = sym (head_less _ _ c.args.self.now c.args.other.now c.head-first.ensures.head c.head-other_first.ensures.head c.if-first-other_first.true)

pub returns-then-other_first-first : goal.returns-then-other_first-first
returns-then-other_first-first c = sym (head_greater _ _ c.args.self.now c.args.other.now c.head-first.ensures.head c.head-other_first.ensures.head c.if-other_first-first.true)
