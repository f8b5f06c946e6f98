use Rattle.std.proofs.Common.{◌≤◌, arith, ◌∙◌, length, min}
use Rattle.std.proofs.lemmas.List.{take_rest}
use Rattle.fs_names.proofs.HeadLemmas.{behind_less, behind_greater, eight_more, ends}
use Rattle.fs_names.proofs.order.cmp_behind.Goals as goal

pub returns-then-own_word-others_word : goal.returns-then-own_word-others_word
returns-then-own_word-others_word c =
    let own = rw (c.bytes-bytes.ensures.bytes, take_rest c.args.name.now c.min-start.result) at c.word-own_word.ensures in
    let others = rw (c.bytes-others.ensures.bytes, take_rest c.args.other.now c.min-start.result) at c.word-others_word.ensures in
    behind_less c.min-start.result c.loop-same.same _ _ c.args.name.now c.args.other.now (omega (arith, c.min-start.ensures)) c.loop-same.invariant.same
    own others c.if-own_word-others_word.true

pub returns-then-others_word-own_word : goal.returns-then-others_word-own_word
returns-then-others_word-own_word c =
    let own = rw (c.bytes-bytes.ensures.bytes, take_rest c.args.name.now c.min-start.result) at c.word-own_word.ensures in
    let others = rw (c.bytes-others.ensures.bytes, take_rest c.args.other.now c.min-start.result) at c.word-others_word.ensures in
    behind_greater c.min-start.result c.loop-same.same _ _ c.args.name.now c.args.other.now (omega (arith, c.min-start.ensures)) c.loop-same.invariant.same
    own others c.if-others_word-own_word.true

pub loop-same-preserved : goal.loop-same-preserved
loop-same-preserved c =
    let own = rw (c.bytes-bytes.ensures.bytes, take_rest c.args.name.now c.min-start.result) at c.word-own_word.ensures in
    let others = rw (c.bytes-others.ensures.bytes, take_rest c.args.other.now c.min-start.result) at c.word-others_word.ensures in
    record {
      same = eight_more c.min-start.result c.loop-same.same _ _ c.args.name.now c.args.other.now (omega (arith, c.min-start.ensures)) c.loop-same.invariant.same
          own others c.bytes-bytes.ensures.named c.bytes-others.ensures.named c.if-own_word-others_word.false c.if-others_word-own_word.false;
      least = omega arith;
    }

pub returns : goal.returns
returns c =
    let short : min (length c.bytes-bytes.result.now) (length c.bytes-others.result.now) ≤ c.loop-same.same = omega (arith, c.min-len.ensures) in
    (rw (c.bytes-bytes.ensures.bytes, c.bytes-others.ensures.bytes) at c.cmp.ensures)
    ∙ ends c.loop-same.same c.args.name.now c.args.other.now c.loop-same.invariant.same (rw (c.bytes-bytes.ensures.bytes, c.bytes-others.ensures.bytes) at short)
