use Rattle.std.proofs.Common.{◌≡◌, ◌+◌, ◌-◌, ◌/◌, ◌^◌, ◌<◌, ◌≤◌, ℕ, List, length, take, subst, arith, w64}
use Rattle.std.proofs.lemmas.Nat.{shr_le}
use Rattle.std.proofs.lemmas.Nat.Bits.{bit_at-trailing_zeros}
use Rattle.memchr.specs.Find.{Nowhere, Passes, is_byte}
use Rattle.fs_names.specs.code.Marks.{MarksByte}
use Rattle.fs_names.proofs.BlockLemmas.{to_end, block_tells, shifted_tells, none_marked, first_marked, found_later}
use Rattle.fs_names.proofs.blocks.place_by_blocks.Goals as goal

pub returns-then-marks-ne0 : goal.returns-then-marks-ne0
returns-then-marks-ne0 c =
    let text = c.args.text.now in
    let from = c.loop-from.from in
    let marks = c.marks_of-marks.result in
    let room : from + 16 ≤ length text = omega (arith, c.loop-from-test.true, c.requires.long) in
    let says = subst (λ (rest : List ℕ). MarksByte c.args.byte (take 16 rest) marks) (to_end from text) c.marks_of-marks.ensures in
    let low = bit_at-trailing_zeros w64 marks (omega (arith, c.if-marks-ne0.true)) c.marks_of-marks.type_inv in
    first_marked c.args.byte c.args.start from 16 _ marks text c.loop-from.invariant.low (block_tells c.args.byte from marks text room says) low.1 low.2 c.loop-from.invariant.none

pub returns-then-from-start-ge-LONG : goal.returns-then-from-start-ge-LONG
returns-then-from-start-ge-LONG c =
    let text = c.args.text.now in
    let from = c.loop-from.from in
    let marks = c.marks_of-marks.result in
    let room : from + 16 ≤ length text = omega (arith, c.loop-from-test.true, c.requires.long) in
    let says = subst (λ (rest : List ℕ). MarksByte c.args.byte (take 16 rest) marks) (to_end from text) c.marks_of-marks.ensures in
    let none = none_marked c.args.byte c.args.start from 16 marks text (block_tells c.args.byte from marks text room says) c.if-marks-ne0.false c.loop-from.invariant.none in
    found_later (Passes (is_byte c.args.byte) text) c.args.start (from + 16) (length text) c.place_afar.result (omega (arith, c.loop-from.invariant.low)) none c.place_afar.ensures

pub loop-from-preserved : goal.loop-from-preserved
loop-from-preserved c =
    let text = c.args.text.now in
    let from = c.loop-from.from in
    let marks = c.marks_of-marks.result in
    let room : from + 16 ≤ length text = omega (arith, c.loop-from-test.true, c.requires.long) in
    let says = subst (λ (rest : List ℕ). MarksByte c.args.byte (take 16 rest) marks) (to_end from text) c.marks_of-marks.ensures in
    record {
      low = omega (arith, c.loop-from.invariant.low);
      within = room;
      none = none_marked c.args.byte c.args.start from 16 marks text (block_tells c.args.byte from marks text room says) c.if-marks-ne0.false c.loop-from.invariant.none;
    }

pub returns-then-rest-eq0 : goal.returns-then-rest-eq0
returns-then-rest-eq0 c =
    let text = c.args.text.now in
    let from = c.loop-from.from in
    let last : ℕ = length text - 16 in
    let marks = c.marks_of.result in
    let says = subst (λ (rest : List ℕ). MarksByte c.args.byte (take 16 rest) marks) (to_end last text) c.marks_of.ensures in
    let tells = shifted_tells c.args.byte last from marks text (omega (arith, c.loop-from-test.false)) (omega (arith, c.requires.long, c.loop-from.invariant.within)) (block_tells c.args.byte last marks text (omega (arith, c.requires.long)) says) in
    let end : from + (16 - (from - last)) ≡ length text = omega (arith, c.requires.long, c.loop-from-test.false, c.loop-from.invariant.within) in
    subst (λ (n : ℕ). Nowhere (Passes (is_byte c.args.byte) text) c.args.start n) end (none_marked c.args.byte c.args.start from _ _ text tells c.if-rest-eq0.true c.loop-from.invariant.none)

pub returns : goal.returns
returns c =
    let text = c.args.text.now in
    let from = c.loop-from.from in
    let last : ℕ = length text - 16 in
    let marks = c.marks_of.result in
    let rest : ℕ = marks / 2 ^ (from - last) in
    let says = subst (λ (rest : List ℕ). MarksByte c.args.byte (take 16 rest) marks) (to_end last text) c.marks_of.ensures in
    let tells = shifted_tells c.args.byte last from marks text (omega (arith, c.loop-from-test.false)) (omega (arith, c.requires.long, c.loop-from.invariant.within)) (block_tells c.args.byte last marks text (omega (arith, c.requires.long)) says) in
    let below : rest < 2 ^ 64 = omega (arith, shr_le marks (from - last), c.marks_of.type_inv) in
    let low = bit_at-trailing_zeros w64 rest (omega (arith, c.if-rest-eq0.false)) below in
    first_marked c.args.byte c.args.start from _ _ rest text c.loop-from.invariant.low tells low.1 low.2 c.loop-from.invariant.none
