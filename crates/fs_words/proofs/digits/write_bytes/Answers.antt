use Rattle.std.proofs.Common.{◌≡◌, ◌%◌, ◌*◌, ◌+◌, slice_index, length, arith, ◌∙◌}
use Rattle.hex.proofs.Pairs.{decode_step, decode_done}
use Rattle.hex.proofs.HexLemmas.{decode_of-even}
use Rattle.fs_words.proofs.DigitLemmas.{pair_read}
use Rattle.fs_words.proofs.digits.write_bytes.Goals as goal

pub bytes-preserved : goal.bytes-preserved
bytes-preserved c =
    let w = c.args.word.now in
    let i = c.bytes.i in
    decode_step w _ i _ (omega arith) (omega arith) (pair_read (slice_index w (2 * i)) (slice_index w (2 * i + 1)) (2 * i) _ _ c.value_of.ensures.value c.value_of-in-bytes.ensures.value) c.bytes.invariant

pub returns : goal.returns
returns c =
    let even : length c.args.word.now % 2 ≡ 0 = omega arith in
    decode_of-even _ even ∙ decode_done _ c.bytes.bytes c.bytes.i (omega arith) (omega arith) c.bytes.invariant
