use Rattle.std.proofs.Common.{◌≡◌, ◌≤◌, ◌<◌, ◌+◌, ◌-◌, ◌%◌, length, min, ap, arith}
use Rattle.std.proofs.lemmas.Bool.Decides.{nat_tests}
use Rattle.fs_blocks.specs.declared.sizes.TheConstants.{BLOCK}
use Rattle.fs_blocks.specs.code.Bytes.{byte_of_chunk}
use Rattle.fs_blocks.specs.Spares.{parts_of}
use Rattle.fs_blocks.proofs.PutLemmas.{Puts-piece}
use Rattle.fs_blocks.proofs.CountLemmas.{parts_of-block}
use Rattle.fs_blocks.proofs.chunk.put_all.Goals as goal

pub loop-left-preserved : goal.loop-left-preserved
loop-left-preserved c =
    let left = c.loop-left.left in
    let at = c.loop-left.at in
    let count = c.min-count.result in
    let some : 0 < length left = grind (arith, nat_tests) in
    let fits : count ≤ length left = omega arith in
    let is : count ≡ min (length left) (BLOCK - at % BLOCK) = omega arith in
    let piece = c.split_at-piece.result.0 in
    let rest = c.split_at-piece.result.1 in
    let rest_len : length rest ≡ length left - count = omega (arith, c.split_at-piece.ensures.back_len) in
    let fewer = parts_of-block at count (length left) some is in
    let same = ap (parts_of BLOCK (at + count)) rest_len in
    record {
      put = λ g h. c.loop-left.invariant.put g (Puts-piece (byte_of_chunk c.loop-left.blocks.items) (byte_of_chunk c.put_in.new.blocks.items) g BLOCK at count left piece rest fits c.split_at-piece.ensures.front c.split_at-piece.ensures.back c.put_in.ensures.bytes h);
      room = c.put_in.ensures.room;
      most = omega arith;
      buffers = omega arith;
      used = omega arith;
    }
