use Rattle.std.proofs.Common.{◌≡◌, ◌≤◌, ◌<◌, ◌+◌, ◌-◌, ◌%◌, length, min, ap, arith}
use Rattle.std.proofs.lemmas.Bool.Decides.{nat_tests}
use Rattle.fs_blocks.specs.declared.sizes.TheConstants.{BLOCK, SPAN}
use Rattle.fs_blocks.specs.Spares.{parts_of}
use Rattle.fs_blocks.specs.code.Bytes.{byte_of_rest}
use Rattle.fs_blocks.proofs.PutLemmas.{Puts-piece}
use Rattle.fs_blocks.proofs.CountLemmas.{parts_of-span, parts_of-chunk}
use Rattle.fs_blocks.proofs.long.put_all.Goals as goal

pub loop-left-preserved : goal.loop-left-preserved
loop-left-preserved c =
    let left = c.loop-left.left in
    let at = c.loop-left.at in
    let count = c.min-count.result in
    let some : 0 < length left = grind (arith, nat_tests) in
    let fits : count ≤ length left = omega arith in
    let is : count ≡ min (length left) (SPAN - at % SPAN) = omega arith in
    let piece = c.split_at-piece.result.0 in
    let rest = c.split_at-piece.result.1 in
    let piece_len : length piece ≡ count = omega (arith, c.split_at-piece.ensures.front_len) in
    let rest_len : length rest ≡ length left - count = omega (arith, c.split_at-piece.ensures.back_len) in
    let fewer = parts_of-span at count (length left) some is in
    let same = ap (parts_of SPAN (at + count)) rest_len in
    let fewer_blocks = parts_of-chunk at count (length left) some is in
    let same_blocks = ap (parts_of BLOCK (at + count)) rest_len in
    let piece_blocks = ap (parts_of BLOCK (at % SPAN)) piece_len in
    record {
      put = λ g h. c.loop-left.invariant.put g (Puts-piece (byte_of_rest c.loop-left.chunks.items) (byte_of_rest c.put_in.new.chunks.items) g SPAN at count left piece rest fits c.split_at-piece.ensures.front c.split_at-piece.ensures.back c.put_in.ensures.bytes h);
      list = omega arith;
      fits = omega arith;
      rooms = omega arith;
      buffers = omega arith;
    }
