use Rattle.std.proofs.Common.{◌+◌, ◌%◌, ◌≤◌, ◌∙◌, arith}
use Rattle.fs_blocks.specs.declared.sizes.TheConstants.{BLOCK}
use Rattle.fs_blocks.specs.code.Bytes.{byte_of_file}
use Rattle.fs_blocks.proofs.FileLemmas.{bytes_from-piece}
use Rattle.fs_blocks.proofs.long.read_all.Goals as goal

pub loop-left-preserved : goal.loop-left-preserved
loop-left-preserved c =
    let f = byte_of_file c.args.first.now c.args.chunks.now in
    let at = c.loop-left.at in
    let left = c.loop-left.left in
    let piece = c.min-piece.result in
    let fits : piece ≤ left = omega arith in
    let most : at % BLOCK + piece ≤ BLOCK = omega arith in
    record {
      bytes = bytes_from-piece c.loop-left.into.items c.read_block.new.into.items c.block_at.result.now f at piece left fits most c.read_block.ensures.bytes c.block_at.ensures.bytes ∙ c.loop-left.invariant.bytes;
      room = omega (arith, c.read_block.ensures.len, c.read_block.ensures.room);
      end = omega arith;
    }
