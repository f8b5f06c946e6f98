use Rattle.std.proofs.Common.{[], arith}
use Rattle.fs_blocks.specs.declared.sizes.TheConstants.{SPAN}
use Rattle.fs_blocks.specs.code.Bytes.{byte_of_chunk}
use Rattle.fs_blocks.proofs.PartLemmas.{Puts-part}
use Rattle.fs_blocks.proofs.long.put_in.Goals as goal

pub returns-clause-bytes : goal.returns-clause-bytes
returns-clause-bytes c =
    Puts-part byte_of_chunk [] SPAN c.args.chunks.now.items c.fill.new.chunks.items c.args.number c.args.off c.index_mut.result.now c.write.new.self c.args.bytes (omega arith) c.requires.most c.fill.ensures.items c.index_mut.ensures.value c.write.ensures.bytes
