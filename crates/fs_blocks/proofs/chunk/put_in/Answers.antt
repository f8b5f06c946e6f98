use Rattle.std.proofs.Common.{ℕ, List, [], sym, subst, arith}
use Rattle.fs_blocks.specs.declared.sizes.TheConstants.{BLOCK}
use Rattle.fs_blocks.specs.code.Bytes.{byte_of_block, Puts}
use Rattle.fs_blocks.proofs.PartLemmas.{Puts-part}
use Rattle.fs_blocks.proofs.PutLemmas.{Puts-written}
use Rattle.fs_blocks.proofs.chunk.put_in.Goals as goal

pub returns-clause-bytes : goal.returns-clause-bytes
returns-clause-bytes c =
    let old = c.index_mut.result.now in
    let new = c.write.new.self in
    let put : Puts (byte_of_block old) (byte_of_block new) c.args.off c.args.bytes = subst (λ (x : List ℕ). Puts (byte_of_block old) (byte_of_block x) c.args.off c.args.bytes) (sym c.write.ensures.bytes) (Puts-written old c.args.off c.args.bytes) in
    Puts-part byte_of_block [] BLOCK c.args.blocks.now.items c.fill.new.blocks.items c.args.number c.args.off old new c.args.bytes (omega arith) c.requires.most c.fill.ensures.items c.index_mut.ensures.value put
