use Rattle.std.proofs.Common.{List, ℕ, sym, subst}
use Rattle.fs_blocks.specs.code.Bytes.{byte_of_block, Puts}
use Rattle.fs_blocks.proofs.PutLemmas.{Puts-written}
use Rattle.fs_blocks.proofs.long.put_first.Goals as goal

pub returns-clause-bytes : goal.returns-clause-bytes
returns-clause-bytes c =
    subst (λ (xs : List ℕ). Puts (byte_of_block c.args.first.now) (byte_of_block xs) c.args.off c.args.bytes) (sym c.write.ensures.bytes) (Puts-written c.args.first.now c.args.off c.args.bytes)
