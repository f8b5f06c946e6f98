use Rattle.std.proofs.Common.{List, ℕ, length, ap}
use Rattle.fs_blocks.proofs.FileLemmas.{bytes_from-first}
use Rattle.fs_blocks.proofs.long.Long.of.Goals as goal

pub returns : goal.returns
returns c =
    bytes_from-first c.args.first c.new.result.items (length c.as_slice-len.result.now) (ap (λ (xs : List ℕ). length xs) c.as_slice-len.ensures.bytes) c.as_slice-len.ensures.most
