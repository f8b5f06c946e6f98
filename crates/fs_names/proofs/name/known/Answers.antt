use Rattle.std.proofs.Common.{arith}
use Rattle.fs_names.proofs.ReadingLemmas.{bytes_each}
use Rattle.fs_names.proofs.name.known.Goals as goal

pub returns : goal.returns
returns c = record { test = c.requires; bytes = bytes_each c.args.bytes.now (λ i. omega (arith, c.type_inv.bytes i)) }
