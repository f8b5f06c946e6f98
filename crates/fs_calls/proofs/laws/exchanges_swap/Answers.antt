use Rattle.fs_calls.proofs.TreeLaws.{exchanges_swap}
use Rattle.fs_calls.proofs.laws.exchanges_swap.Goals as goal

pub returns : goal.returns
returns c = exchanges_swap
