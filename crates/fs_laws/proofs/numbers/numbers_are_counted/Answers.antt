use Rattle.fs_laws.proofs.Counting.{numbers_counted}
use Rattle.fs_laws.proofs.numbers.numbers_are_counted.Goals as goal

pub returns : goal.returns
returns c = numbers_counted
