use Rattle.fs_laws.proofs.Leaks.{numbers_kept}
use Rattle.fs_laws.proofs.numbers.no_number_leaks.Goals as goal

pub returns : goal.returns
returns c = numbers_kept
