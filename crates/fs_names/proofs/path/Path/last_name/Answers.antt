use Rattle.std.proofs.Common.{arith}
use Rattle.fs_names.proofs.PrefixLemmas.{last_is}
use Rattle.fs_names.proofs.path.Path.last_name.Goals as goal

pub returns : goal.returns
returns c = last_is c.args.self.now _ _ (omega arith) c.name.ensures
