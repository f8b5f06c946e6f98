use Rattle.fs_names.proofs.Lemmas.{prefix_common}
use Rattle.fs_names.proofs.path.Path.is_prefix_of.Goals as goal

pub returns : goal.returns
returns c = rw (c.common.ensures, c.len.ensures.len) (prefix_common c.args.self.now c.args.other.now)
