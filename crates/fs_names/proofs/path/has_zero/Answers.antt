use Rattle.std.proofs.Common.{◌∙◌}
use Rattle.fs_names.proofs.SearchLemmas.{found_any}
use Rattle.fs_names.proofs.path.has_zero.Goals as goal

pub returns : goal.returns
returns c = c.is_some.ensures ∙ found_any 0 c.args.bytes.now c.memchr.result c.memchr.ensures
