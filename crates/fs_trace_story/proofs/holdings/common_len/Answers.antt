use Rattle.std.proofs.Common.{arith}
use Rattle.fs_names.proofs.ParentLemmas.{common_length}
use Rattle.fs_trace_story.proofs.holdings.common_len.Goals as goal

pub returns : goal.returns
returns c = omega (arith, common_length c.args.path.now c.args.other.now)
