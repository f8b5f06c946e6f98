use Rattle.fs_names.proofs.SearchLemmas.{found_place}
use Rattle.fs_sched_find.proofs.reading.hash_in.Goals as goal

pub returns : goal.returns
returns c = found_place 35 c.args.word.now c.memchr.result c.memchr.ensures
