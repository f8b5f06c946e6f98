use Rattle.fs_names.proofs.SearchLemmas.{found_place}
use Rattle.fs_words.proofs.lines.line_end.Goals as goal

pub returns : goal.returns
returns c = found_place 10 c.args.text.now c.memchr.result c.memchr.ensures
