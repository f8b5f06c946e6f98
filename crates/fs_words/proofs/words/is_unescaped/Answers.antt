use Rattle.fs_words.proofs.ReadLemmas.{unescaped}
use Rattle.fs_words.proofs.words.is_unescaped.Goals as goal

pub returns : goal.returns
returns c = unescaped c.args.word.now c.place_from.result c.is_none.result c.place_from.ensures c.is_none.ensures
