use Rattle.std.proofs.Common.{take}
use Rattle.std.proofs.lemmas.List.{length-take-le}
use Rattle.fs_names.proofs.BlockLemmas.{byte_marks}
use Rattle.fs_names.proofs.blocks.marks_of.Goals as goal

pub returns : goal.returns
returns c = byte_marks c.args.byte (take 16 c.args.text.now) (length-take-le 16 c.args.text.now c.requires)
