use Rattle.std.proofs.Common.{Some, None}
use Rattle.memchr.specs.Find.{is_byte}
use Rattle.fs_names.proofs.BlockLemmas.{to_end, found_from}
use Rattle.fs_names.proofs.blocks.place_afar.Goals as goal

pub returns-in-Some : goal.returns-in-Some
returns-in-Some c = found_from (is_byte c.args.byte) c.args.from c.args.text.now (Some c.in-Some.at) c.requires (rw (to_end c.args.from c.args.text.now) at c.in-Some.ensures)

pub returns-in-None : goal.returns-in-None
returns-in-None c = found_from (is_byte c.args.byte) c.args.from c.args.text.now None c.requires (rw (to_end c.args.from c.args.text.now) at c.in-None.ensures)
