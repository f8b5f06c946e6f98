use Rattle.std.proofs.Common.{sym, ◌∙◌}
use Rattle.fs_calls.proofs.WrittenBytes.{written_whole, overwritten}
use Rattle.fs_seq.proofs.write.overwrite.Goals as goal

pub returns-clause-ok : goal.returns-clause-ok
returns-clause-ok c =
    written_whole c.grow.new.bytes.len c.put.new.old c.grow.new.bytes.items (sym c.deref_mut.ensures.len ∙ sym c.put.auto.old)
    ∙ c.put.ensures
    ∙ overwritten c.args.old.now.items c.deref_mut.result.now c.args.off c.args.bytes.now (c.deref_mut.ensures.value ∙ c.in_ok-grow.ensures.ok)
