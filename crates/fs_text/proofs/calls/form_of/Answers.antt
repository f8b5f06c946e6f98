use Rattle.std.proofs.Common.{codes, ap, arith}
use Rattle.fs_text.specs.Calls.{form_of}
use Rattle.fs_text.proofs.SpellLemmas.{spelled}
use Rattle.fs_text.proofs.calls.form_of.Goals as goal

pub returns-in-unlink : goal.returns-in-unlink
returns-in-unlink c =
    ap (form_of c.args.limits) (spelled c.args.word.now (codes "unlink") (omega arith) (omega arith, (omega arith, (omega arith, (omega arith, (omega arith, (omega arith, tt)))))))

pub returns-in-rename : goal.returns-in-rename
returns-in-rename c =
    ap (form_of c.args.limits) (spelled c.args.word.now (codes "rename") (omega arith) (omega arith, (omega arith, (omega arith, (omega arith, (omega arith, (omega arith, tt)))))))

pub returns-in-exchange : goal.returns-in-exchange
returns-in-exchange c =
    ap (form_of c.args.limits) (spelled c.args.word.now (codes "exchange") (omega arith) (omega arith, (omega arith, (omega arith, (omega arith, (omega arith, (omega arith, (omega arith, (omega arith, tt)))))))))

pub returns-in-readdir : goal.returns-in-readdir
returns-in-readdir c =
    ap (form_of c.args.limits) (spelled c.args.word.now (codes "readdir") (omega arith) (omega arith, (omega arith, (omega arith, (omega arith, (omega arith, (omega arith, (omega arith, tt))))))))

pub returns-in-truncate : goal.returns-in-truncate
returns-in-truncate c =
    ap (form_of c.args.limits) (spelled c.args.word.now (codes "truncate") (omega arith) (omega arith, (omega arith, (omega arith, (omega arith, (omega arith, (omega arith, (omega arith, (omega arith, tt)))))))))
