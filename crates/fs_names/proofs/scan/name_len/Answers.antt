use Rattle.std.proofs.Common.{Some, None, arith}
use Rattle.fs_names.proofs.CutLemmas.{slash_within}
use Rattle.fs_names.proofs.SearchLemmas.{found_len}
use Rattle.fs_names.proofs.scan.name_len.Goals as goal

pub returns-in-Some : goal.returns-in-Some
returns-in-Some c =
    let first = found_len 47 c.args.text.now (Some c.in-Some.at) c.in-Some.ensures in
    record { first = first; within = omega (arith, first, slash_within c.args.text.now) }

pub returns-in-None : goal.returns-in-None
returns-in-None c =
    let first = found_len 47 c.args.text.now None c.in-None.ensures in
    record { first = first; within = omega (arith, first, slash_within c.args.text.now) }
