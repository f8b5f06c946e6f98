use Rattle.std.proofs.Common.{arith}
use Rattle.fs_names.proofs.CutLemmas.{names_cut, some_before}
use Rattle.fs_names.proofs.scan.cut_name.Goals as goal

pub returns : goal.returns
returns c =
    let text = c.args.text.now in
    let cut = names_cut text c.requires.some c.requires.name in
    let some = some_before text c.requires.some c.requires.name in
    let first = c.name_len.ensures.first in
    record {
      names = cc (c.after_slashes.ensures.same, c.split_at.ensures.front, c.split_at.ensures.back);
      bytes = omega (arith, c.split_at.ensures.front_len);
      name = c.after_slashes.ensures.name;
      less = omega (arith, c.after_slashes.ensures.less, c.split_at.ensures.back_len);
    }
