use Rattle.std.proofs.Common.{◌≡◌, length, ap, ◌∙◌, rules, vec_len}
use Rattle.fs_linearize_minimal.specs.Parts.{calls_in}
use Rattle.fs_linearize_minimal.proofs.PartLemmas.{part_of_part}
use Rattle.fs_linearize_minimal.proofs.minimizing.core_of.Goals as goal

pub returns : goal.returns
returns g c =
    let left = c.cut_ones.new.entries.items in
    let many : vec_len c.in_ok-calls_in.field-0 ≡ length c.in_ok-calls_in.field-0.items = search rules in
    record {
      left = left;
      part = part_of_part left c.cut_by_halves.new.entries.items c.args.front.items c.in_ok-cut_ones.ensures.part c.in_ok-cut_by_halves.ensures.part;
      refuted = c.in_ok-cut_ones.ensures.refuted (c.in_ok-cut_by_halves.ensures.refuted c.requires.refuted);
      minimal = c.in_ok-cut_ones.ensures.minimal;
      calls_are = c.len-calls.ensures ∙ many ∙ ap length (c.in_ok-calls_in.ensures ∙ ap calls_in c.as_slice.ensures.value);
      text_is = c.in_ok-text.ensures;
    }
