use Rattle.std.proofs.Common.{◌≡◌, ◌≤◌, ◌++◌, ◌-◌, map}
use Rattle.std.specs.List.{range_with_len}
use Rattle.fs_script.specs.declared.script.Word.TheVariants.{Events}
use Rattle.fs_sched.proofs.turns.push_ends.Given as goal

abbrev pub invariant-loop-seat : goal.invariant-loop-seat
invariant-loop-seat l = record {
  least : l.first ≤ l.seat;
  words : l.words.items ≡ l.fn.words.items ++ map (λ seat. Events seat l.most) (range_with_len l.first (l.seat - l.first));
}
