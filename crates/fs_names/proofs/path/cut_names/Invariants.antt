use Rattle.std.proofs.Common.{◌≡◌, ◌≤◌, ◌++◌, false, None, length, map}
use Rattle.fs_names.specs.Reading.{names, first_fault, starts_at_root}
use Rattle.fs_names.proofs.path.cut_names.Given as goal

-- the names so far, of which none is wrong, and those that are left are all
abbrev pub invariant-loop-left : goal.invariant-loop-left
invariant-loop-left l = record {
  all : map (λ text. text.now) l.cut.items ++ names l.left ≡ names l.bytes;
  right : first_fault l.limits 0 (map (λ text. text.now) l.cut.items) ≡ None;
  name : starts_at_root l.left ≡ false;
  stack : 7 ≤ l.cut.capacity;
}

abbrev pub decreases-loop-left : goal.decreases-loop-left
decreases-loop-left l = length l.left
