use Rattle.std.proofs.Common.{ap, refl}
use Rattle.std.specs.BTreeMap.{is_at}
use Rattle.std.specs.Map.{lookup}
use Rattle.std.specs.Ordering.{nat_cmp}
use Rattle.fs_journal.specs.code.Calls.{call_in, due_in, is_back}
use Rattle.fs_journal.proofs.checker.Checker.new.Goals as goal

pub returns : goal.returns
returns c =
    let none = c.new.ensures in
    record {
      calls_are = λ q. ap (λ f. call_in (f q)) none;
      replies_are = λ q. ap (λ f. due_in (f q)) none;
      returned_are = λ q. ap (λ f. is_back (f q)) none;
      last_are = λ s. ap (λ es. lookup (is_at (nat_cmp s)) es) c.new-2.ensures.empty;
      now_is = refl;
      begun_first = λ q h. absurd (cc);
    }
