use Rattle.std.proofs.Common.{◌≡◌, ◌∙◌, take, None}
use Rattle.fs_timeline.specs.Verdicts.{entry_fault}
use Rattle.fs_timeline.proofs.JournalStateLemmas.{known_fault-entry_fault, fault_is_verdict, verdict_goes_on, true_of_more, end_is_lawful, lawful_by_verdict}
use Rattle.fs_timeline.proofs.VerdictLemmas.{names_first_fault}
use Rattle.fs_journal.proofs.checker.check_on.Goals as goal

pub returns-in-Some-clause-verdict : goal.returns-in-Some-clause-verdict
returns-in-Some-clause-verdict c =
    let so_far = c.loop-index.invariant in
    fault_is_verdict _ _ _ _ _ c.loop-index-test.true c.index-entries-index.is so_far.the_rest (c.in-Some.ensures ∙ known_fault-entry_fault _ _ _ _ so_far.so_far)

pub returns-in-Some-clause-lawful : goal.returns-in-Some-clause-lawful
returns-in-Some-clause-lawful c = lawful_by_verdict _ _ _ (returns-in-Some-clause-verdict c)

pub returns-in-Some-clause-first_fault : goal.returns-in-Some-clause-first_fault
returns-in-Some-clause-first_fault c = names_first_fault _ _ _ (returns-in-Some-clause-verdict c)

pub loop-index-preserved : goal.loop-index-preserved
loop-index-preserved c =
    let so_far = c.loop-index.invariant in
    let none : None ≡ entry_fault c.args.start (take c.loop-index.index c.args.entries.now) c.index-entries-index.result = c.in_default.ensures ∙ known_fault-entry_fault _ _ _ _ so_far.so_far in
    record {
      so_far = rw c.in_ok-take_in.ensures (true_of_more _ _ _ _ _ c.loop-index-test.true c.index-entries-index.is so_far.so_far none);
      the_rest = verdict_goes_on _ _ _ _ c.loop-index-test.true c.index-entries-index.is so_far.the_rest none;
    }

pub returns-clause-lawful : goal.returns-clause-lawful
returns-clause-lawful c = lawful_by_verdict _ _ _ (end_is_lawful _ _ _ c.loop-index-test.false c.loop-index.invariant.the_rest)
