use Rattle.std.proofs.Common.{◌≡◌, Bool, true, false, sym, subst, ◌∙◌}
use Rattle.std.specs.Prelude.{IfOk, IfErr}
use Rattle.fs_verdict.specs.Checks.{is_journal}
use Rattle.fs_trace_replay.specs.Replays.{IsToldBy, IsUntold}
use Rattle.fs_trace_replay.specs.code.Tellings.{value_of}
use Rattle.fs_trace_replay.proofs.told.told_by.Goals as goal

pub returns-then-is_journal-clause-told : goal.returns-then-is_journal-clause-told
returns-then-is_journal-clause-told c =
    let is : is_journal c.args.text.now ≡ true = sym c.is_journal.ensures ∙ c.if-is_journal.true in
    subst (λ (b : Bool). IfOk c.told_by_journal.result (λ told. IsToldBy b c.args.schedule c.args.text.now (value_of told))) (sym is) c.told_by_journal.ensures.told

pub returns-then-is_journal-clause-fault : goal.returns-then-is_journal-clause-fault
returns-then-is_journal-clause-fault c =
    let is : is_journal c.args.text.now ≡ true = sym c.is_journal.ensures ∙ c.if-is_journal.true in
    subst (λ (b : Bool). IfErr c.told_by_journal.result (IsUntold b c.args.schedule c.args.text.now)) (sym is) c.told_by_journal.ensures.fault

pub returns-else-is_journal-clause-told : goal.returns-else-is_journal-clause-told
returns-else-is_journal-clause-told c =
    let is : is_journal c.args.text.now ≡ false = sym c.is_journal.ensures ∙ c.if-is_journal.false in
    subst (λ (b : Bool). IfOk c.told_by_script.result (λ told. IsToldBy b c.args.schedule c.args.text.now (value_of told))) (sym is) c.told_by_script.ensures.told

pub returns-else-is_journal-clause-fault : goal.returns-else-is_journal-clause-fault
returns-else-is_journal-clause-fault c =
    let is : is_journal c.args.text.now ≡ false = sym c.is_journal.ensures ∙ c.if-is_journal.false in
    subst (λ (b : Bool). IfErr c.told_by_script.result (IsUntold b c.args.schedule c.args.text.now)) (sym is) c.told_by_script.ensures.fault
