use Rattle.std.proofs.Common.{◌≡◌, Bool, true, false, sym, subst, ◌∙◌}
use Rattle.std.specs.Prelude.{IfOk, IfErr}
use Rattle.fs_draw.specs.Faults.{IsFaultBy}
use Rattle.fs_verdict.specs.Checks.{is_journal}
use Rattle.fs_draw.specs.Pictures.{IsOf}
use Rattle.fs_draw.proofs.running.drawing_of.Goals as goal

pub returns-then-is_journal-clause-drawn : goal.returns-then-is_journal-clause-drawn
returns-then-is_journal-clause-drawn c =
    let is : is_journal c.args.text.now ≡ true = sym c.is_journal.ensures ∙ c.if-is_journal.true in
    subst (λ (b : Bool). IfOk c.of_journal.result (λ drawing. IsOf b c.args.schedule c.args.text.now drawing.well)) (sym is) c.of_journal.ensures.drawn

pub returns-then-is_journal-clause-fault : goal.returns-then-is_journal-clause-fault
returns-then-is_journal-clause-fault c =
    let is : is_journal c.args.text.now ≡ true = sym c.is_journal.ensures ∙ c.if-is_journal.true in
    subst (λ (b : Bool). IfErr c.of_journal.result (IsFaultBy b c.args.schedule c.args.call c.args.text.now)) (sym is) (c.of_journal.ensures.fault c.args.schedule)

pub returns-else-is_journal-clause-drawn : goal.returns-else-is_journal-clause-drawn
returns-else-is_journal-clause-drawn c =
    let is : is_journal c.args.text.now ≡ false = sym c.is_journal.ensures ∙ c.if-is_journal.false in
    subst (λ (b : Bool). IfOk c.of_script.result (λ drawing. IsOf b c.args.schedule c.args.text.now drawing.well)) (sym is) c.of_script.ensures.drawn

pub returns-else-is_journal-clause-fault : goal.returns-else-is_journal-clause-fault
returns-else-is_journal-clause-fault c =
    let is : is_journal c.args.text.now ≡ false = sym c.is_journal.ensures ∙ c.if-is_journal.false in
    subst (λ (b : Bool). IfErr c.of_script.result (IsFaultBy b c.args.schedule c.args.call c.args.text.now)) (sym is) c.of_script.ensures.fault
