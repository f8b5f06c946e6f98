use Rattle.std.proofs.Common.{◌≡◌, Bool, true, false, None, sym, subst, ◌∙◌}
use Rattle.std.specs.Prelude.{IfOk, IfErr}
use Rattle.fs_draw.specs.Faults.{IsFaultBy}
use Rattle.fs_verdict.specs.Checks.{is_journal}
use Rattle.fs_draw_page.specs.Pages.{IsPlayedAs}
use Rattle.fs_draw_page.proofs.running.played_in.Goals as goal

pub returns-then-is_journal-clause-played : goal.returns-then-is_journal-clause-played
returns-then-is_journal-clause-played c =
    let is : is_journal c.args.text.now ≡ true = sym c.is_journal.ensures ∙ c.if-is_journal.true in
    subst (λ (b : Bool). IfOk c.journal_text.result (λ made. IsPlayedAs b c.args.schedule c.args.text.now made.end made.text.items)) (sym is) c.journal_text.ensures.played

pub returns-then-is_journal-clause-fault : goal.returns-then-is_journal-clause-fault
returns-then-is_journal-clause-fault c =
    let is : is_journal c.args.text.now ≡ true = sym c.is_journal.ensures ∙ c.if-is_journal.true in
    subst (λ (b : Bool). IfErr c.journal_text.result (IsFaultBy b c.args.schedule None c.args.text.now)) (sym is) (c.journal_text.ensures.fault c.args.schedule)

pub returns-else-is_journal-clause-played : goal.returns-else-is_journal-clause-played
returns-else-is_journal-clause-played c =
    let is : is_journal c.args.text.now ≡ false = sym c.is_journal.ensures ∙ c.if-is_journal.false in
    subst (λ (b : Bool). IfOk c.run_in.result (λ made. IsPlayedAs b c.args.schedule c.args.text.now made.end made.text.items)) (sym is) c.run_in.ensures.played

pub returns-else-is_journal-clause-fault : goal.returns-else-is_journal-clause-fault
returns-else-is_journal-clause-fault c =
    let is : is_journal c.args.text.now ≡ false = sym c.is_journal.ensures ∙ c.if-is_journal.false in
    subst (λ (b : Bool). IfErr c.run_in.result (IsFaultBy b c.args.schedule None c.args.text.now)) (sym is) c.run_in.ensures.fault
