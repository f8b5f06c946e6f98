use Rattle.std.proofs.Common.{◌≡◌, ◌∙◌, ap, map, sum_by, sym, subst, vec_len, List}
use Rattle.std.proofs.lemmas.Result.{IfOk-weaker}
use Rattle.fs_timeline.specs.Timeline.{IsLawful}
use Rattle.fs_timeline.specs.declared.entry.Entry.{Entry}
use Rattle.fs_linearizable.specs.Linearizable.{history, IsLinearizable}
use Rattle.fs_sched.specs.Runs.{calls_in}
use Rattle.fs_sched.specs.RunTexts.{number_of}
use Rattle.fs_sched.specs.declared.run_texts.EntryKind.TheVariants as kind
use Rattle.fs_share.specs.Played.{ArePlayed}
use Rattle.fs_sched_threads.specs.Lines.{text_of, IsWrittenOf}
use Rattle.fs_sched_threads.proofs.LineLemmas.{number_is, calls_are, written}
use Rattle.fs_sched_threads.proofs.running.text_of_lists.Goals as goal

pub returns-in-Ok-clause-written : goal.returns-in-Ok-clause-written
returns-in-Ok-clause-written g c =
    let lists = c.args.lists.now in
    let start = c.in-Ok.closed.start in
    let counted : sum_by vec_len lists ≡ calls_in (map (λ v. v.items) lists) = calls_are (λ v. v.items) vec_len (λ v. v.ok.0) lists in
    let number = ap (number_of kind.Return) c.entries.ensures ∙ number_is c.in-Ok.closed.timeline.entries ∙ c.in-Ok.ensures.returns ∙ counted in
    let lawful = subst (λ (es : List Entry). IsLawful start es) (sym c.entries.ensures) c.in-Ok.ensures.lawful in
    let linearizable = subst (λ (es : List Entry). IsLinearizable start (history es)) (sym c.entries.ensures) c.in-Ok.ensures.linearizable in
    let played = subst (λ (es : List Entry). ArePlayed (map (λ v. v.items) lists) es) (sym c.entries.ensures) c.in-Ok.ensures.played in
    IfOk-weaker c.text_of_entries.result
    (λ made. made.text.items ≡ text_of c.args.journal start c.entries.result.now)
    (λ made. IsWrittenOf c.args.journal c.args.limits (map (λ v. v.items) lists) made.text.items)
    (λ made is. written c.args.journal c.args.limits start (map (λ v. v.items) lists) c.entries.result.now made.text.items c.in-Ok.ensures.start lawful linearizable played number is)
    c.text_of_entries.ensures.text
