use Rattle.std.proofs.Common.{◌≡◌, ◌==◌, subst, sym, ap, ◌∙◌}
use Rattle.fs_timeline.specs.declared.entry.Entry.{Entry}
use Rattle.fs_timeline.specs.declared.entry.Entry.TheVariants.{Commit}
use Rattle.fs_linearize.specs.code.Tellings.{PlaysOn}
use Rattle.fs_linearize.specs.declared.telling.Played.{Played}
use Rattle.fs_linearize.proofs.TellingLemmas.{plays_other, plays_commit}
use Rattle.fs_linearize.proofs.telling.play_entry.Goals as goal

pub returns-in_default : goal.returns-in_default
returns-in_default c = plays_other c.args.number c.args.before.now c.args.entry.now c.args.played c.in_default.not-Commit

pub returns : goal.returns
returns c =
    let d = c.get.result in
    let before = c.args.before.now in
    let number = c.args.number in
    let new : Played = record { tree = c.play.new.tree; due = c.chosen.result } in
    let again : c.get-2.result ≡ d = c.get-2.ensures ∙ sym c.get.ensures in
    let entry : c.args.entry.now ≡ Commit d = c.in-Commit.is ∙ ap Commit (sym c.get.ensures) in
    subst (λ (e : Entry). PlaysOn number before e c.args.played new) (sym entry)
    (plays_commit number d before c.args.played new c.in_ok-reply.reply c.in_ok-reply.ensures.reply c.in_ok-reply.ensures.tree
    (λ same. c.chosen.ensures.one (ap (λ n. n == number) again ∙ same))
    (λ apart. c.chosen.ensures.other (ap (λ n. n == number) again ∙ apart)))
