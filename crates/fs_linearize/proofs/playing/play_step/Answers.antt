use Rattle.std.proofs.Common.{ap, ◌∙◌, sym, subst, []}
use Rattle.fs_calls.specs.Outcomes.{next_start}
use Rattle.fs_timeline.specs.Timeline.{with_call, reply_after}
use Rattle.fs_linearize.specs.code.Tellings.{PlaysStep}
use Rattle.fs_linearize.specs.declared.telling.Played.{Played}
use Rattle.fs_linearize_configurations.specs.declared.steps.Step.{Step}
use Rattle.fs_linearize.proofs.PlayingLemmas.{plays_not_commit, plays_commit_of}
use Rattle.fs_linearize.proofs.playing.play_step.Goals as goal

pub returns-in_default : goal.returns-in_default
returns-in_default c = plays_not_commit c.args.number c.args.history.now c.args.step.now c.args.played c.in_default.not-Commits

pub returns : goal.returns
returns c =
    let d = c.in-Commits.other in
    let old = c.args.played in
    let new : Played = record { tree = c.play_call.new.tree; due = c.chosen.result } in
    let called = c.call_in.ensures in
    subst (λ (s : Step). PlaysStep c.args.number c.args.history.now s old new) (sym c.in-Commits.is)
    (plays_commit_of c.args.number d c.args.history.now old new c.in_ok-reply.reply (c.in_ok-reply.ensures.reply ∙ ap (reply_after old.tree []) called) (c.in_ok-reply.ensures.tree ∙ ap (λ o. next_start old.tree (with_call o [])) called)
    c.chosen.ensures.one c.chosen.ensures.other)
