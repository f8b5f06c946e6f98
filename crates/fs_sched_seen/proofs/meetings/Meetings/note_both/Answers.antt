use Rattle.std.proofs.Common.{◌≡◌, Some, sym, ap, ◌∙◌, ◌||◌}
use Rattle.std.proofs.lemmas.Result.{on_ok_weaker}
use Rattle.fs_sched_seen.specs.code.Meetings.{has_met, pending_on}
use Rattle.fs_sched_seen.specs.declared.places.Place.{Place}
use Rattle.fs_sched_seen.proofs.MeetLemmas.{both_is}
use Rattle.fs_sched_seen.proofs.meetings.Meetings.note_both.Goals as goal

pub returns-in-Some-Some-clause-met : goal.returns-in-Some-Some-clause-met
returns-in-Some-Some-clause-met c = λ es heard.
    let first : pending_on es c.args.first ≡ Some c.in-Some-Some.first = sym (c.pending_on.ensures es heard) ∙ c.in-Some-Some.is-0 in
    let second : pending_on es c.args.second ≡ Some c.in-Some-Some.second = sym (c.pending_on-2.ensures es heard) ∙ c.in-Some-Some.is-1 in
    on_ok_weaker c.insert.result
    (λ met (p : Place) (q : Place). met p q ∙ ap (λ b. has_met c.args.self.now p q || b) (both_is es c.args.first c.args.second c.in-Some-Some.first c.in-Some-Some.second p q c.if-first-second.false first second)) c.insert.ensures.met
