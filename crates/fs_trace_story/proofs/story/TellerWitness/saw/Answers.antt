use Rattle.std.proofs.Common.{ℕ, ◌+◌, ◌∷◌, ◌++◌, [], refl, sym, ap, subst}
use Rattle.std.proofs.lemmas.Result.{on_ok_weaker}
use Rattle.fs_sched_witness.specs.declared.moments.Moment.{Moment}
use Rattle.fs_sched_witness.specs.declared.moments.Moment.TheVariants.{Event, Checkpoint}
use Rattle.fs_trace_story.specs.code.Waiting.{HasShown}
use Rattle.fs_trace_story.specs.declared.story.Teller.{Teller}
use Rattle.fs_trace_story.proofs.Showing.{shows_more}
use Rattle.fs_trace_story.proofs.story.TellerWitness.saw.Goals as goal

pub returns-in-Event : goal.returns-in-Event
returns-in-Event g c =
    let gone = c.in_ok-go_on-in-Event.ensures in
    let new : Teller _ = record (c.go_on.new.self) { number = c.go_on.new.self.number + 1 } in record {
      told = λ first before goes every start begins.
          subst (λ (m : Moment). HasShown g.P.Page.Has every start new (before ++ m ∷ [])) (sym c.in-Event.is)
          (shows_more g.P.Page.Has every start before (Event c.in-Event.told) c.args.self.now new (goes every start begins) gone.every (ap (λ (n : ℕ). n + 1) gone.number) gone.waits gone.page);
    }

pub returns : goal.returns
returns g c =
    let new : Teller _ = record (c.args.self.now) { voice = c.checkpoint.new.self; page = c.show_checkpoint.new.page } in record {
      told = λ first before goes.
          on_ok_weaker c.show_checkpoint.result
          (λ adds every start begins.
          subst (λ (m : Moment). HasShown g.P.Page.Has every start new (before ++ m ∷ [])) (sym c.in-Checkpoint.is)
          (shows_more g.P.Page.Has every start before (Checkpoint c.in-Checkpoint.field-0) c.args.self.now new (goes every start begins) refl refl (λ events waits. waits) (λ events waits. adds)))
          c.show_checkpoint.ensures;
    }
