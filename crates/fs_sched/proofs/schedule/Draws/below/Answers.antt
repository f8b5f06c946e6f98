use Rattle.std.proofs.Common.{ap, ◌∙◌, ◌%◌, ℕ}
use Rattle.rand_pcg.specs.Lcg.{Lcg}
use Rattle.rand_pcg.specs.Pcg.{pcg32}
use Rattle.fs_sched.proofs.schedule.Draws.below.Goals as goal

pub returns-clause-drawn : goal.returns-clause-drawn
returns-clause-drawn c =
    let same = c.next_word.ensures ∙ ap pcg32 c.self.view_is in
    c.rest.ensures.rest ∙ ap (λ (w : ℕ). w % c.args.number.now) (ap (λ (p : ℕ × Lcg). p.0) same)

pub returns-clause-next : goal.returns-clause-next
returns-clause-next c = ap (λ (p : ℕ × Lcg). p.1) (c.next_word.ensures ∙ ap pcg32 c.self.view_is)
