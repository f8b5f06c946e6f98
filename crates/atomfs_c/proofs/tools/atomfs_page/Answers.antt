use Rattle.std.proofs.Common.{rules, ◌≡◌, ℕ, Bool, List, Option, Some, IsSomeAnd, sym, subst}
use Rattle.fs_sched.specs.declared.schedule.Schedule.{Schedule}
use Rattle.fs_draw_page.specs.Pages.{IsPageOf}
use Rattle.fs_embed.specs.Numbered.{schedule_of}
use Rattle.fs_embed.specs.Told.{Tells}
use Rattle.atomfs_c.proofs.tools.atomfs_page.Goals as goal

pub returns-in-Ok-clause-played : goal.returns-in-Ok-clause-played
returns-in-Ok-clause-played c below =
    let is : schedule_of c.args.schedule c.args.seed ≡ Some c.in-Some.by = search rules in
    subst (λ (o : Option Schedule). IsSomeAnd o (λ by. (w : Bool) × (x : List ℕ) × IsPageOf by c.args.text.now w x × Tells c.tell.result x c.tell.new.count c.args.out.now c.tell.new.out)) (sym is)
    (c.in-Ok.made.end, c.in-Ok.made.text.items, c.in-Ok.ensures.page, (rw c.as_slice.ensures.value at c.tell.ensures.tells))
