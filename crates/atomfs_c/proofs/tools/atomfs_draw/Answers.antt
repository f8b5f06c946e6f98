use Rattle.std.proofs.Common.{rules, ◌≡◌, ℕ, Bool, List, Option, Some, IsSomeAnd, sym, subst}
use Rattle.fs_sched.specs.declared.schedule.Schedule.{Schedule}
use Rattle.fs_draw.specs.Pictures.{IsPictureOf}
use Rattle.fs_embed.specs.Numbered.{schedule_of}
use Rattle.fs_embed.specs.Told.{Tells}
use Rattle.atomfs_c.proofs.tools.atomfs_draw.Goals as goal

pub returns-in-Ok-clause-drawn : goal.returns-in-Ok-clause-drawn
returns-in-Ok-clause-drawn c below =
    let is : schedule_of c.args.schedule c.args.seed ≡ Some c.in-Some.by = search rules in
    let (well, drawn) = c.in-Ok.ensures.drawn in
    subst (λ (o : Option Schedule). IsSomeAnd o (λ by. (w : Bool) × (x : List ℕ) × IsPictureOf by c.args.text.now w x × Tells c.tell.result x c.tell.new.count c.args.out.now c.tell.new.out)) (sym is)
    (well, c.in-Ok.picture.items, drawn, (rw c.as_slice.ensures.value at c.tell.ensures.tells))
