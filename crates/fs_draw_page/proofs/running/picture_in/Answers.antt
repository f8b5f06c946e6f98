use Rattle.std.proofs.Common.{ℕ, List, subst}
use Rattle.fs_draw.specs.Pictures.{IsPictureOf}
use Rattle.fs_draw_page.proofs.running.picture_in.Goals as goal

pub returns-in-Ok : goal.returns-in-Ok
returns-in-Ok c = (c.in-Ok.made.end, subst (λ (t : List ℕ). IsPictureOf c.args.schedule t c.in-Ok.made.end c.in-Ok.made.text.items) c.in_ok-input.ensures.items c.in-Ok.ensures.picture)
