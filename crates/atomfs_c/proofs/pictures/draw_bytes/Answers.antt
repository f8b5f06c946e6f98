use Rattle.std.proofs.Common.{ℕ, List, subst}
use Rattle.fs_draw.specs.Pictures.{IsPictureOf}
use Rattle.atomfs_c.proofs.pictures.draw_bytes.Goals as goal

pub returns-in-Ok-make-clause-drawn : goal.returns-in-Ok-make-clause-drawn
returns-in-Ok-make-clause-drawn c = (c.in-Ok-make.made.end, subst (λ (t : List ℕ). IsPictureOf c.args.by t c.in-Ok-make.made.end c.in-Ok-make.made.text.items) c.in-Ok.ensures.items c.in-Ok-make.ensures.picture)
