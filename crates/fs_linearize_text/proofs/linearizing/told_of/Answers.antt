use Rattle.fs_linearize_text.proofs.FrontLemmas.{told_front_or}
use Rattle.fs_linearize_text.proofs.linearizing.told_of.Goals as goal

pub returns-then-front-clause-ok : goal.returns-then-front-clause-ok
returns-then-front-clause-ok g c h is x =
    told_front_or (λ told. told.items) c.front_or.result h c.args.limit _ _ _ _ c.args.front c.args.found.now c.args.plain.items c.if-front.true c.in-NoOrder.is (c.front_or.ensures.ok h is) x
