use Rattle.std.proofs.Common.{inl, inr, refl}
use Rattle.fs_linearize_text.proofs.FrontLemmas.{some_of, none_of}
use Rattle.fs_linearize_text.proofs.linearizing.front_or.Goals as goal

pub returns-in-Some-clause-ok : goal.returns-in-Some-clause-ok
returns-in-Some-clause-ok g c h is call refuted at = inl (some_of _ _ _ c.in-Some.is (c.in_ok-told.ensures.some h is call refuted at))

pub returns-in-None-clause-ok : goal.returns-in-None-clause-ok
returns-in-None-clause-ok g c h is call refuted at = inr (none_of _ _ c.in-None.is (c.in_ok-told.ensures.none h is call refuted at), refl)
