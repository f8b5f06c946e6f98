use Rattle.std.proofs.Common.{◌∙◌, ap, sym, refl, subst}
use Rattle.fs_share_observe.specs.declared.shown.Shown.{Shown}
use Rattle.fs_share_observe.specs.Playing.{IsPlayed}
use Rattle.fs_share_observe.proofs.Keeping.{publishes}
use Rattle.fs_share_observe.proofs.publisher.show.Goals as goal

pub publish_as-requires : goal.publish_as-requires
publish_as-requires g c next is =
    publishes _ _ c.args.writer.desk.shown.value next next.token refl
    (subst (λ (s : Shown). IsPlayed s) (sym is) c.requires.played)
    (ap (λ (s : Shown). s.token.book) is ∙ c.requires.book)
