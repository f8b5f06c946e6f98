use Rattle.std.proofs.Common.{sym, ◌∙◌, ap, length}
use Rattle.fs_share_observe.specs.declared.history.Noted.TheVariants.{Began}
use Rattle.fs_share_observe.proofs.Adding.{adds_moves}
use Rattle.fs_share_observe.proofs.history.History.begin.Goals as goal

pub compare_exchange-found-requires : goal.compare_exchange-found-requires
compare_exchange-found-requires g c =
    let h = c.args.self.now.head_is in
    let offer = c.plain-offer.ensures in
    let pen = c.no_pen-pen.ensures in
    let book = c.requires.book ∙ sym (ap (λ w. w.book) h) in (
      ap (λ w. w.tracked) h,
      book,
      pen.0 ∙ book,
      offer.0,
      rw (ap (λ w. w.key) h, pen.1, offer.1, offer.3) (adds_moves c.args.token.log (Began c.args.tree.now) 0 (ap length c.requires.empty)),
    )
