use Rattle.std.proofs.Common.{rules, ◌≡◌, ◌+◌, ◌++◌, ◌∷◌, [], length, sym, ◌∙◌, ap, subst, arith, List}
use Rattle.fs_share_observe.specs.Pasts.{IsNoted}
use Rattle.fs_share_observe.specs.declared.history.Noted.{Noted}
use Rattle.fs_share_observe.specs.declared.history.Noted.TheVariants.{Played}
use Rattle.fs_share_observe.proofs.Adding.{adds_moves}
use Rattle.fs_share_observe.proofs.Pasts.{noted_length, noted_push, length_push}
use Rattle.fs_share_observe.proofs.history.Front.add.Goals as goal

pub compare_exchange-found-requires : goal.compare_exchange-found-requires
compare_exchange-found-requires g c =
    let h = c.args.history.now.head_is in
    let offer = c.plain-offer.ensures in
    let pen = c.no_pen-pen.ensures in
    let again = c.again-seen.ensures in
    let book = ap (λ s. s.book) again ∙ (c.self.invariant.1 ∙ sym (ap (λ w. w.book) h)) in
    let long : length c.again-seen.result.log ≡ c.self.inside.calls + 1 = ap (λ s. length s.log) again ∙ omega (arith, noted_length c.self.inside.seen.log c.self.invariant.2, c.self.invariant.0) in (
      ap (λ w. w.tracked) h,
      book,
      pen.0 ∙ book,
      offer.0,
      rw (ap (λ w. w.key) h, pen.1, offer.1, offer.3) (adds_moves c.again-seen.result.log (Played c.args.call.now) (c.self.inside.calls + 1) long),
    )

pub invariant_of-result : goal.invariant_of-result
invariant_of-result g c =
    let xs = c.self.inside.seen.log in
    let ys = c.compare_exchange-found.new.seen.log in
    let next : ys ≡ xs ++ Played c.args.call.now ∷ [] = search rules in (
      omega (arith, c.self.invariant.0, length_push xs ys c.args.call.now next),
      c.compare_exchange-found.ensures.0 ∙ ap (λ s. s.book) c.again-seen.ensures ∙ c.self.invariant.1,
      subst (λ (l : List Noted). IsNoted l) (sym next) (noted_push xs c.args.call.now c.self.invariant.2),
    )
