use Rattle.std.proofs.Common.{rules, ◌≡◌, ◌<◌, ◌∙◌, ap, sym, Some, slice_get, length, arith}
use Rattle.fs_timeline.specs.Timeline.{commits}
use Rattle.fs_timeline.specs.declared.entry.Entry.TheVariants.{Return}
use Rattle.fs_share.proofs.Placing.{is_told_by}
use Rattle.fs_share.proofs.told.told_place.Goals as goal

pub returns : goal.returns
returns c =
    let es = c.args.core.now.timeline in
    let returned : slice_get es c.in_ok-_at._at ≡ Some (Return c.args.number c.args.reply.now) = ap (λ l. slice_get l c.in_ok-_at._at) (sym c.timeline.ensures) ∙ c.in_ok-_at.ensures in
    let same : c.committed.result.now ≡ c.args.call.now = search rules in
    let stands : slice_get (commits es) c.in_ok-place.place ≡ Some c.args.call.now = c.committed.ensures ∙ ap Some same in
    let inside : c.in_ok-place.place < length (commits es) = omega (arith, c.commits.ensures, c.if-place-commits.false) in
    is_told_by c.args.core.now.start es c.in_ok-_at._at c.args.number c.in_ok-place.place c.args.call.now c.args.reply.now c.told.ensures.lawful (sym c.place_of.ensures ∙ c.in_ok-place.was) inside stands returned
