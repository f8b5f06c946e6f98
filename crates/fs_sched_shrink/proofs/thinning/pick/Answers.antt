use Rattle.std.proofs.Common.{◌≡◌, ℕ, ◌+◌, ◌<◌, cond, take, arith, List, Bool, Bor, false, [], ◌∷◌, ◌++◌, map, get_or, drop, length, sym, ap, ◌∙◌}
use Rattle.fs_words.specs.Words.{Word}
use Rattle.fs_sched_shrink.specs.Kept.{picked}
use Rattle.fs_sched_shrink.proofs.Picking.{picked_more}
use Rattle.std.proofs.lemmas.Grind.{common_steps}
use Rattle.std.proofs.lemmas.List.{length-map}
use Rattle.fs_sched_shrink.proofs.thinning.pick.Goals as goal

abbrev texts : List (Bor Word) → List Word
texts words = map (λ (w : Bor Word). w.now) words

pick_more : (words : List (Bor Word)) (kept flags : List Bool) (at : ℕ) (stays : Bool) (w : Word) (old new : List Word) → new ≡ old ++ cond stays (w ∷ []) [] → at < length words → old ≡ picked (take at (texts words)) kept → flags ≡ drop at kept → stays ≡ get_or flags 0 false
    → w ≡ get_or (texts words) at [] → new ≡ picked (take (at + 1) (texts words)) kept
pick_more words kept flags at stays w old new adds less before behind flag is =
    let l : length (texts words) ≡ length words = length-map words (λ (w : Bor Word). w.now) in
    adds ∙ ap (λ (ws : List Word). ws ++ cond stays (w ∷ []) []) before
    ∙ ap (λ (b : Bool). picked (take at (texts words)) kept ++ cond b (w ∷ []) []) (flag ∙ ap (λ (f : List Bool). get_or f 0 false) behind)
    ∙ ap (λ (v : Word). picked (take at (texts words)) kept ++ cond (get_or (drop at kept) 0 false) (v ∷ []) []) is
    ∙ sym (picked_more (texts words) kept at [] (omega (arith, less, l)))

pub loop-at-preserved : goal.loop-at-preserved
loop-at-preserved c = pick_more c.args.words.now c.args.kept.now c.flags_behind.result.now c.loop-at.at c.first_flag.result _ _ _ c.in_ok-push_kept.ensures c.loop-at-test.true c.loop-at.invariant c.flags_behind.ensures c.first_flag.ensures (grind (arith, common_steps))
