use Rattle.std.proofs.Common.{◌≡◌, ◌≢◌, ℕ, not, refl, sym, ap, subst, ◌∙◌, Ok, None}
use Rattle.std.specs.Prelude.{nat_le}
use Rattle.fs_names.specs.Limits.{entry_limit}
use Rattle.fs_calls.specs.Rows.{place_fault}
use Rattle.fs_seq_nodes.specs.code.Nodes.{graph, LooksUp, IsTaken, IsFree}
use Rattle.fs_seq_nodes.specs.code.Slots.{shape_at}
use Rattle.fs_seq_nodes.specs.declared.nodes.Spot.TheVariants.{Taken, Free}
use Rattle.fs_seq_nodes.proofs.NodeLemmas.{has_key}
use Rattle.fs_seq.proofs.RenameFaults.{named, new_named, looked_up, taken_walk, fault_source, fault_dest, missing, stays, onto, moves_onto, free, moves_beside, moves_to}
use Rattle.fs_seq.proofs.Spots.{has_names}
use Rattle.fs_seq.proofs.Replies.{fault_by_paths}
use Rattle.fs_seq.proofs.rename.decide.Goals as goal

same_taken : {a b m d e n : ℕ} → Taken a b m ≡ Taken d e n → m ≡ n
same_taken e = cc

same_free : {a b m d e n : ℕ} → Free a b m ≡ Free d e n → a ≡ d
same_free e = cc

pub returns-in-Some : goal.returns-in-Some
returns-in-Some c = fault_by_paths c.args.limits _ _ c.in-Some.errno (sym (c.rename_error.ensures (entry_limit c.args.limits)) ∙ c.in-Some.is)

pub returns-in-Err : goal.returns-in-Err
returns-in-Err c = fault_source c.args.limits (graph c.args.nodes.now) c.requires c.args.from.now c.args.to.now (sym (c.rename_error.ensures (entry_limit c.args.limits)) ∙ c.in_default.is) c.in-Err.errno c.in-Err.ensures

pub look_up-requires-clause-named : goal.look_up-requires-clause-named
look_up-requires-clause-named c =
    has_names c.args.from.now (named c.args.limits (graph c.args.nodes.now) c.requires c.args.from.now c.args.to.now (sym (c.rename_error.ensures (entry_limit c.args.limits)) ∙ c.in_default.is))

pub look_up-requires-2-clause-named : goal.look_up-requires-2-clause-named
look_up-requires-2-clause-named c =
    has_names c.args.to.now (new_named c.args.limits (graph c.args.nodes.now) c.requires c.args.from.now c.args.to.now (sym (c.rename_error.ensures (entry_limit c.args.limits)) ∙ c.in_default.is))

pub returns-in-Err-look_up : goal.returns-in-Err-look_up
returns-in-Err-look_up c =
    let text = sym (c.rename_error.ensures (entry_limit c.args.limits)) ∙ c.in_default.is in
    fault_dest c.args.limits (graph c.args.nodes.now) c.requires c.args.from.now c.args.to.now text c.in-Err-look_up.errno
    (looked_up c.args.limits (graph c.args.nodes.now) c.requires c.args.from.now c.args.to.now text c.args.from.now c.in-Ok.spot c.in-Ok.ensures) c.in-Err-look_up.ensures

pub returns-in_default-source : goal.returns-in_default-source
returns-in_default-source c =
    let g = graph c.args.nodes.now in
    missing c.args.limits g c.requires c.args.from.now c.args.to.now (sym (c.rename_error.ensures (entry_limit c.args.limits)) ∙ c.in_default.is) _ _ _ c.in-Ok-look_up.spot
    (subst (λ s. LooksUp g c.args.from.now (Ok s)) c.in_default-source.is c.in-Ok.ensures) c.in-Ok-look_up.ensures

pub place_error-requires : goal.place_error-requires
place_error-requires c =
    let g = graph c.args.nodes.now in
    let p = c.args.from.now in
    let text = sym (c.rename_error.ensures (entry_limit c.args.limits)) ∙ c.in_default.is in
    let at : IsTaken g p c.in-Taken.dir c.in-Taken.place c.in-Taken.node = subst (λ s. LooksUp g p (Ok s)) c.in-Taken.is c.in-Ok.ensures in
    record { node = has_key c.args.nodes.now c.in-Taken.node (c.requires.inside p c.in-Taken.node (taken_walk c.args.limits g c.requires p c.args.to.now text p _ _ _ (named c.args.limits g c.requires p c.args.to.now text) at)) }

pub sight_of-requires : goal.sight_of-requires
sight_of-requires c =
    let g = graph c.args.nodes.now in
    let q = c.args.to.now in
    let text = sym (c.rename_error.ensures (entry_limit c.args.limits)) ∙ c.in_default.is in
    let at : IsTaken g q c.in-Taken-2.dir c.in-Taken-2.place c.in-Taken-2.node = subst (λ s. LooksUp g q (Ok s)) c.in-Taken-2.is c.in-Ok-look_up.ensures in
    record { there = has_key c.args.nodes.now c.in-Taken-2.node (c.requires.inside q c.in-Taken-2.node (taken_walk c.args.limits g c.requires c.args.from.now q text q _ _ _ (new_named c.args.limits g c.requires c.args.from.now q text) at)) }

pub returns-in-Taken-dest : goal.returns-in-Taken-dest
returns-in-Taken-dest c =
    let g = graph c.args.nodes.now in
    let p = c.args.from.now in
    let q = c.args.to.now in
    stays c.args.limits g c.requires p q (sym (c.rename_error.ensures (entry_limit c.args.limits)) ∙ c.in_default.is) _ _ _
    (subst (λ s. LooksUp g p (Ok s)) c.in-Taken.is c.in-Ok.ensures) _ _ _
    (subst (λ s. LooksUp g q (Ok s)) c.in-Taken-dest.is c.in-Ok-look_up.ensures) c.if-other-node.true

pub returns-in-Some-place_error : goal.returns-in-Some-place_error
returns-in-Some-place_error c =
    let g = graph c.args.nodes.now in
    let p = c.args.from.now in
    let q = c.args.to.now in
    onto c.args.limits g c.requires p q (sym (c.rename_error.ensures (entry_limit c.args.limits)) ∙ c.in_default.is) _ _ _
    (subst (λ s. LooksUp g p (Ok s)) c.in-Taken.is c.in-Ok.ensures) _ _ _ _
    (subst (λ s. LooksUp g q (Ok s)) c.in-Taken-2.is c.in-Ok-look_up.ensures)
    (λ e. c.if-other-node.false (same_taken (sym c.in-Taken-dest.is ∙ c.in-Taken-2.is) ∙ e))
    (sym c.in-Some-place_error.is ∙ c.place_error.ensures (shape_at g c.in-Taken-2.node) (sym c.sight_of.ensures))

pub returns-in-None : goal.returns-in-None
returns-in-None c =
    let g = graph c.args.nodes.now in
    let p = c.args.from.now in
    let q = c.args.to.now in
    let at : IsTaken g p c.in-Taken.dir c.in-Taken.place c.in-Taken.node = subst (λ s. LooksUp g p (Ok s)) c.in-Taken.is c.in-Ok.ensures in
    let to : IsTaken g q c.in-Taken-2.dir c.in-Taken-2.place c.in-Taken-2.node = subst (λ s. LooksUp g q (Ok s)) c.in-Taken-2.is c.in-Ok-look_up.ensures in (
      moves_onto c.args.limits g c.requires p q (sym (c.rename_error.ensures (entry_limit c.args.limits)) ∙ c.in_default.is) _ _ _ at _ _ _ to
          (λ e. c.if-other-node.false (same_taken (sym c.in-Taken-dest.is ∙ c.in-Taken-2.is) ∙ e))
          (sym c.in-None.is ∙ c.place_error.ensures (shape_at g c.in-Taken-2.node) (sym c.sight_of.ensures)),
      at,
      to,
    )

pub returns-in-Free : goal.returns-in-Free
returns-in-Free c =
    let g = graph c.args.nodes.now in
    let p = c.args.from.now in
    let q = c.args.to.now in
    let at : IsTaken g p c.in-Taken.dir c.in-Taken.place c.in-Taken.node = subst (λ s. LooksUp g p (Ok s)) c.in-Taken.is c.in-Ok.ensures in
    let to : IsFree g q c.in-Free.dir c.in-Free.field-1 c.in-Free.field-2 = subst (λ s. LooksUp g q (Ok s)) c.in-Free.is c.in-Ok-look_up.ensures in (
      moves_beside c.args.limits g c.requires p q (sym (c.rename_error.ensures (entry_limit c.args.limits)) ∙ c.in_default.is) _ _ _ at _ _ _ to c.if-dir-entry.true,
      at,
      (c.in-Free.field-1, c.in-Free.field-2, subst (λ d. IsFree g q d c.in-Free.field-1 c.in-Free.field-2) c.if-dir-entry.true to),
    )

pub place_error-requires-in-Free-2 : goal.place_error-requires-in-Free-2
place_error-requires-in-Free-2 c =
    let g = graph c.args.nodes.now in
    let p = c.args.from.now in
    let text = sym (c.rename_error.ensures (entry_limit c.args.limits)) ∙ c.in_default.is in
    let at : IsTaken g p c.in-Taken.dir c.in-Taken.place c.in-Taken.node = subst (λ s. LooksUp g p (Ok s)) c.in-Taken.is c.in-Ok.ensures in
    record { node = has_key c.args.nodes.now c.in-Taken.node (c.requires.inside p c.in-Taken.node (taken_walk c.args.limits g c.requires p c.args.to.now text p _ _ _ (named c.args.limits g c.requires p c.args.to.now text) at)) }

pub returns-in-Some-place_error-2 : goal.returns-in-Some-place_error-2
returns-in-Some-place_error-2 c =
    let g = graph c.args.nodes.now in
    let p = c.args.from.now in
    let q = c.args.to.now in
    free c.args.limits g c.requires p q (sym (c.rename_error.ensures (entry_limit c.args.limits)) ∙ c.in_default.is) _ _ _
    (subst (λ s. LooksUp g p (Ok s)) c.in-Taken.is c.in-Ok.ensures) _ _ _ _
    (subst (λ s. LooksUp g q (Ok s)) c.in-Free-2.is c.in-Ok-look_up.ensures)
    (λ e. c.if-dir-entry.false (same_free (sym c.in-Free.is ∙ c.in-Free-2.is) ∙ e))
    (sym c.in-Some-place_error-2.is ∙ c.place_error-in-Free-2.ensures None refl ∙ ap (λ full. place_fault (shape_at g c.in-Taken.node) None (not full)) (c.is_full-has_room.ensures ∙ ap (λ most. nat_le most c.in-Free-2.entries) c.entries.ensures))

pub returns-in-None-place_error : goal.returns-in-None-place_error
returns-in-None-place_error c =
    let g = graph c.args.nodes.now in
    let p = c.args.from.now in
    let q = c.args.to.now in
    let at : IsTaken g p c.in-Taken.dir c.in-Taken.place c.in-Taken.node = subst (λ s. LooksUp g p (Ok s)) c.in-Taken.is c.in-Ok.ensures in
    let to : IsFree g q c.in-Free-2.dir c.in-Free-2.place c.in-Free-2.entries = subst (λ s. LooksUp g q (Ok s)) c.in-Free-2.is c.in-Ok-look_up.ensures in
    let other : c.in-Free-2.dir ≢ c.in-Taken.dir = λ e. c.if-dir-entry.false (same_free (sym c.in-Free.is ∙ c.in-Free-2.is) ∙ e) in (
      moves_to c.args.limits g c.requires p q (sym (c.rename_error.ensures (entry_limit c.args.limits)) ∙ c.in_default.is) _ _ _ at _ _ _ to other
          (sym c.in-None-place_error.is ∙ c.place_error-in-Free-2.ensures None refl ∙ ap (λ full. place_fault (shape_at g c.in-Taken.node) None (not full)) (c.is_full-has_room.ensures ∙ ap (λ most. nat_le most c.in-Free-2.entries) c.entries.ensures)),
      at,
      (c.in-Free-2.entries, to),
      λ e. other (sym e),
    )
