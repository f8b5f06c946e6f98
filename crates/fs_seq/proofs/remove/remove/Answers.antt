use Rattle.std.proofs.Common.{◌≡◌, ◌<◌, length, subst, sym, ap, ◌∙◌, arith, Some, None, Ok, refl}
use Rattle.fs_names.specs.Failures.{first_failure}
use Rattle.fs_names.specs.declared.limits.Limits.TheVariants.{V1}
use Rattle.fs_calls.specs.Forms.{root_error}
use Rattle.fs_calls.specs.code.Targets.{entry_call}
use Rattle.fs_calls.specs.Rows.{entry_errors, entry_fault}
use Rattle.fs_seq_nodes.specs.code.Nodes.{graph, shape_there, LooksUp}
use Rattle.fs_seq_nodes.specs.code.Slots.{tree_of, place_at, shape_of}
use Rattle.fs_seq.specs.code.Effects.{Answers, call_on}
use Rattle.fs_seq.proofs.Spots.{spot_kept}
use Rattle.fs_seq.proofs.Removed.{entry_goes, entry_leaf, entry_met, root_fault, parent_fault, spot_fault, refused, is_removed}
use Rattle.fs_calls.specs.declared.reply.Reply.TheVariants.{Done}
use Rattle.fs_seq.proofs.remove.remove.Goals.{in-Taken, in_default-spot}
use Rattle.fs_seq.proofs.remove.remove.Goals as goal

pub returns-then-len-eq0 : goal.returns-then-len-eq0
returns-then-len-eq0 c =
    let p = c.args.path.now in
    let e = c.args.entry in
    let g = graph c.args.nodes.now in
    refused (call_on e p) p (root_error (entry_call V1 e)) (λ parent there. entry_fault (entry_call V1 e) parent None there) (entry_goes e c.requires.removes p) g c.root_error.result c.requires.forest
    (λ limits. root_fault (call_on e p) p (root_error (entry_call V1 e)) (λ parent there. entry_fault (entry_call V1 e) parent None there) (entry_goes e c.requires.removes p) (tree_of g) (sym c.len.ensures.len ∙ c.if-len-eq0.true) limits ∙ ap Some (sym (c.root_error.ensures V1)))

pub returns-in-Err : goal.returns-in-Err
returns-in-Err c =
    let p = c.args.path.now in
    let e = c.args.entry in
    let g = graph c.args.nodes.now in
    let named : 0 < length p = omega (arith, c.len.ensures.len, c.if-len-eq0.false) in
    refused (call_on e p) p (root_error (entry_call V1 e)) (λ parent there. entry_fault (entry_call V1 e) parent None there) (entry_goes e c.requires.removes p) g c.in-Err.errno c.requires.forest (parent_fault (call_on e p) p (root_error (entry_call V1 e)) (λ parent there. entry_fault (entry_call V1 e) parent None there) (entry_goes e c.requires.removes p) (tree_of g) c.in-Err.errno named c.in-Err.ensures)

pub sight-requires : goal.sight-requires
sight-requires c =
    let p = c.args.path.now in
    let named : 0 < length p = omega (arith, c.len.ensures.len, c.if-len-eq0.false) in
    record { there = spot_kept c.args.nodes.now c.requires.forest p named c.in-Ok.spot c.in-Ok.ensures }

pub returns-in-Some : goal.returns-in-Some
returns-in-Some c =
    let p = c.args.path.now in
    let e = c.args.entry in
    let g = graph c.args.nodes.now in
    let named : 0 < length p = omega (arith, c.len.ensures.len, c.if-len-eq0.false) in
    refused (call_on e p) p (root_error (entry_call V1 e)) (λ parent there. entry_fault (entry_call V1 e) parent None there) (entry_goes e c.requires.removes p) g c.in-Some.errno c.requires.forest
    (λ limits. spot_fault (call_on e p) p (root_error (entry_call V1 e)) (λ parent there. entry_fault (entry_call V1 e) parent None there) (entry_goes e c.requires.removes p) g c.in-Ok.spot c.requires.forest named c.in-Ok.ensures limits ∙ sym (c.error.ensures V1 None (shape_there g c.in-Ok.spot) refl (sym c.sight.ensures)) ∙ c.in-Some.is)

pub returns : goal.returns
returns c =
    let p = c.args.path.now in
    let e = c.args.entry in
    let g = graph c.args.nodes.now in
    let named : 0 < length p = omega (arith, c.len.ensures.len, c.if-len-eq0.false) in
    let none : first_failure (entry_errors (entry_call V1 e) None (shape_there g c.in-Ok.spot)) ≡ None = sym (c.error.ensures V1 None (shape_there g c.in-Ok.spot) refl (sym c.sight.ensures)) ∙ c.in_default.is in
    elim c.match-spot.branch [
      | in-Taken w ↦
          let same : c.match-spot.nodes ≡ w.detach.new.nodes = (let is = w.nodes-is in cc) in
          let here : first_failure (entry_errors (entry_call V1 e) None (shape_of (place_at g w.in-Taken.node))) ≡ None = subst (λ s. first_failure (entry_errors (entry_call V1 e) None (shape_there g s)) ≡ None) w.in-Taken.is none in
          subst (λ nodes. Answers g (graph nodes) (call_on e p) Done) (sym same)
          (is_removed (call_on e p) p (root_error (entry_call V1 e)) (λ parent there. entry_fault (entry_call V1 e) parent None there) (entry_goes e c.requires.removes p) g (graph w.detach.new.nodes) w.in-Taken.dir w.in-Taken.i w.in-Taken.node c.requires.forest
          (record {
            sound = λ limits. spot_fault (call_on e p) p (root_error (entry_call V1 e)) (λ parent there. entry_fault (entry_call V1 e) parent None there) (entry_goes e c.requires.removes p) g c.in-Ok.spot c.requires.forest named c.in-Ok.ensures limits ∙ none;
            named = named;
            spot = subst (λ s. LooksUp g p (Ok s)) w.in-Taken.is c.in-Ok.ensures;
            leaf = entry_leaf e (place_at g w.in-Taken.node) c.requires.removes here;
          }) w.detach.ensures)
      | in_default-spot w ↦ absurd (entry_met e c.requires.removes (subst (λ s. first_failure (entry_errors (entry_call V1 e) None (shape_there g s)) ≡ None) w.in_default-spot.is none))
    ]
