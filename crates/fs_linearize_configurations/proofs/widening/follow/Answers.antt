use Rattle.std.proofs.Common.{◌≡◌, ◌≤◌, true, false, List, length, get_or, sym, subst, ◌∙◌}
use Rattle.fs_calls.specs.Starts.{start_tree}
use Rattle.fs_linearize_histories.specs.Meeting.{HasRoom}
use Rattle.fs_linearize_histories.specs.Configurations.{is_in}
use Rattle.fs_linearize_configurations.specs.code.Calls.{AreNear}
use Rattle.fs_linearize_configurations.specs.declared.reached.Reached.{Reached}
use Rattle.fs_linearize_configurations.specs.declared.under_way.UnderWay.{UnderWay}
use Rattle.fs_linearize_configurations.proofs.SearchLemmas.{follows_past, follows_held_at, follows_commits_at}
use Rattle.fs_linearize_configurations.proofs.widening.follow.Goals as goal

pub returns-then-all-place : goal.returns-then-all-place
returns-then-all-place c = λ h r is each near_it.
    let past = subst (λ (rs : List Reached). length rs ≤ c.args.place) c.as_slice-all.ensures c.if-all-place.true in
    follows_past h c.args.number r c.args.calls.now c.args.links.now.items c.args.layer.now c.args.place is past

pub returns-then-holds : goal.returns-then-holds
returns-then-holds c = λ h r is each near_it.
    let s = c.index-all-place.result in
    let held : is_in c.args.number s.configuration.held ≡ true = sym c.holds.ensures ∙ c.if-holds.true in
    follows_held_at h c.args.number r s c.args.calls.now c.args.links.now.items c.args.layer.now c.args.place is (subst (λ (rs : List Reached). s ≡ get_or rs c.args.place s) c.as_slice-all.ensures c.index-all-place.is) held

pub returns-then-has_room : goal.returns-then-has_room
returns-then-has_room c = λ h r is each are.
    let s = c.index-all-place.result in
    let t = c.in_ok-reached.reached in
    let room : false ≡ false → HasRoom t.configuration.now.limits (length c.args.calls.now) (start_tree t.configuration.now) = λ e. c.has_room.ensures c.if-has_room.true in
    follows_commits_at h c.args.number false r s t c.args.calls.now c.args.near.now c.args.links.now.items c.add_commits.new.links.items c.args.layer.now c.add_commits.new.layer c.args.place is (subst (λ (rs : List Reached). s ≡ get_or rs c.args.place s) c.as_slice-all.ensures c.index-all-place.is)
    c.in_ok-reached.ensures.configuration c.in_ok-reached.ensures.last each are room (c.in_ok-add_commits.ensures h)

pub returns : goal.returns
returns c = λ h r is each near_it.
    let s = c.index-all-place.result in
    let t = c.in_ok-reached.reached in
    let near = c.deref.result.now in
    let are = subst (λ (us : List UnderWay). AreNear c.args.number true c.args.calls.now us) (sym c.deref.ensures.value) c.in_ok-near.ensures in
    let room : true ≡ false → HasRoom t.configuration.now.limits (length c.args.calls.now) (start_tree t.configuration.now) = λ e. absurd (cc) in
    follows_commits_at h c.args.number true r s t c.args.calls.now near c.args.links.now.items c.add_commits-2.new.links.items c.args.layer.now c.add_commits-2.new.layer c.args.place is (subst (λ (rs : List Reached). s ≡ get_or rs c.args.place s) c.as_slice-all.ensures c.index-all-place.is)
    c.in_ok-reached.ensures.configuration c.in_ok-reached.ensures.last each are room (c.in_ok-add_commits-2.ensures h)
