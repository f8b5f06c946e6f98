use Rattle.std.proofs.Common.{ℕ, ◌≡◌, ◌≤◌, ◌<◌, Bool, true, if◌then◌else◌, List, length, Option, Some, None, sym, ap, ap₂, ◌∙◌, subst}
use Rattle.std.proofs.lemmas.Bool.{le-ltb}
use Rattle.fs_sched_seen.specs.Calls.{places_of}
use Rattle.fs_sched_seen.specs.Meetings.{count_pairs, meet_in}
use Rattle.fs_sched_seen.specs.code.Meetings.{has_met}
use Rattle.fs_sched_seen.specs.declared.meetings.Pairs.{Pairs}
use Rattle.fs_sched_seen.specs.declared.places.Place.{Place}
use Rattle.fs_sched_seen.proofs.MeetLemmas.{all_seats, pairs_same}
use Rattle.fs_sched_seen.proofs.meetings.Meetings.pairs.Goals as goal

pub returns : goal.returns
returns c = λ lists timelines is script have.
    let few = subst (λ (places : List Place). length places ≤ 1000) is c.if-places-gt-PAIRED_LIMIT.false in
    let met : c.all_pairs.result.met ≡ count_pairs (meet_in timelines) (places_of lists) =
    c.all_pairs.ensures.met ∙ ap (count_pairs (has_met c.args.self.now)) is
    ∙ pairs_same (has_met c.args.self.now) (meet_in timelines) (length lists) (λ p q order less. have p q order (subst (λ (n : ℕ). q.seat < n) (sym (script few)) less)) (places_of lists) (all_seats lists) in
    let all : c.all_pairs.result.all ≡ count_pairs (λ p q. true) (places_of lists) = c.all_pairs.ensures.all ∙ ap (count_pairs (λ p q. true)) is in
    let one : ◌≡◌ {A = Option Pairs} (Some c.all_pairs.result) (Some (record { met = count_pairs (meet_in timelines) (places_of lists); all = count_pairs (λ p q. true) (places_of lists) })) =
    ap₂ (λ (m : ℕ) (a : ℕ). Some (record { met = m; all = a })) met all in
    one ∙ ap (λ (b : Bool). if b then None else Some (record { met = count_pairs (meet_in timelines) (places_of lists); all = count_pairs (λ p q. true) (places_of lists) })) (sym (le-ltb 1000 (length (places_of lists)) few))
