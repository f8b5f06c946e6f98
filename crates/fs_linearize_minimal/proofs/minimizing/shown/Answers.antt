use Rattle.std.proofs.Common.{◌≡◌, List, length, take, sym, ap, ◌∙◌, subst, rules, vec_len}
use Rattle.fs_linearize_histories.specs.declared.heard.Heard.{Heard}
use Rattle.fs_linearize_minimal.specs.Parts.{IsPartOf, calls_in}
use Rattle.fs_linearize_minimal.specs.Reasons.{CouldBeRight, IsNotRight}
use Rattle.fs_linearize_minimal.specs.Minimal.{IsRefuted}
use Rattle.fs_linearize_minimal.specs.declared.reason.Reason.{Reason}
use Rattle.fs_linearize_minimal.proofs.ReasonLemmas.{same_reason}
use Rattle.fs_linearize_minimal.proofs.RefusedLemmas.{refused_front}
use Rattle.fs_linearize_minimal.proofs.minimizing.shown.Goals as goal

pub core_of-requires : goal.core_of-requires
core_of-requires g c =
    let h : List Heard = c.args.history.items in
    let place = c.args.refusal.place in
    let reason : Reason = record { call = c.args.refusal.call; possible = c.args.refusal.possible; race = c.in_ok-race.race } in
    let front : c.truncate.new.self.items ≡ take place h = c.truncate.ensures.items in
    let seen = c.as_slice-2.ensures.value ∙ front in
    record {
      refuted = subst (IsRefuted c.args.start.now c.args.limit reason) (sym front)
          (refused_front c.args.start.now h c.args.limit place reason reason.possible c.requires.refused.later c.requires.refused.history c.requires.refused.refused (same_reason reason)
          (λ e. subst (CouldBeRight c.args.start.now c.args.refusal.call) seen (c.in_ok-race.ensures.right e)));
    }

pub returns : goal.returns
returns g c =
    let h : List Heard = c.args.history.items in
    let place = c.args.refusal.place in
    let reason : Reason = record { call = c.args.refusal.call; possible = c.args.refusal.possible; race = c.in_ok-race.race } in
    let front : c.truncate.new.self.items ≡ take place h = c.truncate.ensures.items in
    let seen = c.as_slice-2.ensures.value ∙ front in
    let many : vec_len c.in_ok-calls_in.field-0 ≡ length c.in_ok-calls_in.field-0.items = search rules in
    let cut = c.in_ok-core.ensures in
    record {
      place = place;
      reason = reason;
      whole = record {
        later = c.requires.refused.later;
        refused = c.requires.refused.refused;
        race = λ e. subst (CouldBeRight c.args.start.now c.args.refusal.call) seen (c.in_ok-race.ensures.right e);
        no_race = λ e. subst (IsNotRight c.args.start.now c.args.limit c.args.refusal.call) seen (c.in_ok-race.ensures.wrong e);
      };
      left = cut.left;
      part = subst (IsPartOf cut.left) front cut.part;
      refuted = cut.refuted;
      minimal = cut.minimal;
      calls_are = cut.calls_are;
      all_are = c.len-all.ensures ∙ many ∙ ap length (c.in_ok-calls_in.ensures ∙ ap calls_in c.as_slice.ensures.value);
      text_is = cut.text_is;
    }
