use Rattle.std.proofs.Common.{◌≡◌, None, sym, ◌∙◌}
use Rattle.fs_names.specs.Failures.{first_failure}
use Rattle.fs_calls.specs.Rows.{exchange_errors}
use Rattle.fs_seq_nodes.specs.code.Nodes.{graph, shape_there}
use Rattle.fs_seq.proofs.Spots.{spot_kept}
use Rattle.fs_seq.proofs.Replies.{fault_by_paths}
use Rattle.fs_seq.proofs.ExchangeFaults.{named, other_named, lost, other_lost, met, first_there, second_there, at_path}
use Rattle.fs_seq.proofs.exchange.find_both.Goals.{in_default-2-via-in-Some+in_default, in_default-2-via-in_default}
use Rattle.fs_seq.proofs.exchange.find_both.Goals as goal

pub returns-in-Some : goal.returns-in-Some
returns-in-Some c limits = fault_by_paths limits _ _ c.in-Some.errno (sym c.exchange_error.ensures ∙ c.in-Some.is)

pub returns-in-Err : goal.returns-in-Err
returns-in-Err c = lost (graph c.args.nodes.now) c.requires c.args.path.now c.args.other.now (sym c.exchange_error.ensures ∙ c.in_default.is) c.in-Err.errno c.in-Err.ensures

pub returns-in-Err-look_up : goal.returns-in-Err-look_up
returns-in-Err-look_up c =
    other_lost (graph c.args.nodes.now) c.requires c.args.path.now c.args.other.now (sym c.exchange_error.ensures ∙ c.in_default.is) c.in-Err-look_up.errno c.in-Ok.spot c.in-Ok.ensures c.in-Err-look_up.ensures

pub sight-requires : goal.sight-requires
sight-requires c =
    let text = sym c.exchange_error.ensures ∙ c.in_default.is in
    record { there = spot_kept c.args.nodes.now c.requires c.args.path.now (named (graph c.args.nodes.now) c.requires c.args.path.now c.args.other.now text) c.in-Ok.spot c.in-Ok.ensures }

pub sight-requires-2 : goal.sight-requires-2
sight-requires-2 c =
    let text = sym c.exchange_error.ensures ∙ c.in_default.is in
    record { there = spot_kept c.args.nodes.now c.requires c.args.other.now (other_named (graph c.args.nodes.now) c.requires c.args.path.now c.args.other.now text) c.in-Ok-look_up.spot c.in-Ok-look_up.ensures }

pub returns-in-Some-error : goal.returns-in-Some-error
returns-in-Some-error c limits =
    let g = graph c.args.nodes.now in
    met g c.requires c.args.path.now c.args.other.now (sym c.exchange_error.ensures ∙ c.in_default.is) c.in-Ok.spot c.in-Ok-look_up.spot c.in-Ok.ensures c.in-Ok-look_up.ensures limits
    ∙ sym (c.error.ensures (shape_there g c.in-Ok.spot) (shape_there g c.in-Ok-look_up.spot) (sym c.sight.ensures) (sym c.sight-2.ensures)) ∙ c.in-Some-error.is

pub unreachable-requires : goal.unreachable-requires
unreachable-requires c =
    let g = graph c.args.nodes.now in
    let none : first_failure (exchange_errors (shape_there g c.in-Ok.spot) (shape_there g c.in-Ok-look_up.spot)) ≡ None =
    sym (c.error.ensures (shape_there g c.in-Ok.spot) (shape_there g c.in-Ok-look_up.spot) (sym c.sight.ensures) (sym c.sight-2.ensures)) ∙ c.in_default-error.is in
    elim c.in_default-2.branch [
      | in_default-2-via-in-Some+in_default w ↦ second_there g c.in-Ok.spot c.in-Ok-look_up.spot none (sym c.entry-2.ensures ∙ w.in_default-2.is-1)
      | in_default-2-via-in_default w ↦ first_there g c.in-Ok.spot c.in-Ok-look_up.spot none (sym c.entry.ensures ∙ w.in_default-2.is-0)
    ]

pub returns : goal.returns
returns c =
    let g = graph c.args.nodes.now in (
      λ limits. met g c.requires c.args.path.now c.args.other.now (sym c.exchange_error.ensures ∙ c.in_default.is) c.in-Ok.spot c.in-Ok-look_up.spot c.in-Ok.ensures c.in-Ok-look_up.ensures limits
          ∙ sym (c.error.ensures (shape_there g c.in-Ok.spot) (shape_there g c.in-Ok-look_up.spot) (sym c.sight.ensures) (sym c.sight-2.ensures)) ∙ c.in_default-error.is,
      at_path g c.args.path.now c.in-Ok.spot c.in-Some-Some.one c.in-Ok.ensures (sym c.entry.ensures ∙ c.in-Some-Some.is-0),
      at_path g c.args.other.now c.in-Ok-look_up.spot c.in-Some-Some.two c.in-Ok-look_up.ensures (sym c.entry-2.ensures ∙ c.in-Some-Some.is-1),
    )
