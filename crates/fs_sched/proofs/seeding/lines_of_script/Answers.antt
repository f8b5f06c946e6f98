use Rattle.std.proofs.Common.{sym, ap, ◌∙◌}
use Rattle.std.proofs.lemmas.Result.{IfOk-weaker, IfErr-weaker}
use Rattle.fs_script.specs.Script.{script_of}
use Rattle.fs_sched.specs.Devices.{IsFaultOf}
use Rattle.fs_sched.specs.Origins.{LacksRun, from_root}
use Rattle.fs_sched.specs.Seeds.{AreLawful, AreRunsOf}
use Rattle.fs_sched.proofs.SeedLemmas.{root_fault}
use Rattle.fs_sched.proofs.seeding.lines_of_script.Goals as goal

pub returns : goal.returns
returns g c =
    let script = c.in_ok-script.script in
    let is = ap script_of (sym c.as_slice.ensures.value) ∙ c.in_ok-script.ensures.script in
    record {
      ok = IfOk-weaker c.seeds_of.result (λ made. AreLawful script c.args.seed c.args.runs made.text.items) (λ made. AreRunsOf c.args.seed c.args.runs c.args.text.items made.text.items)
          (λ made all. (script, is, all)) c.seeds_of.ensures.ok;
      lawful = c.seeds_of.ensures.lawful;
      fault = IfErr-weaker c.seeds_of.result (LacksRun from_root script c.args.seed c.args.runs) (IsFaultOf (script_of c.args.text.items))
          (λ fault lacks. root_fault c.args.text.items script c.args.seed c.args.runs fault lacks) c.seeds_of.ensures.fault;
    }
