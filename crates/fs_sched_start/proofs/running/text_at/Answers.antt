use Rattle.std.proofs.Common.{◌<◌, ◌^◌, sym, ap, ◌∙◌, subst, arith, List, ℕ}
use Rattle.fs_script.specs.Script.{script_of}
use Rattle.fs_sched.specs.Devices.{IsFaultOf}
use Rattle.fs_sched_start.specs.code.Mades.{IsCoreAt, IsNoCore}
use Rattle.fs_sched_start.proofs.Starting.{output_at, again_at, stop_at, of_input, of_tree, of_each_at, linearizable_at, whole_at, finish_at}
use Rattle.fs_sched_start.proofs.running.text_at.Goals as goal

pub returns-in-Ok-run_on : goal.returns-in-Ok-run_on
returns-in-Ok-run_on g c =
    let tree = c.args.tree.items in
    let text = c.args.text.items in
    let script = c.in-Ok.script in
    let core = c.in-Ok-core_at.core in
    let made = c.in-Ok-run_on.made in
    let is = ap script_of (sym c.as_slice.ensures.value) ∙ c.in-Ok.ensures.script in
    let at = subst (λ (t : List ℕ). IsCoreAt script.limits t core) c.as_slice-2.ensures.value c.in-Ok-core_at.ensures.core in
    let output = output_at c.args.schedule tree text script core is at made.end made.text.items c.in-Ok-run_on.ensures.output in
    let fits : made.end.begun < 2 ^ 64 = omega arith in
    record {
      ran = of_each_at c.args.schedule tree text made.end made.text.items output;
      linearizable = linearizable_at c.args.schedule tree text made.end made.text.items output;
      again = again_at c.args.schedule tree text script core is at c.in-Ok-run_on.ensures.again;
      whole = whole_at c.args.schedule tree text made.end made.text.items output fits;
      finish = finish_at c.args.schedule tree text made.end made.text.items output fits;
      fault = tt;
    }

pub returns-in-Err-run_on : goal.returns-in-Err-run_on
returns-in-Err-run_on g c =
    let script = c.in-Ok.script in
    let core = c.in-Ok-core_at.core in
    let is = ap script_of (sym c.as_slice.ensures.value) ∙ c.in-Ok.ensures.script in
    let at = subst (λ (t : List ℕ). IsCoreAt script.limits t core) c.as_slice-2.ensures.value c.in-Ok-core_at.ensures.core in
    record { ran = tt; linearizable = tt; again = tt; whole = tt; finish = tt; fault = stop_at c.args.schedule c.args.tree.items c.args.text.items script core is at c.in-Err-run_on.fault c.in-Err-run_on.ensures.why }

pub returns-in-Err-core_at : goal.returns-in-Err-core_at
returns-in-Err-core_at g c =
    let script = c.in-Ok.script in
    let is = ap script_of (sym c.as_slice.ensures.value) ∙ c.in-Ok.ensures.script in
    let none = subst (λ (t : List ℕ). IsNoCore script.limits t c.in-Err-core_at.fault) c.as_slice-2.ensures.value c.in-Err-core_at.ensures.fault in
    record { ran = tt; linearizable = tt; again = tt; whole = tt; finish = tt; fault = of_tree c.args.schedule c.args.tree.items c.args.text.items script c.in-Err-core_at.fault is none }

pub returns-in-Err : goal.returns-in-Err
returns-in-Err g c =
    let none = subst (λ (t : List ℕ). IsFaultOf (script_of t) c.in-Err.fault) c.as_slice.ensures.value c.in-Err.ensures.fault in
    record { ran = tt; linearizable = tt; again = tt; whole = tt; finish = tt; fault = of_input c.args.schedule c.args.tree.items c.args.text.items c.in-Err.fault none }
