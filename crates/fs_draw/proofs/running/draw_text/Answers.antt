use Rattle.std.proofs.Common.{◌≡◌, ℕ, Bool, List, Result, Err, sym, subst, rules}
use Rattle.fs_verdict.specs.declared.shell.Made.{Made}
use Rattle.fs_draw.specs.Faults.{IsFaultOfPicture}
use Rattle.fs_draw.specs.Makes.{MakesPicture}
use Rattle.fs_draw.specs.declared.fault.DrawFault.{DrawFault}
use Rattle.fs_draw.proofs.running.draw_text.Goals as goal

pub returns-in_err-drawing : goal.returns-in_err-drawing
returns-in_err-drawing c =
    let e : ◌≡◌ {A = Result (Made Bool) DrawFault} c.from_residual.result (Err c.in_err-drawing.field-0.0) = search rules in
    let fault = subst (λ (t : List ℕ). IsFaultOfPicture c.args.schedule c.args.view.around t c.in_err-drawing.field-0.0) c.as_slice.ensures.value c.in_err-drawing.ensures.fault in
    subst (MakesPicture c.args.schedule c.args.view.around c.args.text.items) (sym e) (record { picture = tt; fault = fault })
