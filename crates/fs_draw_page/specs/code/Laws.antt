-- What is made of an input is honest.
use Rattle.std.proofs.Common.{◌≡◌, ℕ, Bool, true, false, List, None, refl}
use Rattle.fs_words.specs.Headers.{is_too_long}
use Rattle.fs_verdict.specs.Commands.{IsHonest, wrapped}
use Rattle.fs_verdict.proofs.CheckLemmas.{verdict_short}
use Rattle.fs_sched.specs.declared.schedule.Schedule.{Schedule}
use Rattle.fs_sched.proofs.RunLemmas.{script_short}
use Rattle.fs_verdict.specs.Checks.{is_journal}
use Rattle.fs_draw.specs.code.Laws.{long_picture, no_device, no_memory}
use Rattle.fs_draw.specs.declared.fault.DrawFault.TheVariants.{Run}
use Rattle.fs_draw_page.specs.Pages.{IsPlayedAs}
use Rattle.fs_draw_page.specs.Makes.{MakesPage}

-- what is played is not too long
played_short : (journal : Bool) (schedule : Schedule) (text played : List ℕ) (well : Bool) → IsPlayedAs journal schedule text well played → is_too_long text ≡ false
played_short true schedule text played well is = verdict_short text text is.0 refl is.1
played_short false schedule text played well is = script_short text text is.1.0 refl is.1.1

pub page_honest : (schedule : Schedule) → IsHonest (MakesPage schedule) (wrapped Run)
page_honest schedule = record {
  short = λ text made is. played_short (is_journal text) schedule text is.page.0 made.end is.page.3;
  long = λ text input fault long too is. record { page = tt; fault = long_picture schedule None text input fault long too is.fault };
  unblamed = λ text fault is. no_device schedule None text fault is.fault;
  memory = no_memory;
}
