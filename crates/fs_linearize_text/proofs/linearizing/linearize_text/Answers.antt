use Rattle.std.proofs.Common.{List, Result, subst, ap, ◌∙◌}
use Rattle.fs_calls.specs.Starts.{Start}
use Rattle.fs_linearize_histories.specs.declared.heard.Heard.{Heard}
use Rattle.fs_words.specs.declared.fault.ScriptFault.{ScriptFault}
use Rattle.fs_words.proofs.ReadLemmas.{words_in}
use Rattle.fs_linearize_text.specs.Makes.{MakesFound}
use Rattle.fs_linearize_text.proofs.ReadingLemmas.{within}
use Rattle.fs_linearize_text.proofs.linearizing.linearize_text.Goals as goal

pub returns : goal.returns
returns g c =
    let lines = c.in_ok-lines.ensures.ok in
    subst (λ (given : Result (Start × List Heard) ScriptFault). MakesFound given c.args.limit c.args.front c.linearize_lines.result)
    (within c.args.dialect.now c.args.text.now (words_in c.deref.result.now) lines.0 (ap words_in c.deref.ensures.value ∙ lines.1)) c.linearize_lines.ensures
