use Rattle.std.proofs.Common.{◌≡◌, true, sym, subst}
use Rattle.fs_linearize_histories.specs.Heard.{Matches}
use Rattle.fs_linearize_histories.specs.declared.heard.Pattern.{Pattern}
use Rattle.fs_linearize_histories.proofs.HistoryLemmas.{same_exact}
use Rattle.fs_linearize_histories.proofs.heard.Pattern.matches.Goals as goal

pub returns-in-Exactly : goal.returns-in-Exactly
returns-in-Exactly c =
    subst (λ (p : Pattern). (c.same.result ≡ true → Matches p c.args.reply.now) × (Matches p c.args.reply.now → c.same.result ≡ true)) (sym c.in-Exactly.is)
    (same_exact _ _ _ c.same.ensures)
