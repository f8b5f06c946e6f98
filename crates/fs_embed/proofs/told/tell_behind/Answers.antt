use Rattle.std.proofs.Common.{length, arith}
use Rattle.fs_embed.specs.code.Shown.{behind, shown}
use Rattle.fs_embed.proofs.ShownLemmas.{are_shown}
use Rattle.fs_embed.proofs.told.tell_behind.Goals as goal

-- where there is no memory for the names, they are those that would be shown
pub returns-in-Err-clause-told : goal.returns-in-Err-clause-told
returns-in-Err-clause-told c =
    rw (c.in-Names.is) (
      shown (length c.args.out.now) (behind c.args.after.now c.in-Names.names),
      are_shown c.in-Names.names c.args.after.now (length c.args.out.now),
      (λ e. absurd (omega (arith, e)), λ e. absurd (omega (arith, e))),
      omega arith,
    )
