use Rattle.std.proofs.Common.{rules}
use Rattle.fs_embed.proofs.ShownLemmas.{text_shown}
use Rattle.fs_embed.proofs.names.behind_text.Goals as goal

pub returns : goal.returns
returns c = text_shown c.args.names.now c.args.after.now c.args.room _ (search rules)
