use Rattle.fs_verdict.proofs.KnownLemmas.{text_made}
use Rattle.fs_verdict.proofs.source.read_text.Goals as goal

pub returns-clause-same : goal.returns-clause-same
returns-clause-same g c = text_made (λ v. v.items) _ _ c.read_all.result c.read_all.ensures.ok c.read_all.ensures.end
