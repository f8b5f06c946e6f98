use Rattle.fs_explain.proofs.topic.topic_in.Goals as goal

pub returns-in-Err : goal.returns-in-Err
returns-in-Err c text topic e = absurd (c.in-Err.ensures.cases.0 text)
