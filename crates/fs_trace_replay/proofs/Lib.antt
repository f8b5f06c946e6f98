mod CommitLemmas
mod ChangeLemmas
mod TurnLemmas
mod AnswerLemmas
mod WritingLemmas
