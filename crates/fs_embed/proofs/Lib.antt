mod ShownLemmas
mod KeepingLemmas
mod Progress
