-- Events: each keeps what every state keeps.
pub mod TwoCalls
pub mod OneCallChanged
pub mod OtherChanges
pub mod Help
pub mod JustFinished
pub mod Commit
pub mod CarryOut
pub mod RecordChanged
pub mod Take
pub mod LetGo
pub mod Return
pub mod Begin
