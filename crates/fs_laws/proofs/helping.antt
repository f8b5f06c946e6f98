-- Placed calls: what they read and change, and that a finish goes past them.
pub mod FinishPassesPlaced
pub mod MovesSpareOthers
pub mod SettledThroughRename
pub mod SettledThroughHelp
pub mod ReadsNothingBelow
pub mod PairsReadNothingBelow
pub mod WhoStandsBelow
pub mod NobodyEnters
pub mod HelpedLeave
pub mod WhomToHelp
pub mod SettledAlone
