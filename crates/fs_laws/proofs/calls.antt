-- One call under way: where it stands, what it holds, and that its moves come to its finish.
pub mod Located
pub mod Behind
pub mod OwnRecord
pub mod NodesHeld
pub mod TakesAtTarget
pub mod Takes
pub mod HeadOrder
pub mod FinishedHoldings
pub mod OneUnfinishedCall
pub mod NextMoves
pub mod GoingOnAlone
