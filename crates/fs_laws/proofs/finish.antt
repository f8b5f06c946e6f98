-- A finish: its reply and its change are those of the sequential tree.
pub mod RowParts
pub mod PairRows
pub mod Readings
pub mod Pairs
pub mod Replies
pub mod Swaps
pub mod TreeAfter
pub mod RealMoves
pub mod Changes
pub mod RenameChanges
pub mod ExchangeChanges
pub mod EachCall
pub mod Kinds
pub mod Limits
