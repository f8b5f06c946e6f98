-- Ranges of bytes, from a place on and up to another.
use Rattle.std.specs.Prelude.{ℕ, List, ◌*◌, ◌-◌, ◌≤◌, length}
use Rattle.fs_blocks.specs.declared.piece.TheConstants.{SHARE}

-- a range of these bytes
pub record IsRange (bytes : List ℕ) (start end : ℕ) : Type 0 where
  pub order : start ≤ end
  pub within : end ≤ length bytes

-- a range of these bytes that may keep them alive
pub record IsShared (bytes : List ℕ) (start end : ℕ) : Type 0 where
  pub order : start ≤ end
  pub within : end ≤ length bytes
  pub share : length bytes ≤ (end - start) * SHARE
