-- The nodes that a call holds, in the order taken.
use Rattle.std.specs.Prelude.{ℕ, List, [], ◌∷◌, Option, Some, None}

-- the node taken first
abbrev pub first_of : List ℕ → Option ℕ
first_of [] = None
first_of (n ∷ nodes) = Some n

-- the node taken last
abbrev pub last_of : List ℕ → Option ℕ
last_of [] = None
last_of (n ∷ []) = Some n
last_of (n ∷ m ∷ nodes) = last_of (m ∷ nodes)
