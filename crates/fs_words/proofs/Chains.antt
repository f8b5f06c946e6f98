-- What is added to a text, piece behind piece.
use Rattle.std.proofs.Common.{◌≡◌, ℕ, List, ◌++◌, ap, ◌∙◌, append_assoc}

pub added : (old piece rest middle new : List ℕ) → middle ≡ old ++ piece → new ≡ middle ++ rest → new ≡ old ++ (piece ++ rest)
added old piece rest middle new one more = more ∙ ap (λ l. l ++ rest) one ∙ append_assoc old piece rest

-- the same of a piece and a number
pub added_number : (old piece digits rest middle new : List ℕ) → middle ≡ old ++ piece ++ digits → new ≡ middle ++ rest → new ≡ old ++ (piece ++ (digits ++ rest))
added_number old piece digits rest middle new one more =
    added old (piece ++ digits) rest middle new (one ∙ append_assoc old piece digits) more ∙ ap (λ l. old ++ l) (append_assoc piece digits rest)
