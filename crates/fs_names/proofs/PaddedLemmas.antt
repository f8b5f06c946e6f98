-- Names in place, with zeros behind them.
use Rattle.std.proofs.Common.{◌≡◌, ℕ, zero, suc, ◌+◌, ◌*◌, List, [], ◌∷◌, ◌++◌, length, take, drop, replicate, refl, sym, ap, subst, ◌∙◌, arith}
use Rattle.std.specs.List.{AllByRecursion}
use Rattle.fs_names.specs.Heads.{number_with, AreBytes, IsHead}
use Rattle.fs_names.specs.code.HeldNames.{IsPadded}

-- nothing but zeros
abbrev AreZeros : List ℕ → Type 0
AreZeros room = AllByRecursion (λ b. b ≡ 0) room

-- what is left of zeros is zeros
pub zeros_left : (n m : ℕ) → AreZeros (drop n (replicate m 0))
zeros_left zero zero = tt
zeros_left zero (suc m) = (refl, zeros_left zero m)
zeros_left (suc n) zero = tt
zeros_left (suc n) (suc m) = zeros_left n m

-- bytes with zeros behind them
pub padded : (bytes new zeros : List ℕ) → new ≡ bytes → AreZeros zeros → IsPadded (length bytes) (new ++ zeros)
padded bytes new zeros e h = subst (λ z. IsPadded (length bytes) (z ++ zeros)) (sym e) (from bytes)
  where
    from : (xs : List ℕ) → IsPadded (length xs) (xs ++ zeros)
    from [] = h
    from (x ∷ xs) = from xs

-- zeros make the number that no bytes make
number_of_zeros : (n k : ℕ) (room : List ℕ) → AreZeros room → number_with n k room ≡ number_with n k []
number_of_zeros n zero room h = refl
number_of_zeros n (suc k) [] h = refl
number_of_zeros n (suc k) (b ∷ room) h = ap (λ z. number_with (n * 256 + z) k room) h.0 ∙ number_of_zeros (n * 256 + 0) k room h.1

-- the number of bytes is that of the bytes with zeros behind them
number_padded : (n k len : ℕ) (room : List ℕ) → IsPadded len room → number_with n k room ≡ number_with n k (take len room)
number_padded n zero len room h = refl
number_padded n (suc k) zero room h = number_of_zeros n (suc k) room h
number_padded n (suc k) (suc len) [] h = absurd h
number_padded n (suc k) (suc len) (b ∷ room) h = number_padded (n * 256 + b) k len room h

-- so many of the first of them are bytes too
bytes_padded : (k len : ℕ) (room : List ℕ) → AreBytes k room → AreBytes k (take len room)
bytes_padded zero len room h = tt
bytes_padded (suc k) zero room h = (omega arith, of_none k)
  where
    of_none : (n : ℕ) → AreBytes n []
    of_none zero = tt
    of_none (suc n) = (omega arith, of_none n)
bytes_padded (suc k) (suc len) [] h = h
bytes_padded (suc k) (suc len) (b ∷ room) h = (h.0, bytes_padded k len room h.1)

-- the number of a name is that of the room in which it stands
pub head_padded : (head len : ℕ) (room : List ℕ) → IsPadded len room → IsHead head room → IsHead head (take len room)
head_padded head len room p h = record {
  bytes = bytes_padded 8 len room h.bytes;
  is = h.is ∙ number_padded 0 8 len room p;
}
