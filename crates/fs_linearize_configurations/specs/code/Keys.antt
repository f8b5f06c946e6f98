-- Keys of lists of numbers, and where the same key stands.
use Rattle.std.specs.Prelude.{◌≡◌, ◌<◌, ◌*◌, ◌%◌, ◌/◌, ◌^◌, ℕ, List, [], ◌∷◌, bit_xor, slice_get, Option, Some, None}

-- one number more is mixed into a key
abbrev pub mixed : ℕ → ℕ → ℕ
mixed key number = let product = (bit_xor key number * 11400714819323198485) % 2 ^ 64 in bit_xor product (product / 2 ^ 29)

-- the key of a list, by the numbers in turn
abbrev pub key_from : ℕ → List ℕ → ℕ
key_from key [] = key
key_from key (n ∷ numbers) = key_from (mixed key n) numbers

abbrev pub key_of : List ℕ → ℕ
key_of numbers = key_from 0 numbers

-- the last place below a bound with a key, if there is one
abbrev pub IsLastWith : List ℕ → ℕ → ℕ → Option ℕ → Type 0
IsLastWith keys key bound None = (i : ℕ) → i < bound → slice_get keys i ≡ Some key → ⊥
IsLastWith keys key bound (Some place) = (place < bound) × (slice_get keys place ≡ Some key) × ((i : ℕ) → place < i → i < bound → slice_get keys i ≡ Some key → ⊥)
