-- What options that are equal have in them.
use Rattle.std.proofs.Common.{◌≡◌, ℕ, List, Some, None, Option, ap, refl}
use Rattle.std.specs.Prelude.{unwrap_or}
use Rattle.clap.specs.Matches.{one_text}
use Rattle.clap.specs.declared.parser.matches.Found.{Found}
use Rattle.atomfs_arguments.specs.Commands.{GivesNumber, IsNumberOf}

-- what is in an option is what is in an equal one
pub in_some : {A : Type 0} (x y : A) → Some x ≡ Some y → x ≡ y
in_some x y same = ap (λ o. unwrap_or o x) same

-- and nothing is in none
pub nothing : {A : Type 0} (x : A) → None ≡ Some x → ⊥
nothing x same = cc

-- the number that an option gives, or none, is what is read of it
pub number_is : (found : Found) (id : List ℕ) (read wanted : Option ℕ) → ((n : ℕ) → IsNumberOf found id n → read ≡ Some n) → (one_text found id ≡ None → read ≡ None) → GivesNumber found id wanted → read ≡ wanted
number_is found id read (Some n) given none is = given n is
number_is found id read None given none is = none is
