-- What is asserted by the values of an option.
use Rattle.std.proofs.Common.{ℕ, ◌≡◌, ◌++◌, List, [], ◌∷◌, map, Option, Some, None, Result, Ok, Err, OnOk, refl, ap, ◌∙◌}
use Rattle.std.specs.Prelude.{option_map, unwrap_or}
use Rattle.std.specs.Borrow.{Bor}
use Rattle.clap.specs.Matches.{raw_values}
use Rattle.clap.specs.declared.parser.matches.MatchedArg.{MatchedArg}
use Rattle.atomfs_arguments.specs.Commands.{values_in}
use Rattle.fs_sched_outcomes.specs.declared.assertion.Quantifier.{Quantifier}

-- the texts of an option that is given are its values
are_values : (texts : List (List ℕ)) (given : Option MatchedArg) → Some texts ≡ option_map raw_values given → texts ≡ values_in given
are_values texts None same = absurd cc
are_values texts (Some g) same = ap (λ o. unwrap_or o texts) same

said_each : (q : Quantifier) (texts : List (Bor (List ℕ))) → map {B = Quantifier × List ℕ} (λ (text : Bor (List ℕ)). (q, text.now)) texts ≡ map {B = Quantifier × List ℕ} (λ (text : List ℕ). (q, text)) (map (λ (text : Bor (List ℕ)). text.now) texts)
said_each q [] = refl
said_each q (t ∷ texts) = ap (λ (more : List (Quantifier × List ℕ)). (q, t.now) ∷ more) (said_each q texts)

pub texts_said : {X E : Type 0} (r : Result X E) (q : Quantifier) (old new : List (Quantifier × List ℕ)) (texts : List (Bor (List ℕ))) (given : Option MatchedArg)
    → Some (map (λ (text : Bor (List ℕ)). text.now) texts) ≡ option_map raw_values given
    → OnOk r (new ≡ old ++ map {B = Quantifier × List ℕ} (λ (text : Bor (List ℕ)). (q, text.now)) texts) → OnOk r (new ≡ old ++ map {B = Quantifier × List ℕ} (λ (text : List ℕ). (q, text)) (values_in given))
texts_said (Ok x) q old new texts given same is = is ∙ ap (λ (more : List (Quantifier × List ℕ)). old ++ more) (said_each q texts ∙ ap (map {B = Quantifier × List ℕ} (λ (text : List ℕ). (q, text))) (are_values _ given same))
texts_said (Err e) q old new texts given same is = tt
