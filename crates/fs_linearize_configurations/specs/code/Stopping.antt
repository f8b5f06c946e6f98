-- Whether an entry passes a layer.
use Rattle.std.specs.Prelude.{◌≡◌, ℕ, Bool, true, false, ◌||◌, List, [], ◌∷◌}
use Rattle.fs_linearize_histories.specs.declared.heard.Heard.{Heard}
use Rattle.fs_linearize_histories.specs.declared.heard.Heard.TheVariants.{Begin, Return}
use Rattle.fs_linearize_histories.specs.declared.heard.Pattern.{Pattern}
use Rattle.fs_linearize_histories.specs.Configurations.{is_in}
use Rattle.fs_linearize_configurations.specs.declared.reached.Reached.{Reached}

-- whether a call has committed in a configuration of a layer
abbrev pub is_held : ℕ → List Reached → Bool
is_held c [] = false
is_held c (r ∷ layer) = is_in c r.configuration.held || is_held c layer

-- an entry is a return of a call
abbrev pub Returns : Heard → ℕ → Type 0
Returns e c = (p : Pattern) × (e ≡ Return c p)

-- an entry passes some configuration of a layer that has any
abbrev pub CanPass : Heard → List Reached → Type 0
CanPass (Begin c seat call) layer = Unit {0}
CanPass (Return c p) layer = is_held c layer ≡ true
