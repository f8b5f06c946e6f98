-- What a picture shows, by its parts.
use Rattle.std.proofs.Common.{◌≡◌, ℕ, Bool, Option, ap, ◌∙◌}
use Rattle.fs_draw.specs.declared.view.View.{View}

-- a view with these parts
abbrev pub made : Option ℕ → Option ℕ → Bool → View
made around width folds = record { around = around; width = width; folds = folds }

-- is this one, if its parts are
pub view_is : (view : View) (around width : Option ℕ) (folds : Bool) → around ≡ view.around → width ≡ view.width → folds ≡ view.folds → made around width folds ≡ view
view_is view around width folds a w f =
    ap (λ (x : Option ℕ). made x width folds) a ∙ ap (λ (x : Option ℕ). made view.around x folds) w ∙ ap (λ (x : Bool). made view.around view.width x) f
