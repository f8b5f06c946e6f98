-- What the code's tests mean.
use Rattle.std.proofs.Common.{◌≡◌, ℕ, Bool, true, List, [], ◌∷◌, ◌++◌, Option, Some, refl, sym, ap, ◌∙◌, subst}
use Rattle.fs_calls.specs.declared.call.Call.{Call}
use Rattle.fs_calls.specs.declared.reply.Reply.{Reply}
use Rattle.fs_linearize_histories.specs.declared.heard.Heard.{Heard}
use Rattle.fs_linearize_histories.specs.declared.heard.Pattern.{Pattern}
use Rattle.fs_linearize_histories.specs.Heard.{Matches}
use Rattle.fs_linearize_histories.specs.Configurations.{Configuration, committed}
use Rattle.fs_linearize_histories.specs.Early.{CanCommitEarly, SettlesBy, Settles}

pub fits_some : (a : Reply) (p : Pattern) (t : Bool) (o : Option Pattern) → (t ≡ true → Matches p a) × (Matches p a → t ≡ true) → o ≡ Some p
    → (t ≡ true → (q : Pattern) → o ≡ Some q → Matches q a) × (((q : Pattern) → o ≡ Some q → Matches q a) → t ≡ true)
fits_some a p t o test is = (
  λ h q told. let both : Some p ≡ Some q = sym is ∙ told in let same : p ≡ q = cc in subst (λ (k : Pattern). Matches k a) same (test.0 h),
  λ h. test.1 (h p is),
)

settles_push : (h : List Heard) (x y : Configuration) (qs : List (ℕ × Call)) (q : ℕ × Call) → SettlesBy h x qs y → CanCommitEarly h y q.0 q.1 → SettlesBy h x (qs ++ q ∷ []) (committed y q.0 q.1)
settles_push h x y [] q same early = (subst (λ z. CanCommitEarly h z q.0 q.1) (sym same) early, ap (λ z. committed z q.0 q.1) same)
settles_push h x y (s ∷ qs) q settles early = (settles.0, settles_push h (committed x s.0 s.1) y qs q settles.1 early)

-- one more call commits early
pub settles_more : (h : List Heard) (x y z : Configuration) (c : ℕ) → Settles h x y → ((call : Call) × CanCommitEarly h y c call × (z ≡ committed y c call)) → Settles h x z
settles_more h x y z c settles e = (settles.0 ++ (c, e.0) ∷ [], subst (SettlesBy h x (settles.0 ++ (c, e.0) ∷ [])) (sym e.2) (settles_push h x y settles.0 (c, e.0) settles.1 e.1))

pub settles_none : (h : List Heard) (x : Configuration) → Settles h x x
settles_none h x = ([], refl)

settles_append : (h : List Heard) (x y z : Configuration) (ps qs : List (ℕ × Call)) → SettlesBy h x ps y → SettlesBy h y qs z → SettlesBy h x (ps ++ qs) z
settles_append h x y z [] qs same more = subst (λ w. SettlesBy h w qs z) (sym same) more
settles_append h x y z (p ∷ ps) qs settles more = (settles.0, settles_append h (committed x p.0 p.1) y z ps qs settles.1 more)

pub settles_on : (h : List Heard) (x y z : Configuration) → Settles h x y → Settles h y z → Settles h x z
settles_on h x y z s t = (s.0 ++ t.0, settles_append h x y z s.0 t.0 s.1 t.1)
