-- Laws of what follows a prefix.
use Rattle.std.proofs.Common.{◌≡◌, true, false, cond, [], ◌∷◌, ◌++◌, Some, None, refl, append_assoc}
use Rattle.fs_names.specs.Keys.{Key, after_prefix}
use Rattle.fs_names.proofs.Lemmas.{same_name_refl, same_name_exact, after_prefix-append, after_prefix-exact}
use Rattle.fs_names.specs.Names.{Name, same_name}

pub same_refl : (x : Name) → same_name x x ≡ true
same_refl x = same_name_refl x

pub same_true : (x y : Name) → same_name x y ≡ true → x ≡ y
same_true x y e = same_name_exact x y e

pub prefix_append : (k r : Key) → after_prefix k (k ++ r) ≡ Some r
prefix_append k r = after_prefix-append k r

pub prefix_some : (k key r : Key) → after_prefix k key ≡ Some r → key ≡ k ++ r
prefix_some k key r e = after_prefix-exact k key r e

-- three ways in which two keys can lie: b begins with a, a begins with b, or neither
pub data Lie (a b : Key) : Type 0 where
  Above : (r : Key) → b ≡ a ++ r → Lie a b
  Under : (r : Key) → a ≡ b ++ r → Lie a b
  Apart : after_prefix a b ≡ None → after_prefix b a ≡ None → Lie a b

-- behind a key that begins with k, what is left grows at its end
pub prefix_longer : (k a b r : Key) → after_prefix k a ≡ Some r → after_prefix k (a ++ b) ≡ Some (r ++ b)
prefix_longer k a b r e = rw (prefix_some k a r e, append_assoc) (prefix_append k (r ++ b))

-- what does not lie apart at a key lies apart nowhere below it
pub prefix_none : (k a b : Key) → after_prefix k a ≡ None → after_prefix a k ≡ None → after_prefix k (a ++ b) ≡ None
prefix_none [] a b e f = cc
prefix_none (x ∷ k) [] b e f = cc
prefix_none (x ∷ k) (y ∷ a) b e f =
    (elim (same_name x y) as (λ c. same_name x y ≡ c → cond c (after_prefix k (a ++ b)) None ≡ None) [
      | true ↦ λ s. prefix_none k a b (rw s at e) (let n : x ≡ y = same_true x y s in let g : cond (same_name y x) (after_prefix a k) None ≡ None = f in let h : same_name y x ≡ true = rw n (same_refl y) in rw h at g)
      | false ↦ λ s. refl
    ]) refl

-- two keys below one key lie as what is left of them does
pub prefix_both : (s k r : Key) → after_prefix (s ++ k) (s ++ r) ≡ after_prefix k r
prefix_both [] k r = refl
prefix_both (x ∷ s) k r = rw (same_refl x) (prefix_both s k r)

-- what does not begin with s does not begin with a key below s
pub prefix_deeper : (s k key : Key) → after_prefix s key ≡ None → after_prefix (s ++ k) key ≡ None
prefix_deeper [] k key e = cc
prefix_deeper (x ∷ s) k [] e = refl
prefix_deeper (x ∷ s) k (y ∷ key) e =
    (elim (same_name x y) as (λ c. same_name x y ≡ c → cond c (after_prefix (s ++ k) key) None ≡ None) [
      | true ↦ λ h. prefix_deeper s k key (rw h at e)
      | false ↦ λ h. refl
    ]) refl
