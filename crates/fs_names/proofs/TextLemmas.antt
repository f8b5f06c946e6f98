-- How a path is written, name by name.
use Rattle.std.proofs.Common.{◌≡◌, ℕ, zero, suc, ◌+◌, ◌<◌, ◌≤◌, get_or, IsTrue, List, [], ◌∷◌, ◌++◌, length, drop, Some, refl, sym, ap, ◌∙◌, arith, append_assoc, add-one, length-append, slice_get, cond, is_ok, Result, Ok, Err, IsOk, rules}
use Rattle.std.proofs.lemmas.Bool.Decides.{nat_tests}
use Rattle.fs_names.specs.Names.{Name, can_name}
use Rattle.fs_names.specs.Keys.{Key, names_text}
use Rattle.fs_names.specs.Limits.{largest, name_limit}

-- the name at an index
pub name_at : (p : Key) (i : ℕ) (x : Name) → i < length p → x ≡ get_or p i x → slice_get p i ≡ Some x
name_at [] i x lt e = absurd (omega arith)
name_at (y ∷ p) zero x lt e = ap Some (sym e)
name_at (y ∷ p) (suc i) x lt e = name_at p i x (omega arith) e

-- a name and those behind it
drop_at : (p : Key) (i : ℕ) (x : Name) → slice_get p i ≡ Some x → drop i p ≡ x ∷ drop (suc i) p
drop_at [] i x e = absurd (cc)
drop_at (y ∷ p) zero x e = let s : y ≡ x = cc in ap (λ z. z ∷ p) s
drop_at (y ∷ p) (suc i) x e = drop_at p i x e

-- a slash and a name, and then the names behind it
pub names_text-drop : (p : Key) (i : ℕ) (x : Name) → slice_get p i ≡ Some x → names_text (drop i p) ≡ 47 ∷ (x ++ names_text (drop (i + 1) p))
names_text-drop p i x at = ap names_text (drop_at p i x at) ∙ ap (λ n. 47 ∷ (x ++ names_text (drop n p))) (sym (add-one i))

-- the same, counted in bytes
pub length-names_text-drop : (p : Key) (i : ℕ) (x : Name) → slice_get p i ≡ Some x → length (names_text (drop i p)) ≡ 1 + length x + length (names_text (drop (i + 1) p))
length-names_text-drop p i x at =
    let written = ap length (names_text-drop p i x at) in
    omega (arith, written, length-append x (names_text (drop (i + 1) p)))

-- a slash and a name are appended
pub name_written : (line middle new : List ℕ) (p : Key) (i : ℕ) (x : Name) → slice_get p i ≡ Some x → middle ≡ line ++ 47 ∷ [] → new ≡ middle ++ x
    → new ++ names_text (drop (i + 1) p) ≡ line ++ names_text (drop i p)
name_written line middle new p i x at slash name =
    ap (λ z. z ++ names_text (drop (i + 1) p)) (name ∙ ap (λ z. z ++ x) slash ∙ append_assoc line (47 ∷ []) x)
    ∙ append_assoc line (47 ∷ x) (names_text (drop (i + 1) p)) ∙ ap (λ z. line ++ z) (sym (names_text-drop p i x at))

-- a name has no more bytes than the limit
pub name_short : (x : Name) → IsTrue (can_name x) → length x ≤ name_limit largest
name_short x h = grind (arith, nat_tests)

-- what holds of a success and what of a refusal, where it is a success
pub if_ok : {T E A : Type 0} (r : Result T E) (x y : A) → IsOk r → cond (is_ok r) x y ≡ x
if_ok (Ok v) x y h = refl
if_ok (Err e) x y h = absurd (search rules)
