-- The slots beside the lists of siblings: what keeps them an index of the entries.
use Rattle.std.proofs.Common.{◌≡◌, ℕ, zero, suc, ◌+◌, ◌-◌, ◌*◌, ◌<◌, ◌≤◌, Bool, true, false, cond, eqb, ◌&&◌, List, [], ◌∷◌, ◌++◌, Option, Some, None, is_some, ◌⊎◌, inl, inr, get_or, set, length, replicate, max, take, refl, sym, ap, subst, ◌∙◌, arith, get_or-set_same, get_or-set_other, length-set}
use Rattle.std.specs.List.{All}
use Rattle.std.proofs.lemmas.List.{length-replicate, get_or_default, set_at, take_more, length-take-le, length_push, get_or_push}
use Rattle.std.proofs.lemmas.Bool.{cases_lt}
use Rattle.std.proofs.lemmas.List.Sums.{sum_by-cons, sum_by-set, sum_by_push, sum_by-le}
use Rattle.fs_names.specs.declared.limits.TheConstants.{NODE_LIMIT}
use Rattle.fs_nodes_places.specs.declared.key.Key.{Key}
use Rattle.fs_nodes.specs.declared.index.Slot.{Slot}
use Rattle.fs_nodes.specs.declared.index.TheConstants.{WINDOW}
use Rattle.fs_nodes.specs.code.Indexes.{free_slot, slot_at, key_at, home_of, key_in, reaching, holding, freeing, slot_weight, key_weight, with_slot, at_home, IsIndexOf, IsIndex, IsTable, IsSome, IsFreeIn, IsHeldIn}
use Rattle.fs_calls.proofs.EqualLemmas.{eqb_true, eqb_refl}

-- an element that is read after a write
read_set : {A : Type 0} (xs : List A) (i j : ℕ) (y d : A) → i < length xs → get_or (set xs i y) j d ≡ cond (eqb j i) y (get_or xs j d)
read_set xs i j y d h = go (eqb j i) refl
  where
    go : (b : Bool) → eqb j i ≡ b → get_or (set xs i y) j d ≡ cond b y (get_or xs j d)
    go true e = ap (λ (k : ℕ). get_or (set xs i y) k d) (eqb_true j i e) ∙ get_or-set_same xs i y d h
    go false e = get_or-set_other xs i j y d (λ s. let w : true ≡ false = sym (eqb_refl i) ∙ sym (ap (λ (k : ℕ). eqb k i) s) ∙ e in absurd (cc))

-- a slot that is read after each of the writes
reaching_read : (slots : List Slot) (home reach k : ℕ) → home < length slots → slot_at (reaching home reach slots) k ≡ record (slot_at slots k) { reach = cond (eqb k home) reach (slot_at slots k).reach }
reaching_read slots home reach k h = read_set slots home k (record (slot_at slots home) { reach = reach }) free_slot h ∙ go (eqb k home) refl
  where
    go : (b : Bool) → eqb k home ≡ b → cond b (record (slot_at slots home) { reach = reach }) (slot_at slots k) ≡ record (slot_at slots k) { reach = cond b reach (slot_at slots k).reach }
    go true e = ap (λ (i : ℕ). record (slot_at slots i) { reach = reach }) (sym (eqb_true k home e))
    go false e = refl

holding_read : (slots : List Slot) (at : ℕ) (key : Key) (n k : ℕ) → at < length slots → slot_at (holding at key n slots) k ≡ record (slot_at slots k) { dir = cond (eqb k at) key.dir (slot_at slots k).dir; hash = cond (eqb k at) key.hash (slot_at slots k).hash; node = cond (eqb k at) (Some n) (slot_at slots k).node }
holding_read slots at key n k h = read_set slots at k (record (slot_at slots at) { dir = key.dir; hash = key.hash; node = Some n }) free_slot h ∙ go (eqb k at) refl
  where
    go : (b : Bool) → eqb k at ≡ b → cond b (record (slot_at slots at) { dir = key.dir; hash = key.hash; node = Some n }) (slot_at slots k) ≡ record (slot_at slots k) { dir = cond b key.dir (slot_at slots k).dir; hash = cond b key.hash (slot_at slots k).hash; node = cond b (Some n) (slot_at slots k).node }
    go true e = ap (λ (i : ℕ). record (slot_at slots i) { dir = key.dir; hash = key.hash; node = Some n }) (sym (eqb_true k at e))
    go false e = refl

freeing_read : (slots : List Slot) (at k : ℕ) → at < length slots → slot_at (freeing at slots) k ≡ record (slot_at slots k) { node = cond (eqb k at) None (slot_at slots k).node }
freeing_read slots at k h = read_set slots at k (record (slot_at slots at) { node = None }) free_slot h ∙ go (eqb k at) refl
  where
    go : (b : Bool) → eqb k at ≡ b → cond b (record (slot_at slots at) { node = None }) (slot_at slots k) ≡ record (slot_at slots k) { node = cond b None (slot_at slots k).node }
    go true e = ap (λ (i : ℕ). record (slot_at slots i) { node = None }) (sym (eqb_true k at e))
    go false e = refl

-- what is not free is within
pub slot_within : (slots : List Slot) (k n : ℕ) → (slot_at slots k).node ≡ Some n → k < length slots
slot_within [] k n e = cc
slot_within (s ∷ slots) zero n e = omega arith
slot_within (s ∷ slots) (suc k) n e = let h : k < length slots = slot_within slots k n e in omega arith

key_within : (keys : List (Option Key)) (n : ℕ) (key : Key) → key_at keys n ≡ Some key → n < length keys
key_within [] n key e = cc
key_within (o ∷ keys) zero key e = omega arith
key_within (o ∷ keys) (suc n) key e = let h : n < length keys = key_within keys n key e in omega arith

-- a write to one key leaves those of other nodes
other_key : (keys : List (Option Key)) (n m : ℕ) (o : Option Key) → (m ≡ n → ⊥) → key_at (set keys n o) m ≡ key_at keys m
other_key keys n m o h = get_or-set_other keys n m o None h

-- how many entries a home has once there is one more, or one less
one_more : (homes home : ℕ) (keys : List (Option Key)) (n : ℕ) (key : Key) → n < length keys → key_at keys n ≡ None → at_home homes (set keys n (Some key)) home ≡ at_home homes keys home + cond (eqb home (home_of homes key.hash)) 1 0
one_more homes home keys n key h e =
    let s : at_home homes (set keys n (Some key)) home + key_weight homes home (key_at keys n) ≡ at_home homes keys home + key_weight homes home (Some key) = sum_by-set (key_weight homes home) keys n (Some key) None h in
    let z : key_weight homes home (key_at keys n) ≡ 0 = ap (key_weight homes home) e in
    omega arith

one_less : (homes home : ℕ) (keys : List (Option Key)) (n : ℕ) (key : Key) → key_at keys n ≡ Some key → at_home homes (set keys n None) home + cond (eqb home (home_of homes key.hash)) 1 0 ≡ at_home homes keys home
one_less homes home keys n key e =
    let s : at_home homes (set keys n None) home + key_weight homes home (key_at keys n) ≡ at_home homes keys home + key_weight homes home None = sum_by-set (key_weight homes home) keys n None None (key_within keys n key e) in
    let z : key_weight homes home (key_at keys n) ≡ cond (eqb home (home_of homes key.hash)) 1 0 = ap (key_weight homes home) e in
    omega arith

-- no home has more entries with slots than entries
fewer : (homes home : ℕ) (slots : List Slot) (keys : List (Option Key)) → ((k n : ℕ) → (slot_at slots k).node ≡ Some n → key_at keys n ≡ Some (key_in (slot_at slots k))) → ((k l n : ℕ) → (slot_at slots k).node ≡ Some n → (slot_at slots l).node ≡ Some n → k ≡ l) → with_slot homes slots home ≤ at_home homes keys home
fewer homes home [] keys told once = omega arith
fewer homes home (s ∷ slots) keys told once = go s.node refl (λ others t o. fewer homes home slots others t o)
  where
    rest : (k l n : ℕ) → (slot_at slots k).node ≡ Some n → (slot_at slots l).node ≡ Some n → k ≡ l
    rest k l n e f = let h : suc k ≡ suc l = once (suc k) (suc l) n e f in omega arith

    weight : (o : Option ℕ) → s.node ≡ o → slot_weight homes home s ≡ cond (is_some o && eqb home (home_of homes s.hash)) 1 0
    weight o e = ap (λ (z : Option ℕ). cond (is_some z && eqb home (home_of homes s.hash)) 1 0) e

    Fewer : Type 0
    Fewer = (others : List (Option Key)) → ((k n : ℕ) → (slot_at slots k).node ≡ Some n → key_at others n ≡ Some (key_in (slot_at slots k))) → ((k l n : ℕ) → (slot_at slots k).node ≡ Some n → (slot_at slots l).node ≡ Some n → k ≡ l) → with_slot homes slots home ≤ at_home homes others home

    go : (o : Option ℕ) → s.node ≡ o → Fewer → with_slot homes (s ∷ slots) home ≤ at_home homes keys home
    go None e more =
        let h : with_slot homes slots home ≤ at_home homes keys home = more keys (λ k n f. told (suc k) n f) rest in
        let c : with_slot homes (s ∷ slots) home ≡ slot_weight homes home s + with_slot homes slots home = sum_by-cons (slot_weight homes home) s slots in
        let w : slot_weight homes home s ≡ 0 = weight None e in
        omega arith
    go (Some n) e more =
        let here : key_at keys n ≡ Some (key_in s) = told 0 n e in
        let h : with_slot homes slots home ≤ at_home homes (set keys n None) home = more (set keys n None) (λ k m f. other_key keys n m None (λ g. apart k m f g) ∙ told (suc k) m f) rest in
        let c : with_slot homes (s ∷ slots) home ≡ slot_weight homes home s + with_slot homes slots home = sum_by-cons (slot_weight homes home) s slots in
        let w : slot_weight homes home s ≡ cond (eqb home (home_of homes s.hash)) 1 0 = weight (Some n) e in
        let l : at_home homes (set keys n None) home + cond (eqb home (home_of homes s.hash)) 1 0 ≡ at_home homes keys home = one_less homes home keys n (key_in s) here in
        omega arith
      where
        apart : (k m : ℕ) → (slot_at slots k).node ≡ Some m → m ≡ n → ⊥
        apart k m f g = let h : 0 ≡ suc k = once 0 (suc k) n e (f ∙ ap (λ (z : ℕ). Some z) g) in omega arith

-- where an entry has no slot, the reach of its home says so
pub beyond : (homes : ℕ) (slots : List Slot) (keys : List (Option Key)) (n : ℕ) (key : Key) → IsIndexOf homes slots keys → key_at keys n ≡ Some key → ((k : ℕ) → (slot_at slots k).node ≡ Some n → ⊥) → WINDOW < (slot_at slots (home_of homes key.hash)).reach
beyond homes slots keys n key s e none =
    let home : ℕ = home_of homes key.hash in
    let h : with_slot homes slots (home_of homes key.hash) ≤ at_home homes (set keys n None) (home_of homes key.hash) = fewer homes (home_of homes key.hash) slots (set keys n None) (λ k m f. other_key keys n m None (λ g. none k (f ∙ ap (λ (z : ℕ). Some z) g)) ∙ s.told k m f) s.once in
    let l : at_home homes (set keys n None) (home_of homes key.hash) + cond (eqb (home_of homes key.hash) (home_of homes key.hash)) 1 0 ≡ at_home homes keys (home_of homes key.hash) = one_less homes (home_of homes key.hash) keys n key e in
    let o : cond {A = ℕ} (eqb (home_of homes key.hash) (home_of homes key.hash)) 1 0 ≡ 1 = ap (λ (b : Bool). cond {A = ℕ} b 1 0) (eqb_refl (home_of homes key.hash)) in
    let c : with_slot homes slots (home_of homes key.hash) + ((slot_at slots (home_of homes key.hash)).reach - WINDOW) ≡ at_home homes keys (home_of homes key.hash) = s.counted (home_of homes key.hash) in
    omega arith

-- another reach of one home
reach_changed : (homes : ℕ) (slots : List Slot) (keys others : List (Option Key)) (home reach : ℕ) → IsIndexOf homes slots keys → home < homes
    → ((k n : ℕ) → (slot_at slots k).node ≡ Some n → key_at others n ≡ key_at keys n)
    → ((k n : ℕ) → (slot_at slots k).node ≡ Some n → home_of homes (slot_at slots k).hash ≡ home → k < home + reach)
    → ((h : ℕ) → with_slot homes slots h + (cond (eqb h home) reach (slot_at slots h).reach - WINDOW) ≡ at_home homes others h)
    → IsIndexOf homes (reaching home reach slots) others
reach_changed homes slots keys others home reach s within same near counts = record {
  some = s.some;
  sized = length-set slots home (record (slot_at slots home) { reach = reach }) ∙ s.sized;
  told = λ k n e. same k n (node k n e) ∙ s.told k n (node k n e) ∙ sym (ap (λ (z : Slot). Some (key_in z)) (read k));
  once = λ k l n e f. s.once k l n (node k n e) (node l n f);
  after = λ k n e. subst (λ (z : Slot). home_of homes z.hash ≤ k) (sym (read k)) (s.after k n (node k n e));
  near = λ k n e. subst (λ (z : Slot). k < home_of homes z.hash + WINDOW) (sym (read k)) (s.near k n (node k n e));
  reached = λ k n e. subst (λ (z : Slot). k < home_of homes z.hash + (slot_at (reaching home reach slots) (home_of homes z.hash)).reach) (sym (read k)) (far k n (node k n e) (eqb (home_of homes (slot_at slots k).hash) home) refl);
  counted = λ h. sum h (ap (λ (z : Slot). z.reach) (read h));
}
  where
    read : (k : ℕ) → slot_at (reaching home reach slots) k ≡ record (slot_at slots k) { reach = cond (eqb k home) reach (slot_at slots k).reach }
    read k = reaching_read slots home reach k (let l : length slots ≡ homes + WINDOW = s.sized in omega arith)

    node : (k n : ℕ) → (slot_at (reaching home reach slots) k).node ≡ Some n → (slot_at slots k).node ≡ Some n
    node k n e = sym (ap (λ (z : Slot). z.node) (read k)) ∙ e

    far : (k n : ℕ) → (slot_at slots k).node ≡ Some n → (b : Bool) → eqb (home_of homes (slot_at slots k).hash) home ≡ b → k < home_of homes (slot_at slots k).hash + (slot_at (reaching home reach slots) (home_of homes (slot_at slots k).hash)).reach
    far k n e true f =
        let r : (slot_at (reaching home reach slots) (home_of homes (slot_at slots k).hash)).reach ≡ reach = ap (λ (z : Slot). z.reach) (read (home_of homes (slot_at slots k).hash)) ∙ ap (λ (b : Bool). cond b reach (slot_at slots (home_of homes (slot_at slots k).hash)).reach) f in
        let h : home_of homes (slot_at slots k).hash ≡ home = eqb_true (home_of homes (slot_at slots k).hash) home f in
        let w : k < home + reach = near k n e h in
        omega arith
    far k n e false f =
        let r : (slot_at (reaching home reach slots) (home_of homes (slot_at slots k).hash)).reach ≡ (slot_at slots (home_of homes (slot_at slots k).hash)).reach = ap (λ (z : Slot). z.reach) (read (home_of homes (slot_at slots k).hash)) ∙ ap (λ (b : Bool). cond b reach (slot_at slots (home_of homes (slot_at slots k).hash)).reach) f in
        let w : k < home_of homes (slot_at slots k).hash + (slot_at slots (home_of homes (slot_at slots k).hash)).reach = s.reached k n e in
        omega arith

    sum : (h : ℕ) → (slot_at (reaching home reach slots) h).reach ≡ cond (eqb h home) reach (slot_at slots h).reach → with_slot homes (reaching home reach slots) h + ((slot_at (reaching home reach slots) h).reach - WINDOW) ≡ at_home homes others h
    sum h r =
        let l : length slots ≡ homes + WINDOW = s.sized in
        let c : with_slot homes (reaching home reach slots) h + slot_weight homes h (slot_at slots home) ≡ with_slot homes slots h + slot_weight homes h (slot_at slots home) = sum_by-set (slot_weight homes h) slots home (record (slot_at slots home) { reach = reach }) free_slot (omega arith) in
        let d : with_slot homes slots h + (cond (eqb h home) reach (slot_at slots h).reach - WINDOW) ≡ at_home homes others h = counts h in
        omega arith

-- a reach within the window, that is no lesser
pub reach_more : (homes : ℕ) (slots : List Slot) (keys : List (Option Key)) (home reach : ℕ) → IsIndexOf homes slots keys → home < homes → (slot_at slots home).reach ≤ reach → reach - WINDOW ≡ (slot_at slots home).reach - WINDOW → IsIndexOf homes (reaching home reach slots) keys
reach_more homes slots keys home reach s within more same = reach_changed homes slots keys keys home reach s within (λ k n e. refl) near (λ h. counts h (eqb h home) refl)
  where
    near : (k n : ℕ) → (slot_at slots k).node ≡ Some n → home_of homes (slot_at slots k).hash ≡ home → k < home + reach
    near k n e h =
        let w : k < home + (slot_at slots home).reach = subst (λ (i : ℕ). k < i + (slot_at slots i).reach) h (s.reached k n e) in
        omega arith

    counts : (h : ℕ) (b : Bool) → eqb h home ≡ b → with_slot homes slots h + (cond b reach (slot_at slots h).reach - WINDOW) ≡ at_home homes keys h
    counts h true e =
        let c : with_slot homes slots h + ((slot_at slots h).reach - WINDOW) ≡ at_home homes keys h = s.counted h in
        let i : (slot_at slots h).reach ≡ (slot_at slots home).reach = ap (λ (k : ℕ). (slot_at slots k).reach) (eqb_true h home e) in
        omega arith
    counts h false e = s.counted h

-- a reach that goes back
pub reach_less : (homes : ℕ) (slots : List Slot) (keys : List (Option Key)) (home reach : ℕ) → IsIndexOf homes slots keys → home < homes → reach ≤ (slot_at slots home).reach → (slot_at slots home).reach ≤ WINDOW → ((k n : ℕ) → home + reach ≤ k → k < home + (slot_at slots home).reach → (slot_at slots k).node ≡ Some n → home_of homes (slot_at slots k).hash ≡ home → ⊥) → IsIndexOf homes (reaching home reach slots) keys
reach_less homes slots keys home reach s within less few none = reach_changed homes slots keys keys home reach s within (λ k n e. refl) near (λ h. counts h (eqb h home) refl)
  where
    near : (k n : ℕ) → (slot_at slots k).node ≡ Some n → home_of homes (slot_at slots k).hash ≡ home → k < home + reach
    near k n e h =
        let w : k < home + (slot_at slots home).reach = subst (λ (i : ℕ). k < i + (slot_at slots i).reach) h (s.reached k n e) in
        by (cases_lt k (home + reach)) w
      where
        by : (k < home + reach) ⊎ (home + reach ≤ k) → k < home + (slot_at slots home).reach → k < home + reach
        by (inl g) w = g
        by (inr g) w = absurd (none k n g w e h)

    counts : (h : ℕ) (b : Bool) → eqb h home ≡ b → with_slot homes slots h + (cond b reach (slot_at slots h).reach - WINDOW) ≡ at_home homes keys h
    counts h true e =
        let c : with_slot homes slots h + ((slot_at slots h).reach - WINDOW) ≡ at_home homes keys h = s.counted h in
        let i : (slot_at slots h).reach ≡ (slot_at slots home).reach = ap (λ (k : ℕ). (slot_at slots k).reach) (eqb_true h home e) in
        omega arith
    counts h false e = s.counted h

-- an entry more, without a slot
pub one_without : (homes : ℕ) (slots : List Slot) (keys : List (Option Key)) (n reach : ℕ) (key : Key) → IsIndexOf homes slots keys → home_of homes key.hash < homes → key_at keys n ≡ None → n < length keys
    → (slot_at slots (home_of homes key.hash)).reach ≤ reach → reach - WINDOW ≡ (slot_at slots (home_of homes key.hash)).reach - WINDOW + 1 → IsIndexOf homes (reaching (home_of homes key.hash) reach slots) (set keys n (Some key))
one_without homes slots keys n reach key s within none room more by = reach_changed homes slots keys (set keys n (Some key)) (home_of homes key.hash) reach s within same near (λ h. counts h (eqb h (home_of homes key.hash)) refl)
  where
    same : (k m : ℕ) → (slot_at slots k).node ≡ Some m → key_at (set keys n (Some key)) m ≡ key_at keys m
    same k m e = other_key keys n m (Some key) (λ g. let w : ◌≡◌ {A = Option Key} None (Some (key_in (slot_at slots k))) = sym none ∙ ap (key_at keys) (sym g) ∙ s.told k m e in absurd (cc))

    near : (k m : ℕ) → (slot_at slots k).node ≡ Some m → home_of homes (slot_at slots k).hash ≡ home_of homes key.hash → k < home_of homes key.hash + reach
    near k m e h =
        let w : k < home_of homes key.hash + (slot_at slots (home_of homes key.hash)).reach = subst (λ (i : ℕ). k < i + (slot_at slots i).reach) h (s.reached k m e) in
        omega arith

    counts : (h : ℕ) (b : Bool) → eqb h (home_of homes key.hash) ≡ b → with_slot homes slots h + (cond b reach (slot_at slots h).reach - WINDOW) ≡ at_home homes (set keys n (Some key)) h
    counts h true e =
        let c : with_slot homes slots h + ((slot_at slots h).reach - WINDOW) ≡ at_home homes keys h = s.counted h in
        let i : (slot_at slots h).reach ≡ (slot_at slots (home_of homes key.hash)).reach = ap (λ (k : ℕ). (slot_at slots k).reach) (eqb_true h (home_of homes key.hash) e) in
        let o : at_home homes (set keys n (Some key)) h ≡ at_home homes keys h + cond (eqb h (home_of homes key.hash)) 1 0 = one_more homes h keys n key room none in
        let z : cond {A = ℕ} (eqb h (home_of homes key.hash)) 1 0 ≡ 1 = ap (λ (b : Bool). cond {A = ℕ} b 1 0) e in
        omega arith
    counts h false e =
        let c : with_slot homes slots h + ((slot_at slots h).reach - WINDOW) ≡ at_home homes keys h = s.counted h in
        let o : at_home homes (set keys n (Some key)) h ≡ at_home homes keys h + cond (eqb h (home_of homes key.hash)) 1 0 = one_more homes h keys n key room none in
        let z : cond {A = ℕ} (eqb h (home_of homes key.hash)) 1 0 ≡ 0 = ap (λ (b : Bool). cond {A = ℕ} b 1 0) e in
        omega arith

-- an entry less, which had no slot
pub none_without : (homes : ℕ) (slots : List Slot) (keys : List (Option Key)) (n reach : ℕ) (key : Key) → IsIndexOf homes slots keys → home_of homes key.hash < homes → key_at keys n ≡ Some key → ((k : ℕ) → (slot_at slots k).node ≡ Some n → ⊥)
    → (slot_at slots (home_of homes key.hash)).reach ≡ reach + 1 → IsIndexOf homes (reaching (home_of homes key.hash) reach slots) (set keys n None)
none_without homes slots keys n reach key s within there none less = reach_changed homes slots keys (set keys n None) (home_of homes key.hash) reach s within same near (λ h. counts h (eqb h (home_of homes key.hash)) refl)
  where
    far : WINDOW < (slot_at slots (home_of homes key.hash)).reach
    far = beyond homes slots keys n key s there none

    same : (k m : ℕ) → (slot_at slots k).node ≡ Some m → key_at (set keys n None) m ≡ key_at keys m
    same k m e = other_key keys n m None (λ g. none k (e ∙ ap (λ (z : ℕ). Some z) g))

    near : (k m : ℕ) → (slot_at slots k).node ≡ Some m → home_of homes (slot_at slots k).hash ≡ home_of homes key.hash → k < home_of homes key.hash + reach
    near k m e h =
        let w : k < home_of homes key.hash + WINDOW = subst (λ (i : ℕ). k < i + WINDOW) h (s.near k m e) in
        let f : WINDOW < (slot_at slots (home_of homes key.hash)).reach = far in
        omega arith

    counts : (h : ℕ) (b : Bool) → eqb h (home_of homes key.hash) ≡ b → with_slot homes slots h + (cond b reach (slot_at slots h).reach - WINDOW) ≡ at_home homes (set keys n None) h
    counts h true e =
        let c : with_slot homes slots h + ((slot_at slots h).reach - WINDOW) ≡ at_home homes keys h = s.counted h in
        let i : (slot_at slots h).reach ≡ (slot_at slots (home_of homes key.hash)).reach = ap (λ (k : ℕ). (slot_at slots k).reach) (eqb_true h (home_of homes key.hash) e) in
        let o : at_home homes (set keys n None) h + cond (eqb h (home_of homes key.hash)) 1 0 ≡ at_home homes keys h = one_less homes h keys n key there in
        let z : cond {A = ℕ} (eqb h (home_of homes key.hash)) 1 0 ≡ 1 = ap (λ (b : Bool). cond {A = ℕ} b 1 0) e in
        let f : WINDOW < (slot_at slots (home_of homes key.hash)).reach = far in
        omega arith
    counts h false e =
        let c : with_slot homes slots h + ((slot_at slots h).reach - WINDOW) ≡ at_home homes keys h = s.counted h in
        let o : at_home homes (set keys n None) h + cond (eqb h (home_of homes key.hash)) 1 0 ≡ at_home homes keys h = one_less homes h keys n key there in
        let z : cond {A = ℕ} (eqb h (home_of homes key.hash)) 1 0 ≡ 0 = ap (λ (b : Bool). cond {A = ℕ} b 1 0) e in
        omega arith

-- an entry more, with a slot within reach
pub one_with : (homes : ℕ) (slots : List Slot) (keys : List (Option Key)) (n at : ℕ) (key : Key) → IsIndexOf homes slots keys → at < length slots → (slot_at slots at).node ≡ None → key_at keys n ≡ None → n < length keys
    → home_of homes key.hash ≤ at → at < home_of homes key.hash + WINDOW → at < home_of homes key.hash + (slot_at slots (home_of homes key.hash)).reach → IsIndexOf homes (holding at key n slots) (set keys n (Some key))
one_with homes slots keys n at key s inside free none room after near reached = record {
  some = s.some;
  sized = length-set slots at (record (slot_at slots at) { dir = key.dir; hash = key.hash; node = Some n }) ∙ s.sized;
  told = λ k m e. by k m e (eqb k at) refl;
  once = λ k l m e f. apart k l m e f (eqb k at) refl (eqb l at) refl;
  after = λ k m e. (stands k m e (eqb k at) refl).0;
  near = λ k m e. (stands k m e (eqb k at) refl).1;
  reached = λ k m e. subst (λ (i : ℕ). k < home_of homes (slot_at (holding at key n slots) k).hash + i) (sym (ap (λ (z : Slot). z.reach) (read (home_of homes (slot_at (holding at key n slots) k).hash)))) (stands k m e (eqb k at) refl).2;
  counted = λ h. sum h (ap (λ (z : Slot). z.reach) (read h));
}
  where
    read : (k : ℕ) → slot_at (holding at key n slots) k ≡ record (slot_at slots k) { dir = cond (eqb k at) key.dir (slot_at slots k).dir; hash = cond (eqb k at) key.hash (slot_at slots k).hash; node = cond (eqb k at) (Some n) (slot_at slots k).node }
    read k = holding_read slots at key n k inside

    put : Bool → Slot → Slot
    put b z = record z { dir = cond b key.dir z.dir; hash = cond b key.hash z.hash; node = cond b (Some n) z.node }

    seen : (k : ℕ) (b : Bool) → eqb k at ≡ b → slot_at (holding at key n slots) k ≡ put b (slot_at slots k)
    seen k b e = read k ∙ ap (λ (t : Bool). put t (slot_at slots k)) e

    node : (k m : ℕ) (b : Bool) → eqb k at ≡ b → (slot_at (holding at key n slots) k).node ≡ Some m → cond b (Some n) (slot_at slots k).node ≡ Some m
    node k m b e f = sym (ap (λ (z : Slot). z.node) (seen k b e)) ∙ f

    -- a node that had a slot is another one
    other : (k m : ℕ) → (slot_at slots k).node ≡ Some m → m ≡ n → ⊥
    other k m e g = let w : ◌≡◌ {A = Option Key} None (Some (key_in (slot_at slots k))) = sym none ∙ ap (key_at keys) (sym g) ∙ s.told k m e in cc

    by : (k m : ℕ) → (slot_at (holding at key n slots) k).node ≡ Some m → (b : Bool) → eqb k at ≡ b → key_at (set keys n (Some key)) m ≡ Some (key_in (slot_at (holding at key n slots) k))
    by k m f true e =
        let g : n ≡ m = (let h : Some n ≡ Some m = node k m true e f in cc) in
        ap (key_at (set keys n (Some key))) (sym g) ∙ get_or-set_same keys n (Some key) None room ∙ sym (ap (λ (z : Slot). Some (key_in z)) (seen k true e))
    by k m f false e = other_key keys n m (Some key) (other k m (node k m false e f)) ∙ s.told k m (node k m false e f) ∙ sym (ap (λ (z : Slot). Some (key_in z)) (seen k false e))

    apart : (k l m : ℕ) → (slot_at (holding at key n slots) k).node ≡ Some m → (slot_at (holding at key n slots) l).node ≡ Some m → (b : Bool) → eqb k at ≡ b → (t : Bool) → eqb l at ≡ t → k ≡ l
    apart k l m e f true g true h = eqb_true k at g ∙ sym (eqb_true l at h)
    apart k l m e f true g false h = let i : Some n ≡ Some m = node k m true g e in let j : m ≡ n = cc in absurd (other l m (node l m false h f) j)
    apart k l m e f false g true h = let i : Some n ≡ Some m = node l m true h f in let j : m ≡ n = cc in absurd (other k m (node k m false g e) j)
    apart k l m e f false g false h = s.once k l m (node k m false g e) (node l m false h f)

    stands : (k m : ℕ) → (slot_at (holding at key n slots) k).node ≡ Some m → (b : Bool) → eqb k at ≡ b → (home_of homes (slot_at (holding at key n slots) k).hash ≤ k) × (k < home_of homes (slot_at (holding at key n slots) k).hash + WINDOW) × (k < home_of homes (slot_at (holding at key n slots) k).hash + (slot_at slots (home_of homes (slot_at (holding at key n slots) k).hash)).reach)
    stands k m f true e = subst (λ (z : Slot). (home_of homes z.hash ≤ k) × (k < home_of homes z.hash + WINDOW) × (k < home_of homes z.hash + (slot_at slots (home_of homes z.hash)).reach)) (sym (seen k true e)) (let g : k ≡ at = eqb_true k at e in (omega arith, omega arith, omega arith))
    stands k m f false e = subst (λ (z : Slot). (home_of homes z.hash ≤ k) × (k < home_of homes z.hash + WINDOW) × (k < home_of homes z.hash + (slot_at slots (home_of homes z.hash)).reach)) (sym (seen k false e)) (s.after k m (node k m false e f), s.near k m (node k m false e f), s.reached k m (node k m false e f))

    sum : (h : ℕ) → (slot_at (holding at key n slots) h).reach ≡ (slot_at slots h).reach → with_slot homes (holding at key n slots) h + ((slot_at (holding at key n slots) h).reach - WINDOW) ≡ at_home homes (set keys n (Some key)) h
    sum h r =
        let c : with_slot homes (holding at key n slots) h + slot_weight homes h (slot_at slots at) ≡ with_slot homes slots h + cond (eqb h (home_of homes key.hash)) 1 0 = sum_by-set (slot_weight homes h) slots at (record (slot_at slots at) { dir = key.dir; hash = key.hash; node = Some n }) free_slot inside in
        let w : slot_weight homes h (slot_at slots at) ≡ 0 = ap (λ (z : Option ℕ). cond (is_some z && eqb h (home_of homes (slot_at slots at).hash)) 1 0) free in
        let d : with_slot homes slots h + ((slot_at slots h).reach - WINDOW) ≡ at_home homes keys h = s.counted h in
        let o : at_home homes (set keys n (Some key)) h ≡ at_home homes keys h + cond (eqb h (home_of homes key.hash)) 1 0 = one_more homes h keys n key room none in
        omega arith

-- an entry less, which had a slot
pub none_with : (homes : ℕ) (slots : List Slot) (keys : List (Option Key)) (n at : ℕ) (key : Key) → IsIndexOf homes slots keys → (slot_at slots at).node ≡ Some n → key_at keys n ≡ Some key → IsIndexOf homes (freeing at slots) (set keys n None)
none_with homes slots keys n at key s held there = record {
  some = s.some;
  sized = length-set slots at (record (slot_at slots at) { node = None }) ∙ s.sized;
  told = λ k m e. by k m e (eqb k at) refl;
  once = λ k l m e f. s.once k l m (node k m e) (node l m f);
  after = λ k m e. subst (λ (z : Slot). home_of homes z.hash ≤ k) (sym (read k)) (s.after k m (node k m e));
  near = λ k m e. subst (λ (z : Slot). k < home_of homes z.hash + WINDOW) (sym (read k)) (s.near k m (node k m e));
  reached = λ k m e. subst (λ (z : Slot). k < home_of homes z.hash + (slot_at (freeing at slots) (home_of homes z.hash)).reach) (sym (read k)) (subst (λ (i : ℕ). k < home_of homes (slot_at slots k).hash + i) (sym (ap (λ (z : Slot). z.reach) (read (home_of homes (slot_at slots k).hash)))) (s.reached k m (node k m e)));
  counted = λ h. sum h (ap (λ (z : Slot). z.reach) (read h));
}
  where
    inside : at < length slots
    inside = slot_within slots at n held

    read : (k : ℕ) → slot_at (freeing at slots) k ≡ record (slot_at slots k) { node = cond (eqb k at) None (slot_at slots k).node }
    read k = freeing_read slots at k inside

    seen : (k m : ℕ) → (slot_at (freeing at slots) k).node ≡ Some m → cond (eqb k at) None (slot_at slots k).node ≡ Some m
    seen k m f = sym (ap (λ (z : Slot). z.node) (read k)) ∙ f

    left : (b : Bool) (o : Option ℕ) (m : ℕ) → cond b None o ≡ Some m → (b ≡ false) × (o ≡ Some m)
    left true o m e = absurd (cc)
    left false o m e = (refl, e)

    node : (k m : ℕ) → (slot_at (freeing at slots) k).node ≡ Some m → (slot_at slots k).node ≡ Some m
    node k m f = (left (eqb k at) (slot_at slots k).node m (seen k m f)).1

    by : (k m : ℕ) → (slot_at (freeing at slots) k).node ≡ Some m → (b : Bool) → eqb k at ≡ b → key_at (set keys n None) m ≡ Some (key_in (slot_at (freeing at slots) k))
    by k m f true e = let w : true ≡ false = sym e ∙ (left (eqb k at) (slot_at slots k).node m (seen k m f)).0 in absurd (cc)
    by k m f false e = other_key keys n m None apart ∙ s.told k m (node k m f) ∙ sym (ap (λ (z : Slot). Some (key_in z)) (read k))
      where
        apart : m ≡ n → ⊥
        apart g = let w : true ≡ false = sym (eqb_refl at) ∙ sym (ap (λ (i : ℕ). eqb i at) (s.once k at m (node k m f) (held ∙ ap (λ (z : ℕ). Some z) (sym g)))) ∙ e in cc

    sum : (h : ℕ) → (slot_at (freeing at slots) h).reach ≡ (slot_at slots h).reach → with_slot homes (freeing at slots) h + ((slot_at (freeing at slots) h).reach - WINDOW) ≡ at_home homes (set keys n None) h
    sum h r =
        let c : with_slot homes (freeing at slots) h + slot_weight homes h (slot_at slots at) ≡ with_slot homes slots h + 0 = sum_by-set (slot_weight homes h) slots at (record (slot_at slots at) { node = None }) free_slot inside in
        let k : Some (key_in (slot_at slots at)) ≡ Some key = sym (s.told at n held) ∙ there in
        let i : (slot_at slots at).hash ≡ key.hash = (let j : key_in (slot_at slots at) ≡ key = cc in ap (λ (z : Key). z.hash) j) in
        let w : slot_weight homes h (slot_at slots at) ≡ cond {A = ℕ} (eqb h (home_of homes (slot_at slots at).hash)) 1 0 = ap (λ (z : Option ℕ). cond {A = ℕ} (is_some z && eqb h (home_of homes (slot_at slots at).hash)) 1 0) held in
        let v : cond {A = ℕ} (eqb h (home_of homes (slot_at slots at).hash)) 1 0 ≡ cond {A = ℕ} (eqb h (home_of homes key.hash)) 1 0 = ap (λ (z : ℕ). cond {A = ℕ} (eqb h (home_of homes z)) 1 0) i in
        let d : with_slot homes slots h + ((slot_at slots h).reach - WINDOW) ≡ at_home homes keys h = s.counted h in
        let o : at_home homes (set keys n None) h + cond (eqb h (home_of homes key.hash)) 1 0 ≡ at_home homes keys h = one_less homes h keys n key there in
        omega arith

-- a number more, which no entry names
grown_read : (keys : List (Option Key)) (n : ℕ) → key_at (keys ++ None ∷ []) n ≡ key_at keys n
grown_read [] zero = refl
grown_read [] (suc n) = refl
grown_read (o ∷ keys) zero = refl
grown_read (o ∷ keys) (suc n) = grown_read keys n

grown_of : (homes : ℕ) (slots : List Slot) (keys : List (Option Key)) → IsIndexOf homes slots keys → IsIndexOf homes slots (keys ++ None ∷ [])
grown_of homes slots keys s = record {
  some = s.some;
  sized = s.sized;
  told = λ k n e. grown_read keys n ∙ s.told k n e;
  once = s.once;
  after = s.after;
  near = s.near;
  reached = s.reached;
  counted = λ h. s.counted h ∙ sym (sum_by_push (key_weight homes h) keys None ∙ (let z : at_home homes keys h + 0 ≡ at_home homes keys h = omega arith in z));
}

pub grown : (slots : List Slot) (keys : List (Option Key)) → IsIndex slots keys → IsIndex slots (keys ++ None ∷ [])
grown slots keys s = record { homes = s.homes; most = s.most; of = grown_of s.homes slots keys s.of }

-- free slots, and no entry
free_read : (n k : ℕ) → slot_at (replicate n free_slot) k ≡ free_slot
free_read zero k = refl
free_read (suc n) zero = refl
free_read (suc n) (suc k) = free_read n k

free_sum : (homes home n : ℕ) → with_slot homes (replicate n free_slot) home ≡ 0
free_sum homes home zero = refl
free_sum homes home (suc n) = sum_by-cons (slot_weight homes home) free_slot (replicate n free_slot) ∙ (let h : with_slot homes (replicate n free_slot) home ≡ 0 = free_sum homes home n in omega arith)

pub none_at_first : (homes n : ℕ) → 0 < homes → homes ≤ 4 * NODE_LIMIT → n ≡ homes + WINDOW → IsIndex (replicate n free_slot) []
none_at_first homes n h most e = record {
  homes = homes;
  most = most;
  of = record {
    some = h;
    sized = length-replicate n free_slot ∙ e;
    told = λ k m f. absurd (nothing k m f);
    once = λ k l m f g. absurd (nothing k m f);
    after = λ k m f. absurd (nothing k m f);
    near = λ k m f. absurd (nothing k m f);
    reached = λ k m f. absurd (nothing k m f);
    counted = λ home. (
        let a : with_slot homes (replicate n free_slot) home ≡ 0 = free_sum homes home n in
        let b : (slot_at (replicate n free_slot) home).reach ≡ 0 = ap (λ (z : Slot). z.reach) (free_read n home) in
        let c : at_home homes [] home ≡ 0 = refl in
        omega arith);
  };
}
  where
    nothing : (k m : ℕ) → (slot_at (replicate n free_slot) k).node ≡ Some m → ⊥
    nothing k m f = let w : ◌≡◌ {A = Option ℕ} None (Some m) = sym (ap (λ (z : Slot). z.node) (free_read n k)) ∙ f in cc

-- an index is a table
pub table_of : (slots : List Slot) (keys : List (Option Key)) → IsIndex slots keys → IsTable slots
table_of slots keys s =
    let l : length slots ≡ s.homes + WINDOW = s.of.sized in
    let a : 0 < s.homes = s.of.some in
    let m : s.homes ≤ 4 * NODE_LIMIT = s.most in
    record { wide = omega arith; most = omega arith }

-- its homes are as many as it has slots, less the last window
homes_of : (slots : List Slot) (keys : List (Option Key)) (s : IsIndex slots keys) → length slots - WINDOW ≡ s.homes
homes_of slots keys s = let l : length slots ≡ s.homes + WINDOW = s.of.sized in omega arith

home_is : (slots : List Slot) (keys : List (Option Key)) (s : IsIndex slots keys) (hash home : ℕ) → home ≡ home_of (length slots - WINDOW) hash → home_of s.homes hash ≡ home
home_is slots keys s hash home e = ap (λ (z : ℕ). home_of z hash) (sym (homes_of slots keys s)) ∙ sym e

-- what has no slot within reach is not there, unless the reach is beyond the window
pub nothing_found : (slots : List Slot) (keys : List (Option Key)) (key : Key) (home : ℕ) → IsIndex slots keys → home ≡ home_of (length slots - WINDOW) key.hash → (slot_at slots home).reach ≤ WINDOW
    → ((k n : ℕ) → home ≤ k → k < home + (slot_at slots home).reach → (slot_at slots k).node ≡ Some n → key_in (slot_at slots k) ≡ key → ⊥) → (n : ℕ) → key_at keys n ≡ Some key → ⊥
nothing_found slots keys key home s e few none n there =
    let h : home_of s.homes key.hash ≡ home = home_is slots keys s key.hash home e in
    let w : WINDOW < (slot_at slots (home_of s.homes key.hash)).reach = beyond s.homes slots keys n key s.of there (λ k f. far k f h) in
    let r : (slot_at slots (home_of s.homes key.hash)).reach ≡ (slot_at slots home).reach = ap (λ (z : ℕ). (slot_at slots z).reach) h in
    omega arith
  where
    far : (k : ℕ) → (slot_at slots k).node ≡ Some n → home_of s.homes key.hash ≡ home → ⊥
    far k f h =
        let t : Some (key_in (slot_at slots k)) ≡ Some key = sym (s.of.told k n f) ∙ there in
        let same : key_in (slot_at slots k) ≡ key = cc in
        let g : home_of s.homes (slot_at slots k).hash ≡ home = ap (λ (z : Key). home_of s.homes z.hash) same ∙ h in
        let a : home_of s.homes (slot_at slots k).hash ≤ k = s.of.after k n f in
        let b : k < home + (slot_at slots home).reach = subst (λ (z : ℕ). k < z + (slot_at slots z).reach) g (s.of.reached k n f) in
        none k n (omega arith) b f same

-- one entry more
pub put_with : (slots : List Slot) (keys : List (Option Key)) (key : Key) (n home at reach : ℕ) → IsIndex slots keys → home ≡ home_of (length slots - WINDOW) key.hash → home + WINDOW < length slots → IsFreeIn slots home at → key_at keys n ≡ None → n < length keys
    → reach ≡ max (slot_at slots home).reach (at - home + 1) → IsIndex (holding at key n (reaching home reach slots)) (set keys n (Some key))
put_with slots keys key n home at reach s e within free none room r = record {
  homes = s.homes;
  most = s.most;
  of = one_with s.homes (reaching home reach slots) keys n at key wide (let m : length (reaching home reach slots) ≡ length slots = long in let f : at < home + WINDOW = free.near in omega arith) (ap (λ (z : Slot). z.node) (read at) ∙ free.free) none room
      (let h : home_of s.homes key.hash ≡ home = is in let a : home ≤ at = free.after in omega arith)
      (let h : home_of s.homes key.hash ≡ home = is in let a : at < home + WINDOW = free.near in omega arith)
      (subst (λ (z : ℕ). at < z + (slot_at (reaching home reach slots) z).reach) (sym is) (let q : (slot_at (reaching home reach slots) home).reach ≡ reach = ap (λ (z : Slot). z.reach) (read home) ∙ ap (λ (b : Bool). cond b reach (slot_at slots home).reach) (eqb_refl home) in let a : home ≤ at = free.after in omega arith));
}
  where
    is : home_of s.homes key.hash ≡ home
    is = home_is slots keys s key.hash home e

    long : length (reaching home reach slots) ≡ length slots
    long = length-set slots home (record (slot_at slots home) { reach = reach })

    inside : home < s.homes
    inside = let l : length slots ≡ s.homes + WINDOW = s.of.sized in omega arith

    read : (k : ℕ) → slot_at (reaching home reach slots) k ≡ record (slot_at slots k) { reach = cond (eqb k home) reach (slot_at slots k).reach }
    read k = reaching_read slots home reach k (omega arith)

    wide : IsIndexOf s.homes (reaching home reach slots) keys
    wide = reach_more s.homes slots keys home reach s.of inside (omega arith) (let f : at < home + WINDOW = free.near in let a : home ≤ at = free.after in omega arith)

pub put_without : (slots : List Slot) (keys : List (Option Key)) (key : Key) (n home reach : ℕ) → IsIndex slots keys → home ≡ home_of (length slots - WINDOW) key.hash → home + WINDOW < length slots → key_at keys n ≡ None → n < length keys
    → reach ≡ max (slot_at slots home).reach WINDOW + 1 → IsIndex (reaching home reach slots) (set keys n (Some key))
put_without slots keys key n home reach s e within none room r = record {
  homes = s.homes;
  most = s.most;
  of = subst (λ (z : ℕ). IsIndexOf s.homes (reaching z reach slots) (set keys n (Some key))) is (one_without s.homes slots keys n reach key s.of (let l : length slots ≡ s.homes + WINDOW = s.of.sized in let h : home_of s.homes key.hash ≡ home = is in omega arith) none room (omega (arith, here)) (omega (arith, here)));
}
  where
    is : home_of s.homes key.hash ≡ home
    is = home_is slots keys s key.hash home e

    here : (slot_at slots (home_of s.homes key.hash)).reach ≡ (slot_at slots home).reach
    here = ap (λ (z : ℕ). (slot_at slots z).reach) is

-- one entry less
pub remove_with : (slots : List Slot) (keys : List (Option Key)) (key : Key) (n home at : ℕ) → IsIndex slots keys → IsHeldIn slots home n at → key_at keys n ≡ Some key → IsIndex (freeing at slots) (set keys n None)
remove_with slots keys key n home at s held there = record { homes = s.homes; most = s.most; of = none_with s.homes slots keys n at key s.of held.held there }

-- the reach of a home goes back
pub narrowed : (slots : List Slot) (keys : List (Option Key)) (home reach : ℕ) → IsIndex slots keys → home + WINDOW < length slots → reach ≤ (slot_at slots home).reach → (slot_at slots home).reach ≤ WINDOW
    → ((k n : ℕ) → home + reach ≤ k → k < home + (slot_at slots home).reach → (slot_at slots k).node ≡ Some n → home_of (length slots - WINDOW) (slot_at slots k).hash ≡ home → ⊥) → IsIndex (reaching home reach slots) keys
narrowed slots keys home reach s within less few none = record {
  homes = s.homes;
  most = s.most;
  of = reach_less s.homes slots keys home reach s.of (let l : length slots ≡ s.homes + WINDOW = s.of.sized in omega arith) less few (λ k n a b f g. none k n a b f (ap (λ (z : ℕ). home_of z (slot_at slots k).hash) (homes_of slots keys s) ∙ g));
}

-- a slot of a home that is free leaves the reach
pub freed_reach : (slots : List Slot) (at home : ℕ) → at < length slots → (slot_at (freeing at slots) home).reach ≡ (slot_at slots home).reach
freed_reach slots at home h = ap (λ (z : Slot). z.reach) (freeing_read slots at home h)

-- an entry that no slot of its window has has none
no_slot : (slots : List Slot) (keys : List (Option Key)) (key : Key) (n home : ℕ) → IsIndex slots keys → home ≡ home_of (length slots - WINDOW) key.hash → ((k : ℕ) → IsHeldIn slots home n k → ⊥) → key_at keys n ≡ Some key → (k : ℕ) → (slot_at slots k).node ≡ Some n → ⊥
no_slot slots keys key n home s e none there k f =
    let t : Some (key_in (slot_at slots k)) ≡ Some key = sym (s.of.told k n f) ∙ there in
    let same : key_in (slot_at slots k) ≡ key = cc in
    let g : home_of s.homes (slot_at slots k).hash ≡ home = ap (λ (z : Key). home_of s.homes z.hash) same ∙ home_is slots keys s key.hash home e in
    let a : home_of s.homes (slot_at slots k).hash ≤ k = s.of.after k n f in
    let b : k < home_of s.homes (slot_at slots k).hash + WINDOW = s.of.near k n f in
    none k (record { after = omega arith; near = omega arith; held = f })

-- so the reach of its home is beyond the window
pub reach_beyond : (slots : List Slot) (keys : List (Option Key)) (key : Key) (n home : ℕ) → IsIndex slots keys → home ≡ home_of (length slots - WINDOW) key.hash → ((k : ℕ) → IsHeldIn slots home n k → ⊥) → key_at keys n ≡ Some key → WINDOW < (slot_at slots home).reach
reach_beyond slots keys key n home s e none there = subst (λ (z : ℕ). WINDOW < (slot_at slots z).reach) (home_is slots keys s key.hash home e) (beyond s.homes slots keys n key s.of there (no_slot slots keys key n home s e none there))

pub remove_without : (slots : List Slot) (keys : List (Option Key)) (key : Key) (n home reach : ℕ) → IsIndex slots keys → home ≡ home_of (length slots - WINDOW) key.hash → home + WINDOW < length slots → ((k : ℕ) → IsHeldIn slots home n k → ⊥) → key_at keys n ≡ Some key
    → (slot_at slots home).reach ≡ reach + 1 → IsIndex (reaching home reach slots) (set keys n None)
remove_without slots keys key n home reach s e within none there r = record {
  homes = s.homes;
  most = s.most;
  of = subst (λ (z : ℕ). IsIndexOf s.homes (reaching z reach slots) (set keys n None)) is (none_without s.homes slots keys n reach key s.of (let l : length slots ≡ s.homes + WINDOW = s.of.sized in let h : home_of s.homes key.hash ≡ home = is in omega arith) there (no_slot slots keys key n home s e none there) (ap (λ (z : ℕ). (slot_at slots z).reach) is ∙ r));
}
  where
    is : home_of s.homes key.hash ≡ home
    is = home_is slots keys s key.hash home e

-- a reach is not far beyond the window
pub reach_fits : (slots : List Slot) (home : ℕ) → IsSome slots → (slot_at slots home).reach ≤ WINDOW + NODE_LIMIT
reach_fits slots home some =
    let c : with_slot some.index.homes slots home + ((slot_at slots home).reach - WINDOW) ≡ at_home some.index.homes some.keys home = some.index.of.counted home in
    let l : at_home some.index.homes some.keys home ≤ length some.keys * 1 = sum_by-le (key_weight some.index.homes home) 1 some.keys (small some.keys) in
    let f : length some.keys ≤ NODE_LIMIT = some.few in
    omega arith
  where
    bit : (b : Bool) → cond b 1 0 ≤ 1
    bit true = omega arith
    bit false = omega arith

    one : (o : Option Key) → key_weight some.index.homes home o ≤ 1
    one None = omega arith
    one (Some key) = bit (eqb home (home_of some.index.homes key.hash))

    small : (keys : List (Option Key)) → All (λ o. key_weight some.index.homes home o ≤ 1) keys
    small keys = λ k d h. one (get_or keys k d)

-- what the code reads of a reach
pub reach_read : (slots : List Slot) (home : ℕ) (slot : Slot) → home + WINDOW < length slots → (get_or slots home slot).reach ≡ (slot_at slots home).reach
reach_read slots home slot h = ap (λ (z : Slot). z.reach) (get_or_default slots home slot free_slot (omega arith))

-- the keys of a further number
pub key_more : (keys : List (Option Key)) (n : ℕ) (key : Key) → n < length keys → key_at keys n ≡ Some key → set (take n keys ++ None ∷ []) n (Some key) ≡ take (n + 1) keys
key_more keys n key h e = set_at (take n keys) None [] (Some key) n (length-take-le n keys (omega arith)) ∙ sym (take_more keys n None h ∙ ap (λ (o : Option Key). take n keys ++ o ∷ []) e)

pub no_key_more : (keys : List (Option Key)) (n : ℕ) → n < length keys → key_at keys n ≡ None → take n keys ++ None ∷ [] ≡ take (n + 1) keys
no_key_more keys n h e = sym (take_more keys n None h ∙ ap (λ (o : Option Key). take n keys ++ o ∷ []) e)

pub no_key_yet : (keys : List (Option Key)) (n : ℕ) → n ≤ length keys → (key_at (take n keys ++ None ∷ []) n ≡ None) × (n < length (take n keys ++ None ∷ []))
no_key_yet keys n h =
    let l : length (take n keys) ≡ n = length-take-le n keys h in
    let m : length (take n keys ++ None ∷ []) ≡ length (take n keys) + 1 = length_push (take n keys) None in
    (get_or_push (take n keys) None None n l, omega arith)
