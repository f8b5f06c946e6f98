-- Chains through a list of keys.
use Rattle.std.proofs.Common.{◌≡◌, ℕ, ◌+◌, ◌<◌, ◌≤◌, Bool, true, false, ◌==◌, cond, List, [], ◌∷◌, ◌++◌, length, length-append, slice_get, Option, Some, None, refl, sym, ap, ◌∙◌, subst, ⊎_elim, arith}
use Rattle.std.proofs.lemmas.Bool.{eqb-true, eqb-false, cases_lt}
use Rattle.std.proofs.lemmas.Option.{slice_get_within}
use Rattle.fs_calls.proofs.ListLemmas.{slice_get-front, slice_get-seam}
use Rattle.std.specs.Ordering.{is_eq, nat_cmp}
use Rattle.std.specs.BTreeMap.{BTreeMap, get, Updates}
use Rattle.fs_linearize_configurations.specs.code.Keys.{IsLastWith}
use Rattle.fs_linearize_configurations.specs.code.Chained.{IsChained}
use Rattle.fs_linearize_configurations.specs.declared.chains.Chains.TheInside.{Inside}

-- ---- chains

-- below a place more keys change nothing
last_kept : (keys more : List ℕ) (key bound : ℕ) (o : Option ℕ) → bound ≤ length keys → IsLastWith keys key bound o → IsLastWith (keys ++ more) key bound o
last_kept keys more key bound None within k = λ i small is. k i small (sym (slice_get-front keys more i (omega (arith, small, within))) ∙ is)
last_kept keys more key bound (Some place) within k = let small = k.0 in (
  k.0,
  slice_get-front keys more place (omega (arith, small, within)) ∙ k.1,
  λ i large low is. k.2 i large low (sym (slice_get-front keys more i (omega (arith, low, within))) ∙ is),
)

-- another key behind them is not the last
last_other : (keys : List ℕ) (key other bound : ℕ) (o : Option ℕ) → bound ≡ length keys → (key ≡ other → ⊥) → IsLastWith keys key bound o → IsLastWith (keys ++ other ∷ []) key (bound + 1) o
last_other keys key other bound o end apart k = more o (last_kept keys (other ∷ []) key bound o (omega (arith, end)) k)
  where
    here : (i : ℕ) → i < bound + 1 → (i < bound → ⊥) → slice_get (keys ++ other ∷ []) i ≡ Some key → ⊥
    here i low high is =
        let place : i ≡ length keys = omega (arith, low, high, end) in
        let both : Some other ≡ Some key = sym (slice_get-seam keys other) ∙ ap (slice_get (keys ++ other ∷ [])) (sym place) ∙ is in
        apart (cc)

    more : (p : Option ℕ) → IsLastWith (keys ++ other ∷ []) key bound p → IsLastWith (keys ++ other ∷ []) key (bound + 1) p
    more None l = λ i small is. here i small (λ low. l i low is) is
    more (Some place) l = let small = l.0 in (omega (arith, small), l.1, λ i large low is. here i low (λ within. l.2 i large within is) is)

-- the key behind them is the last
last_new : (keys : List ℕ) (key bound : ℕ) → bound ≡ length keys → IsLastWith (keys ++ key ∷ []) key (bound + 1) (Some bound)
last_new keys key bound end = (omega arith, ap (slice_get (keys ++ key ∷ [])) end ∙ slice_get-seam keys key, λ i large low is. absurd (omega (arith, large, low)))

same_number : (c q : ℕ) → is_eq (nat_cmp c q) ≡ (c == q)
same_number c q = grind arith

put_in : {X : Type 0} (old new : BTreeMap ℕ X) (n : ℕ) (x : X) (q : ℕ) → Updates nat_cmp old new n (Some x) → get nat_cmp new q ≡ cond (q == n) (Some x) (get nat_cmp old q)
put_in old new n x q u = u.0 q ∙ ap (λ b. cond b (Some x) (get nat_cmp old q)) (same_number n q ∙ turned n q)
  where
    turned : (a b : ℕ) → (a == b) ≡ (b == a)
    turned a b = grind arith

pub chained_push : (old : Inside) (keys : List ℕ) (before : List (Option ℕ)) (last : BTreeMap ℕ ℕ) (key place : ℕ) → IsChained old → place ≡ length old.keys.items → keys ≡ old.keys.items ++ key ∷ []
    → before ≡ old.before.items ++ get nat_cmp old.last key ∷ [] → Updates nat_cmp old.last last key (Some place)
    → (length before ≡ length keys) × ((k : ℕ) → IsLastWith keys k (length keys) (get nat_cmp last k)) × ((p k : ℕ) (o : Option ℕ) → slice_get keys p ≡ Some k → slice_get before p ≡ Some o → IsLastWith keys k p o)
chained_push old keys before last key place c end pushed linked put = (
  (let long = c.long in let one = ap length linked ∙ length-append old.before.items (get nat_cmp old.last key ∷ []) in let other = ap length pushed ∙ length-append old.keys.items (key ∷ []) in omega (arith, long, one, other)),
  (λ k. subst (λ ks. IsLastWith ks k (length ks) (get nat_cmp last k)) (sym pushed)
      (subst (λ n. IsLastWith (old.keys.items ++ key ∷ []) k n (get nat_cmp last k)) (sym (length-append old.keys.items (key ∷ [])))
      (subst (IsLastWith (old.keys.items ++ key ∷ []) k (length old.keys.items + 1)) (sym (put_in old.last last key place k put)) (lasts k (k == key) refl)))),
  (λ p k o at link. befores p k o (subst (λ ks. slice_get ks p ≡ Some k) pushed at) (subst (λ bs. slice_get bs p ≡ Some o) linked link)),
)
  where
    lasts : (k : ℕ) (b : Bool) → (k == key) ≡ b → IsLastWith (old.keys.items ++ key ∷ []) k (length old.keys.items + 1) (cond b (Some place) (get nat_cmp old.last k))
    lasts k true same = subst (λ n. IsLastWith (old.keys.items ++ key ∷ []) n (length old.keys.items + 1) (Some place)) (sym (eqb-true k key same))
        (subst (λ n. IsLastWith (old.keys.items ++ key ∷ []) key (length old.keys.items + 1) (Some n)) (sym end) (last_new old.keys.items key (length old.keys.items) refl))
    lasts k false apart = last_other old.keys.items k key (length old.keys.items) (get nat_cmp old.last k) refl (eqb-false k key apart) (c.last k)

    befores : (p k : ℕ) (o : Option ℕ) → slice_get (old.keys.items ++ key ∷ []) p ≡ Some k → slice_get (old.before.items ++ get nat_cmp old.last key ∷ []) p ≡ Some o → IsLastWith keys k p o
    befores p k o at link = subst (λ ks. IsLastWith ks k p o) (sym pushed) (⊎_elim
        (λ small. last_kept old.keys.items (key ∷ []) k p o (omega (arith, small)) (c.before p k o (sym (slice_get-front old.keys.items (key ∷ []) p small) ∙ at)
        (sym (slice_get-front old.before.items (get nat_cmp old.last key ∷ []) p (let long = c.long in omega (arith, long, small))) ∙ link)))
        (λ large. at_end (omega (arith, slice_get_within (old.keys.items ++ key ∷ []) p k at, length-append old.keys.items (key ∷ []), large)))
        (cases_lt p (length old.keys.items)))
      where
        at_end : p ≡ length old.keys.items → IsLastWith (old.keys.items ++ key ∷ []) k p o
        at_end is =
            let keys_same : Some key ≡ Some k = sym (slice_get-seam old.keys.items key) ∙ ap (slice_get (old.keys.items ++ key ∷ [])) (sym is) ∙ at in
            let same : key ≡ k = cc in
            let long = c.long in
            let place_is : p ≡ length old.before.items = omega (arith, is, long) in
            let links_same : Some (get nat_cmp old.last key) ≡ Some o = sym (slice_get-seam old.before.items (get nat_cmp old.last key)) ∙ ap (slice_get (old.before.items ++ get nat_cmp old.last key ∷ [])) (sym place_is) ∙ link in
            let linked_to : get nat_cmp old.last key ≡ o = cc in
            subst (λ n. IsLastWith (old.keys.items ++ key ∷ []) k n o) (sym is)
            (last_kept old.keys.items (key ∷ []) k (length old.keys.items) o (omega arith)
            (subst (IsLastWith old.keys.items k (length old.keys.items)) (ap (get nat_cmp old.last) (sym same) ∙ linked_to) (c.last k)))
