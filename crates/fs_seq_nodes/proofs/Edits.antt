-- What walks do after an edit of one directory.
use Rattle.std.proofs.Common.{◌≡◌, ◌≢◌, ℕ, Bool, true, false, cond, [], ◌∷◌, ◌++◌, Some, None, Option, option_and_then, refl, sym, ap, ◌∙◌, arith, nat_eq}
use Rattle.std.proofs.lemmas.Bool.Decides.{nat_tests}
use Rattle.fs_names.specs.Names.{Name, same_name}
use Rattle.fs_names.specs.Keys.{Key, same_key, after_prefix}
use Rattle.fs_seq_nodes.specs.code.Slots.{Slots, child, walk_from, walk}
use Rattle.fs_calls.proofs.LookLemmas.{same_key_exact}
use Rattle.fs_seq_nodes.proofs.GraphLemmas.{walk-append, Once}
use Rattle.fs_calls.proofs.ListLemmas.{by_last, same_front, same_key-snoc, after_prefix-snoc, longer}

-- one step from where a walk ends
pub on_from : Slots → Name → Option ℕ → Option ℕ
on_from g y o = option_and_then (λ m. child g m y) o

-- a step to a child
pub on_some : (g : Slots) (y : Name) (n m : ℕ) → child g n y ≡ Some m → on_from g y (Some n) ≡ Some m
unfolding on_from
on_some g y n m e = e

-- no step from nowhere
pub on_none : (g : Slots) (y : Name) → on_from g y None ≡ None
unfolding on_from
on_none g y = refl

-- no step by a name that is missing
pub on_missing : (g : Slots) (y : Name) (n : ℕ) → child g n y ≡ None → on_from g y (Some n) ≡ None
unfolding on_from
on_missing g y n e = e

-- a step that keeps what it is given
and_then_some : (o : Option ℕ) → option_and_then (λ m. Some m) o ≡ o
and_then_some None = refl
and_then_some (Some m) = refl

-- a walk with one name more
pub walk-snoc : (g : Slots) (n : ℕ) (k : Key) (y : Name) → walk_from g n (k ++ y ∷ []) ≡ on_from g y (walk_from g n k)
unfolding on_from
walk-snoc g n k y = walk-append g n k (y ∷ []) ∙ ap (λ f. option_and_then f (walk_from g n k)) (λ i m. and_then_some (child g m y) i)

-- g' is g, with the name x of the node n leading to s
pub record Links (g g' : Slots) (n : ℕ) (x : Name) (s : ℕ) : Type 0 where
  pub here : (y : Name) → child g' n y ≡ cond (same_name x y) (Some s) (child g n y)
  pub elsewhere : (j : ℕ) (y : Name) → j ≢ n → child g' j y ≡ child g j y

-- g' is g without the name x of the node n
pub record Unlinks (g g' : Slots) (n : ℕ) (x : Name) : Type 0 where
  pub here : (y : Name) → child g' n y ≡ cond (same_name x y) None (child g n y)
  pub elsewhere : (j : ℕ) (y : Name) → j ≢ n → child g' j y ≡ child g j y

-- where a walk leads that may pass the new name
abbrev pub within : Slots → ℕ → Option ℕ → Option Key → Option ℕ
within g s o None = o
within g s o (Some r) = walk_from g s r

-- where a walk leads that may pass the name that is gone
abbrev pub outside : Option ℕ → Option Key → Option ℕ
outside o None = o
outside o (Some r) = None

-- numbers that test as one are one
pub nat_same : (a b : ℕ) → nat_eq a b ≡ true → a ≡ b
nat_same a b h = grind (arith, nat_tests)

-- numbers that test as two are two
pub nat_differ : (a b : ℕ) → nat_eq a b ≡ false → a ≢ b
nat_differ a b h = grind (arith, nat_tests)

-- a step by a name that may be gone
outside_cond : (b : Bool) (o : Option ℕ) → cond {A = Option ℕ} b None o ≡ outside o (cond {A = Option Key} b (Some []) None)
outside_cond true o = refl
outside_cond false o = refl

-- no step from nowhere
outside_none : (b : Bool) → None ≡ outside None (cond {A = Option Key} b (Some []) None)
outside_none true = refl
outside_none false = refl

-- a step by a name that may be new
within_cond : (g : Slots) (s : ℕ) (b : Bool) (o : Option ℕ) → cond {A = Option ℕ} b (Some s) o ≡ within g s o (cond {A = Option Key} b (Some []) None)
within_cond g s true o = refl
within_cond g s false o = refl

-- what cannot be true is false
no_true : (b : Bool) → (b ≡ true → ⊥) → b ≡ false
no_true true h = absurd (h refl)
no_true false h = refl

-- where a walk by k ends elsewhere than at n, k and one name more is not d and one name more
apart_keys : (g : Slots) (d k : Key) (n : ℕ) (x y : Name) (o : Option ℕ) → walk g d ≡ Some n → walk g k ≡ o → (o ≡ Some n → ⊥) → same_key (d ++ x ∷ []) (k ++ y ∷ []) ≡ false
apart_keys g d k n x y o walked w not_n = no_true _ (λ same.
    let e : d ≡ k = same_front d k x y (same_key_exact _ _ same) in not_n (sym w ∙ ap (walk g) (sym e) ∙ walked))

-- nothing follows a longer key
pub after_prefix-nothing : (d : Key) (x : Name) → after_prefix (d ++ x ∷ []) [] ≡ None
after_prefix-nothing [] x = refl
after_prefix-nothing (y ∷ d) x = refl

-- one name more, after a name was taken out
unlink_step : (g g' : Slots) (d : Key) (n : ℕ) (x : Name) → Once g 0 → walk g d ≡ Some n → Unlinks g g' n x → (k : Key) (y : Name) (a : Option Key) (o : Option ℕ) → walk g k ≡ o
    → on_from g' y (outside o a) ≡ outside (on_from g y o) (longer a y (same_key (d ++ x ∷ []) (k ++ y ∷ [])))
unfolding on_from
unlink_step g g' d n x once walked cut k y (Some r) o w = refl
unlink_step g g' d n x once walked cut k y None None w = outside_none (same_key (d ++ x ∷ []) (k ++ y ∷ []))
unlink_step g g' d n x once walked cut k y None (Some j) w =
    elim (nat_eq j n) as (λ b. nat_eq j n ≡ b → child g' j y ≡ outside (child g j y) (cond {A = Option Key} (same_key (d ++ x ∷ []) (k ++ y ∷ [])) (Some []) None)) [
      | true ↦ λ e.
          let at : j ≡ n = nat_same j n e in
          let kd : k ≡ d = once k d n (w ∙ ap Some at) walked in
          let key : same_key (d ++ x ∷ []) (k ++ y ∷ []) ≡ same_name x y = ap (λ z. same_key (d ++ x ∷ []) (z ++ y ∷ [])) kd ∙ same_key-snoc d x y in
          ap (λ m. child g' m y) at ∙ cut.here y ∙ ap (λ m. cond {A = Option ℕ} (same_name x y) None (child g m y)) (sym at)
          ∙ outside_cond (same_name x y) (child g j y) ∙ ap (λ b. outside (child g j y) (cond {A = Option Key} b (Some []) None)) (sym key)
      | false ↦ λ e.
          let other : j ≢ n = nat_differ j n e in
          let key : same_key (d ++ x ∷ []) (k ++ y ∷ []) ≡ false = apart_keys g d k n x y (Some j) walked w (λ f. other (let r : j ≡ n = cc in r)) in
          cut.elsewhere j y other ∙ ap (λ b. outside (child g j y) (cond {A = Option Key} b (Some []) None)) (sym key)
    ] refl

-- nothing is reached any more by the name, and all else as before
pub walk-unlinked : (g g' : Slots) (d : Key) (n : ℕ) (x : Name) → Once g 0 → walk g d ≡ Some n → Unlinks g g' n x → (k : Key) → walk g' k ≡ outside (walk g k) (after_prefix (d ++ x ∷ []) k)
walk-unlinked g g' d n x once walked cut = by_last (λ k. walk g' k ≡ outside (walk g k) (after_prefix (d ++ x ∷ []) k))
    (ap (outside (Some 0)) (sym (after_prefix-nothing d x)))
    (λ k y ih.
    walk-snoc g' 0 k y ∙ ap (on_from g' y) ih
    ∙ unlink_step g g' d n x once walked cut k y (after_prefix (d ++ x ∷ []) k) (walk g k) refl
    ∙ ap (λ o. outside o (longer (after_prefix (d ++ x ∷ []) k) y (same_key (d ++ x ∷ []) (k ++ y ∷ [])))) (sym (walk-snoc g 0 k y))
    ∙ ap (outside (walk g (k ++ y ∷ []))) (sym (after_prefix-snoc (d ++ x ∷ []) k y)))

-- a step from where the name leads as before is as before
pub same_step : (g g' : Slots) (y : Name) (o : Option ℕ) → ((j : ℕ) → o ≡ Some j → child g' j y ≡ child g j y) → on_from g' y o ≡ on_from g y o
unfolding on_from
same_step g g' y None same = refl
same_step g g' y (Some j) same = same j refl

-- one name more, after a name was put in
link_step : (g g' : Slots) (d : Key) (n : ℕ) (x : Name) (s : ℕ) → Once g 0 → walk g d ≡ Some n → ((r : Key) → walk_from g s r ≡ Some n → ⊥) → Links g g' n x s → (k : Key) (y : Name) (a : Option Key) (o : Option ℕ) → walk g k ≡ o
    → on_from g' y (within g s o a) ≡ within g s (on_from g y o) (longer a y (same_key (d ++ x ∷ []) (k ++ y ∷ [])))
unfolding on_from
link_step g g' d n x s once walked apart new k y (Some r) o w =
    same_step g g' y (walk_from g s r) (λ j at. new.elsewhere j y (λ e. apart r (at ∙ ap Some e))) ∙ sym (walk-snoc g s r y)
link_step g g' d n x s once walked apart new k y None None w =
    ap (λ b. within g s None (cond {A = Option Key} b (Some []) None)) (sym (apart_keys g d k n x y None walked w (λ f. absurd (cc))))
link_step g g' d n x s once walked apart new k y None (Some j) w =
    elim (nat_eq j n) as (λ b. nat_eq j n ≡ b → child g' j y ≡ within g s (child g j y) (cond {A = Option Key} (same_key (d ++ x ∷ []) (k ++ y ∷ [])) (Some []) None)) [
      | true ↦ λ e.
          let at : j ≡ n = nat_same j n e in
          let kd : k ≡ d = once k d n (w ∙ ap Some at) walked in
          let key : same_key (d ++ x ∷ []) (k ++ y ∷ []) ≡ same_name x y = ap (λ z. same_key (d ++ x ∷ []) (z ++ y ∷ [])) kd ∙ same_key-snoc d x y in
          ap (λ m. child g' m y) at ∙ new.here y ∙ ap (λ m. cond {A = Option ℕ} (same_name x y) (Some s) (child g m y)) (sym at)
          ∙ within_cond g s (same_name x y) (child g j y) ∙ ap (λ b. within g s (child g j y) (cond {A = Option Key} b (Some []) None)) (sym key)
      | false ↦ λ e.
          let other : j ≢ n = nat_differ j n e in
          let key : same_key (d ++ x ∷ []) (k ++ y ∷ []) ≡ false = apart_keys g d k n x y (Some j) walked w (λ f. other (let r : j ≡ n = cc in r)) in
          new.elsewhere j y other ∙ ap (λ b. within g s (child g j y) (cond {A = Option Key} b (Some []) None)) (sym key)
    ] refl

-- by the new name all is reached that is reached from s, and all else as before
pub walk-linked : (g g' : Slots) (d : Key) (n : ℕ) (x : Name) (s : ℕ) → Once g 0 → walk g d ≡ Some n → ((r : Key) → walk_from g s r ≡ Some n → ⊥) → Links g g' n x s
    → (k : Key) → walk g' k ≡ within g s (walk g k) (after_prefix (d ++ x ∷ []) k)
walk-linked g g' d n x s once walked apart new = by_last (λ k. walk g' k ≡ within g s (walk g k) (after_prefix (d ++ x ∷ []) k))
    (ap (within g s (Some 0)) (sym (after_prefix-nothing d x)))
    (λ k y ih.
    walk-snoc g' 0 k y ∙ ap (on_from g' y) ih
    ∙ link_step g g' d n x s once walked apart new k y (after_prefix (d ++ x ∷ []) k) (walk g k) refl
    ∙ ap (λ o. within g s o (longer (after_prefix (d ++ x ∷ []) k) y (same_key (d ++ x ∷ []) (k ++ y ∷ [])))) (sym (walk-snoc g 0 k y))
    ∙ ap (within g s (walk g (k ++ y ∷ []))) (sym (after_prefix-snoc (d ++ x ∷ []) k y)))
