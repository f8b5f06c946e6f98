-- Who waits, waits for one below.
use Rattle.std.proofs.Common.{◌≡◌, ℕ, [], ◌∷◌, ◌++◌, Option, Some, None, refl, sym, ap, ◌∙◌, append_assoc, append-nil, subst, ◌⊎◌, inl, inr}
use Rattle.fs_names.specs.Keys.{Key, after_prefix}
use Rattle.fs_names.specs.Names.{Name}
use Rattle.fs_names.specs.Parts.{HasNames}
use Rattle.fs_laws.specs.Maps.{Map}
use Rattle.fs_machine.specs.Records.{Holds, Holdings, Source, Dest}
use Rattle.fs_laws.specs.CallFacts.{IsClear, Located}
use Rattle.fs_laws.proofs.helping.FinishPassesPlaced.{child_cases}
use Rattle.fs_laws.proofs.events.TwoCalls.{OneKey, Ends, ends, ends_same}

-- a call that waits itself holds a node as its position or as a head's node: a parent still held is let go next, and a victim is followed by the finish
abbrev pub Keeps_waiting : Holdings → ℕ → Type 0
Keeps_waiting st n = (st.node ≡ n) ⊎ (HasNames st.source.walked × (st.source.node ≡ n)) ⊎ (HasNames st.dest.walked × (st.dest.node ≡ n))

-- the first wants a child of a node that it holds, at its position or below it by what it has walked; the other holds that child and waits itself: then the other's position is below the first's by one name or more
pub waits_below : (tree : Map ℕ) → OneKey tree → (kc w : Key) (c : Holdings) (kd : Key) (d : Holdings) (m n : ℕ) (x : Name)
    → Located tree kc c → Located tree kd d
    → tree (kc ++ w) ≡ Some m → Holds c m → tree ((kc ++ w) ++ x ∷ []) ≡ Some n
    → ((q : ℕ) → Holds d q → Holds c q → ⊥) → IsClear tree kd d.source.walked c → IsClear tree kd d.dest.walked c
    → Keeps_waiting d n → (r : Key) × (HasNames r × (kd ≡ kc ++ r))
waits_below tree one kc w c kd d m n x lc ld at_m held at_n apart source dest (inl h) =
    let k : kd ≡ (kc ++ w) ++ x ∷ [] = one kd ((kc ++ w) ++ x ∷ []) n (ld.here ∙ ap Some h) at_n in
    (w ++ x ∷ [], (more w, k ∙ append_assoc kc w (x ∷ [])))
  where
    more : (w : Key) → HasNames (w ++ x ∷ [])
    more [] = tt
    more (y ∷ w) = tt
waits_below tree one kc w c kd d m n x lc ld at_m held at_n apart source dest (inr h) = absurd (by h)
  where
    head : (walked : Key) (node : ℕ) → HasNames walked → tree (kd ++ walked) ≡ Some node → node ≡ n → IsClear tree kd walked c → ⊥
    head walked node more at_head is clear = go (ends walked more) (ends walked more).front refl
      where
        go : (e : Ends walked) (f : Key) → e.front ≡ f → ⊥
        go e f i =
            let k : kd ++ walked ≡ (kc ++ w) ++ x ∷ [] = one (kd ++ walked) ((kc ++ w) ++ x ∷ []) n (at_head ∙ ap Some is) at_n in
            let s : (kd ++ e.front ≡ kc ++ w) × (e.last ≡ x) = ends_same (kd ++ e.front) (kc ++ w) e.last x (append_assoc kd e.front (e.last ∷ []) ∙ ap (λ (l : Key). kd ++ l) (sym e.is) ∙ k) in
            on f i s.0
          where
            on : (f : Key) → e.front ≡ f → kd ++ e.front ≡ kc ++ w → ⊥
            on [] i g =
                let a : ◌≡◌ {A = Option ℕ} (Some d.node) (Some m) = sym ld.here ∙ ap tree (sym (append-nil kd) ∙ ap (λ (l : Key). kd ++ l) (sym i) ∙ g) ∙ at_m in
                apart m (inl (let b : d.node ≡ m = cc in b)) held
            on (y ∷ f) i g = clear e.front (e.last ∷ []) m (subst HasNames (sym i) tt) tt e.is (ap tree g ∙ at_m) held

    by : (HasNames d.source.walked × (d.source.node ≡ n)) ⊎ (HasNames d.dest.walked × (d.dest.node ≡ n)) → ⊥
    by (inl a) = head d.source.walked d.source.node a.0 (ld.head Source) a.1 source
    by (inr a) = head d.dest.walked d.dest.node a.0 (ld.head Dest) a.1 dest

-- while a call holds the parent of s, no other call's position gets below s by a take
pub none_enters : (tree : Map ℕ) (kf kd : Key) (x y : Name) (sp m : ℕ) (mover other : Holdings) → tree kf ≡ Some sp → Holds mover sp → tree kd ≡ Some m → Holds other m → ((q : ℕ) → Holds mover q → Holds other q → ⊥)
    → after_prefix (kf ++ x ∷ []) kd ≡ None → after_prefix (kf ++ x ∷ []) (kd ++ y ∷ []) ≡ None
none_enters tree kf kd x y sp m mover other at_sp held at_m holds apart off = go (child_cases (kf ++ x ∷ []) kd y off)
  where
    go : (after_prefix (kf ++ x ∷ []) (kd ++ y ∷ []) ≡ None) ⊎ (kf ++ x ∷ [] ≡ kd ++ y ∷ []) → after_prefix (kf ++ x ∷ []) (kd ++ y ∷ []) ≡ None
    go (inl h) = h
    go (inr h) =
        let e : kf ≡ kd = (ends_same kf kd x y h).0 in
        let z : ◌≡◌ {A = Option ℕ} (Some sp) (Some m) = sym at_sp ∙ ap tree e ∙ at_m in
        let q : sp ≡ m = cc in
        absurd (apart m (subst (Holds mover) q held) holds)
