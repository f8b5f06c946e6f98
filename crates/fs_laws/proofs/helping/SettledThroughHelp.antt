-- The settled tree through helping and takes.
use Rattle.std.proofs.Common.{◌≡◌, List, [], ◌∷◌, ◌++◌, refl, sym, ap, ◌∙◌}
use Rattle.fs_names.specs.Keys.{Key}
use Rattle.fs_names.specs.Shapes.{Shape}
use Rattle.fs_laws.specs.Changes.{Change, changed, outcome, reply, after}
use Rattle.fs_calls.specs.Forms.{Form, under, Fits}
use Rattle.fs_laws.specs.Maps.{Map}
use Rattle.fs_calls.specs.declared.reply.Reply.{Reply}
use Rattle.fs_laws.specs.Placed.{Passes, PastAll, InPlace, rekey_all}
use Rattle.fs_laws.proofs.helping.FinishPassesPlaced.{past_all}
use Rattle.fs_laws.specs.Settled.{settle, settle_replies}

pub settle_append : (tree : Map Shape) (xs ys : List (Key × Form)) → settle tree (xs ++ ys) ≡ settle (settle tree xs) ys
settle_append tree [] ys = refl
settle_append tree (x ∷ xs) ys = settle_append (after tree (under x.0 x.1)) xs ys

pub replies_append : (tree : Map Shape) (xs ys : List (Key × Form)) → settle_replies tree (xs ++ ys) ≡ settle_replies tree xs ++ settle_replies (settle tree xs) ys
replies_append tree [] ys = refl
replies_append tree (x ∷ xs) ys = ap (λ (rs : List Reply). reply tree (under x.0 x.1) ∷ rs) (replies_append (after tree (under x.0 x.1)) xs ys)

-- help: the call goes to the end, and the settled tree is what it leaves there
pub helped : (tree : Map Shape) (ps : List (Key × Form)) (k : Key) (remaining call : Form) → under k remaining ≡ call → settle tree (ps ++ (k, remaining) ∷ []) ≡ after (settle tree ps) call
helped tree ps k remaining call e = settle_append tree ps ((k, remaining) ∷ []) ∙ ap (after (settle tree ps)) e

pub helped_replies : (tree : Map Shape) (ps : List (Key × Form)) (k : Key) (remaining call : Form) → under k remaining ≡ call → settle_replies tree (ps ++ (k, remaining) ∷ []) ≡ settle_replies tree ps ++ reply (settle tree ps) call ∷ []
helped_replies tree ps k remaining call e = replies_append tree ps ((k, remaining) ∷ []) ∙ ap (λ (c : Form). settle_replies tree ps ++ reply (settle tree ps) c ∷ []) e

pub settle_walked : (tree : Map Shape) (front back : List (Key × Form)) (k k2 : Key) (remaining rel2 : Form) → under k remaining ≡ under k2 rel2 → settle tree (front ++ (k, remaining) ∷ back) ≡ settle tree (front ++ (k2, rel2) ∷ back)
settle_walked tree [] back k k2 remaining rel2 e = ap (λ (c : Form). settle (after tree c) back) e
settle_walked tree (p ∷ front) back k k2 remaining rel2 e = settle_walked (after tree (under p.0 p.1)) front back k k2 remaining rel2 e

pub replies_walked : (tree : Map Shape) (front back : List (Key × Form)) (k k2 : Key) (remaining rel2 : Form) → under k remaining ≡ under k2 rel2 → settle_replies tree (front ++ (k, remaining) ∷ back) ≡ settle_replies tree (front ++ (k2, rel2) ∷ back)
replies_walked tree [] back k k2 remaining rel2 e = ap (λ (c : Form). reply tree c ∷ settle_replies (after tree c) back) e
replies_walked tree (p ∷ front) back k k2 remaining rel2 e = ap (λ (rs : List Reply). reply tree (under p.0 p.1) ∷ rs) (replies_walked (after tree (under p.0 p.1)) front back k k2 remaining rel2 e)

-- carry out: the call leaves its place, those before it are carried along, and the settled tree stays
pub record Carried (tree : Map Shape) (front back : List (Key × Form)) (k : Key) (remaining : Form) (ch : Change) : Type 0 where
  pub tree_is : settle (changed ch tree) (rekey_all ch front ++ back) ≡ settle tree (front ++ (k, remaining) ∷ back)
  pub same_reply : reply (settle tree front) (under k remaining) ≡ reply tree (under k remaining)
  pub front_replies : settle_replies (changed ch tree) (rekey_all ch front) ≡ settle_replies tree front
  pub back_replies : settle_replies (settle (changed ch tree) (rekey_all ch front)) back ≡ settle_replies (after (settle tree front) (under k remaining)) back

pub carried : (tree : Map Shape) (front back : List (Key × Form)) (k : Key) (remaining : Form) (ch : Change) → (outcome tree (under k remaining)).1 ≡ ch → Fits (under k remaining) → InPlace tree front → Passes tree (under k remaining) ch front → InPlace (changed ch tree) (rekey_all ch front) → Carried tree front back k remaining ch
carried tree front back k remaining ch is fits s p t =
    let all : PastAll tree (under k remaining) ch front = past_all tree (under k remaining) ch front is fits s p t in
    let same_tree : settle (changed ch tree) (rekey_all ch front) ≡ after (settle tree front) (under k remaining) = ap (λ (c : Change). settle (changed c tree) (rekey_all ch front)) (sym is) ∙ all.tree_is in
    record {
      tree_is = settle_append (changed ch tree) (rekey_all ch front) back ∙ ap (λ (u : Map Shape). settle u back) same_tree ∙ sym (settle_append tree front ((k, remaining) ∷ back));
      same_reply = ap (λ (o : Reply × Change). o.0) all.same_outcome;
      front_replies = ap (λ (c : Change). settle_replies (changed c tree) (rekey_all ch front)) (sym is) ∙ all.same_replies;
      back_replies = ap (λ (u : Map Shape). settle_replies u back) same_tree;
    }
