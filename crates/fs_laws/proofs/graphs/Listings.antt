-- Which names a directory lists after a link and after an unlink; and that these leave a graph.
use Rattle.std.proofs.Common.{◌≡◌, ℕ, Bool, true, false, cond, eqb, List, [], ◌∷◌, Option, Some, refl, sym, ap, ◌∙◌}
use Rattle.std.specs.Ordering.{is_lt}
use Rattle.fs_names.specs.Names.{name_cmp, Name, same_name, inserted_name, removed_name, has_name}
use Rattle.fs_names.specs.Shapes.{Shape, Dir, File}
use Rattle.fs_calls.specs.Graphs.{Graph, content_in, IsGraph}
use Rattle.fs_laws.proofs.trees.Prefixes.{same_refl, same_true}
use Rattle.fs_laws.proofs.graphs.Walks.{eqb_true}

with_step : (x y : Name) (ys : List Name) (b : Bool) → same_name x y ≡ b → (c : Bool) → has_name x (inserted_name x ys) ≡ true → has_name x (cond b (y ∷ ys) (cond c (x ∷ y ∷ ys) (y ∷ inserted_name x ys))) ≡ true
with_step x y ys true e c i = ap (λ (b : Bool). cond b true (has_name x ys)) e
with_step x y ys false e true i = ap (λ (b : Bool). cond b true (has_name x (y ∷ ys))) (same_refl x)
with_step x y ys false e false i = ap (λ (b : Bool). cond b true (has_name x (inserted_name x ys))) e ∙ i

else_step : (x z y : Name) (ys : List Name) (b c : Bool) → same_name z x ≡ false → has_name z (inserted_name x ys) ≡ has_name z ys → has_name z (cond b (y ∷ ys) (cond c (x ∷ y ∷ ys) (y ∷ inserted_name x ys))) ≡ has_name z (y ∷ ys)
else_step x z y ys true c e i = refl
else_step x z y ys false true e i = ap (λ (b : Bool). cond b true (has_name z (y ∷ ys))) e
else_step x z y ys false false e i = ap (λ (b : Bool). cond (same_name z y) true b) i

out_step : (x y : Name) (ys : List Name) (b : Bool) → same_name x y ≡ b → has_name x (removed_name x ys) ≡ false → has_name x (cond b (removed_name x ys) (y ∷ removed_name x ys)) ≡ false
out_step x y ys true e i = i
out_step x y ys false e i = ap (λ (b : Bool). cond b true (has_name x (removed_name x ys))) e ∙ i

out_else : (x z y : Name) (ys : List Name) (b : Bool) → same_name x y ≡ b → same_name z x ≡ false → has_name z (removed_name x ys) ≡ has_name z ys → has_name z (cond b (removed_name x ys) (y ∷ removed_name x ys)) ≡ has_name z (y ∷ ys)
out_else x z y ys false s e i = ap (λ (b : Bool). cond (same_name z y) true b) i
out_else x z y ys true s e i = i ∙ sym (ap (λ (b : Bool). cond b true (has_name z ys)) (ap (same_name z) (sym (same_true x y s)) ∙ e))

pub has_with : (x : Name) (ns : List Name) → has_name x (inserted_name x ns) ≡ true
has_with x [] = ap (λ (b : Bool). cond b true false) (same_refl x)
has_with x (y ∷ ys) = with_step x y ys (same_name x y) refl (is_lt (name_cmp x y)) (has_with x ys)

pub with_else : (x z : Name) (ns : List Name) → same_name z x ≡ false → has_name z (inserted_name x ns) ≡ has_name z ns
with_else x z [] e = ap (λ (b : Bool). cond b true false) e
with_else x z (y ∷ ys) e = else_step x z y ys (same_name x y) (is_lt (name_cmp x y)) e (with_else x z ys e)

pub has_without : (x : Name) (ns : List Name) → has_name x (removed_name x ns) ≡ false
has_without x [] = refl
has_without x (y ∷ ys) = out_step x y ys (same_name x y) refl (has_without x ys)

pub without_else : (x z : Name) (ns : List Name) → same_name z x ≡ false → has_name z (removed_name x ns) ≡ has_name z ns
without_else x z [] e = refl
without_else x z (y ∷ ys) e = out_else x z y ys (same_name x y) refl e (without_else x z ys e)

-- new bytes leave a graph
pub graph_content : (graph : Graph) (n : ℕ) (old bytes : List ℕ) → graph.shape n ≡ Some (File old) → IsGraph graph → IsGraph (content_in n bytes graph)
graph_content graph n old bytes file is = record {
  one_key = is.one_key;
  of_dir = λ d m x e. let g : (names : List Name) × (graph.shape d ≡ Some (Dir names)) × (has_name x names ≡ true) = is.of_dir d m x e in (g.0, dir_stays d g.0 g.1 (eqb d n) refl, g.2);
  to_used = λ d m x e. used m (is.to_used d m x e) (eqb m n);
  listed = λ d names x e h. is.listed d names x (dir_was d names (eqb d n) e) h;
  root = (is.root.0, dir_stays 0 is.root.0 is.root.1 (eqb 0 n) refl);
  loose = is.loose;
}
  where
    dir_stays : (d : ℕ) (names : List Name) → graph.shape d ≡ Some (Dir names) → (b : Bool) → eqb d n ≡ b → cond b (Some (File bytes)) (graph.shape d) ≡ Some (Dir names)
    dir_stays d names e true i = let z : ◌≡◌ {A = Option Shape} (Some (File old)) (Some (Dir names)) = sym file ∙ ap graph.shape (sym (eqb_true d n i)) ∙ e in cc
    dir_stays d names e false i = e

    dir_was : (d : ℕ) (names : List Name) (b : Bool) → cond b (Some (File bytes)) (graph.shape d) ≡ Some (Dir names) → graph.shape d ≡ Some (Dir names)
    dir_was d names true e = cc
    dir_was d names false e = e

    used : (m : ℕ) → (s : Shape) × (graph.shape m ≡ Some s) → (b : Bool) → (s : Shape) × (cond b (Some (File bytes)) (graph.shape m) ≡ Some s)
    used m u true = (File bytes, refl)
    used m u false = u
