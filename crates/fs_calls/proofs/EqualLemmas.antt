-- When two numbers are the same, and two graphs.
use Rattle.std.proofs.Common.{◌≡◌, ℕ, Bool, true, false, eqb, ◌&&◌, Option, refl, ap₂, arith}
use Rattle.fs_names.specs.Names.{Name}
use Rattle.fs_names.specs.Shapes.{Shape}
use mathlib.Core.Path.{fun_ext}
use Rattle.fs_calls.specs.Graphs.{Graph, Children}

-- a test of two numbers that holds
pub eqb_true : (n m : ℕ) → eqb n m ≡ true → n ≡ m
eqb_true n m e = grind arith

-- a number equals itself
pub eqb_refl : (n : ℕ) → eqb n n ≡ true
eqb_refl n = grind arith

-- two tests that hold together
pub both_true : (a b : Bool) → (a && b) ≡ true → (a ≡ true) × (b ≡ true)
both_true true true e = (refl, refl)
both_true true false e = cc
both_true false b e = cc

-- a graph by its two parts
pub graph_by : {child child' : Children} {shape shape' : ℕ → Option Shape} → ((d : ℕ) (y : Name) → child d y ≡ child' d y) → ((m : ℕ) → shape m ≡ shape' m) → ◌≡◌ {A = Graph} (record { child = child; shape = shape }) (record { child = child'; shape = shape' })
graph_by e f = ap₂ (λ (k : Children) (s : ℕ → Option Shape). record { child = k; shape = s }) (fun_ext (λ d. fun_ext (λ y. e d y))) (fun_ext f)
