-- The renaming that renames nothing, and one renaming after another.
use Rattle.std.proofs.Common.{◌≡◌, ℕ, Option, Some, None, refl, ap, ap₂, ◌∙◌}
use Rattle.std.specs.Prelude.{option_map}
use mathlib.Core.Path.{fun_ext}
use Rattle.fs_machine.specs.Records.{Head, Holdings, Record}
use Rattle.fs_machine.specs.States.{State, empty}
use Rattle.fs_laws.specs.Renamings.{Renaming, renamed_number, renamed_holdings, renamed_record, renamed}
use Rattle.fs_laws.proofs.Edits.{same_graph}
use Rattle.fs_laws.proofs.Steps.{same_state}
use Rattle.fs_names.specs.declared.limits.Limits.{Limits}

pub nothing : Renaming
nothing = record { to = λ n. n; from = λ n. n; there = λ n. refl; back = λ n. refl; root = refl }

pub nothing_empty : (limits : Limits) (limit : ℕ) → empty limits limit ≡ renamed nothing (empty limits limit)
unfolding nothing
nothing_empty limits limit = refl

-- q first, and then r
abbrev pub after : Renaming → Renaming → Renaming
after r q = record {
  to = λ n. r.to (q.to n);
  from = λ n. q.from (r.from n);
  there = λ n. ap q.from (r.there (q.to n)) ∙ q.there n;
  back = λ n. ap r.to (q.back (r.from n)) ∙ r.back n;
  root = ap r.to q.root ∙ r.root;
}

number_after : (r q : Renaming) (o : Option ℕ) → renamed_number (after r q) o ≡ renamed_number r (renamed_number q o)
number_after r q None = refl
number_after r q (Some n) = refl

-- stands with the same parts
pub same_holdings : (n : ℕ) (a b v w : Option ℕ) (s d : Head) → a ≡ b → v ≡ w → ◌≡◌ {A = Holdings} (record { node = n; behind = a; source = s; dest = d; victim = v }) (record { node = n; behind = b; source = s; dest = d; victim = w })
same_holdings n a b v w s d i j = ap₂ (λ (x y : Option ℕ). record { node = n; behind = x; source = s; dest = d; victim = y }) i j

holdings_after : (r q : Renaming) (st : Holdings) → renamed_holdings (after r q) st ≡ renamed_holdings r (renamed_holdings q st)
holdings_after r q st = same_holdings (r.to (q.to st.node)) _ _ _ _ _ _ (number_after r q st.behind) (number_after r q st.victim)

in_place_after : (r q : Renaming) (o : Option Holdings) → option_map (renamed_holdings (after r q)) o ≡ option_map (renamed_holdings r) (option_map (renamed_holdings q) o)
in_place_after r q None = refl
in_place_after r q (Some st) = ap (λ (x : Holdings). Some x) (holdings_after r q st)

-- records with the same parts
pub same_record : (op : Record) (s t : Option Holdings) (a b v w : Option ℕ) → s ≡ t → a ≡ b → v ≡ w → ◌≡◌ {A = Record} (record op { holdings = s; reserved = a; removed = v }) (record op { holdings = t; reserved = b; removed = w })
same_record op s t a b v w i j k =
    ap₂ (λ (x : Option Holdings) (y : Option ℕ). record op { holdings = x; reserved = y; removed = v }) i j
    ∙ ap (λ (x : Option ℕ). record op { holdings = t; reserved = b; removed = x }) k

record_after : (r q : Renaming) (op : Record) → renamed_record (after r q) op ≡ renamed_record r (renamed_record q op)
record_after r q op = same_record op _ _ _ _ _ _ (in_place_after r q op.holdings) (number_after r q op.reserved) (number_after r q op.removed)

records_after : (r q : Renaming) (o : Option Record) → option_map (renamed_record (after r q)) o ≡ option_map (renamed_record r) (option_map (renamed_record q) o)
records_after r q None = refl
records_after r q (Some op) = ap (λ (x : Record). Some x) (record_after r q op)

pub renamed_after : (r q : Renaming) (s : State) → renamed (after r q) s ≡ renamed r (renamed q s)
renamed_after r q s = same_state s.limit s.start s.on_seat s.timeline _ _ _ _ _ _
    (same_graph (fun_ext (λ n. fun_ext (λ x. number_after r q (s.graph.child (q.from (r.from n)) x)))) refl)
    refl
    (fun_ext (λ c. records_after r q (s.ops c)))
