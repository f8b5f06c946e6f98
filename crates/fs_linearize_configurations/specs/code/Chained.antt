-- Chains through a list of keys.
use Rattle.std.specs.Prelude.{◌≡◌, ℕ, length, slice_get, Option, Some}
use Rattle.std.specs.Ordering.{nat_cmp}
use Rattle.std.specs.BTreeMap.{get}
use Rattle.fs_linearize_configurations.specs.code.Keys.{IsLastWith}
use Rattle.fs_linearize_configurations.specs.declared.chains.Chains.TheInside.{Inside}

-- the map has the last place of each key, and each place the last one before it with the same key
pub record IsChained (c : Inside) : Type 0 where
  pub long : length c.before.items ≡ length c.keys.items
  pub last : (key : ℕ) → IsLastWith c.keys.items key (length c.keys.items) (get nat_cmp c.last key)
  pub before : (place key : ℕ) (o : Option ℕ) → slice_get c.keys.items place ≡ Some key → slice_get c.before.items place ≡ Some o → IsLastWith c.keys.items key place o
