-- What a function that reads may return, beside what the definitions give.
use Rattle.std.specs.Prelude.{◌≡◌, Result, Ok, Err}
use Rattle.fs_sched_find.specs.declared.reading.WhatFault.{WhatFault}
use Rattle.fs_sched_find.specs.declared.reading.WhatFault.TheVariants.{OutOfMemory}

-- the fault is the one that reading gives; out of memory says nothing of the words
abbrev pub FailsAs : {Y : Type 0} → WhatFault → Result Y WhatFault → Type 0
FailsAs OutOfMemory given = Unit {0}
FailsAs f given = given ≡ Err f

-- what was returned, seen by view, is what reading gives, unless an allocation failed
abbrev pub Says : {X Y : Type 0} → (X → Y) → Result X WhatFault → Result Y WhatFault → Type 0
Says view (Ok x) given = given ≡ Ok (view x)
Says view (Err f) given = FailsAs f given
