-- How told bits are cut into outputs, one after another.
use Rattle.std.specs.Prelude.{ℕ, ◌≡◌, Bool, List, [], ◌∷◌, take, Option, if◌then◌else◌}
use Rattle.mot_base.specs.declared.Party.{Party}
use Rattle.circuit_tables.specs.Table.{Output, Told, is_asked, AreCut}

-- bits are cut into the same outputs in one way alone
abbrev pub CutsOnce : Type 0
CutsOnce =
    (outputs : List Output) (bits : List Bool) (cut other : List Told) →
    AreCut outputs bits cut → AreCut outputs bits other → cut ≡ other

-- an output with the first bits of those that are left, as many as its width
abbrev pub told_first : Output → List Bool → Told
told_first o left = record { name = o.name; to = o.to; bits = take o.width left }

-- the same of an output that is asked for; of any other nothing is told
abbrev pub told_next : Option Party → Output → List Bool → List Told
told_next party o left = if is_asked party o then told_first o left ∷ [] else []

-- how many bits it takes
abbrev pub width_next : Option Party → Output → ℕ
width_next party o = if is_asked party o then o.width else 0
