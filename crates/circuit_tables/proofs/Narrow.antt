-- Values whose inputs have few bits.
use Rattle.std.proofs.Common.{ℕ, zero, suc, ◌≡◌, ◌<◌, ◌≤◌, Bool, true, false, List, [], ◌∷◌, refl, length, get_or, Option, Some, subst, cond, arith}
use Rattle.std.specs.Prelude.{slice_get, All}
use Rattle.std.proofs.lemmas.Option.{slice_get-get_or, get_or_from_slice_get}
use Rattle.mot_base.specs.declared.Party.{Party}
use Rattle.circuit_tables.specs.Table.{Input}
use Rattle.circuit_tables.specs.Values.{is_owned, HaveWidths}
use Rattle.mot_base.proofs.Lists.{some_at}

owned_narrow : (b : Bool) (width bound : ℕ) → width ≤ bound → cond b width 0 ≤ bound
owned_narrow true width bound h = h
owned_narrow false width bound h = omega arith

-- where no input has more bits than a bound, no value has
pub values_narrow : (owner : Option Party) (inputs : List Input) (v : List (List Bool)) (bound : ℕ) → HaveWidths owner inputs v →
    All (λ x. x.width ≤ bound) inputs → All (λ bits. length bits ≤ bound) v
values_narrow owner inputs v bound widths narrow = λ at d within.
    let count = widths.count in
    let here = some_at inputs at (omega arith) in
    let value = slice_get-get_or v at d within in
    let long = widths.each at here.0 (get_or v at d) here.1 value in
    let there : at < length inputs = omega arith in
    let few : here.0.width ≤ bound = subst (λ (x : Input). x.width ≤ bound) (get_or_from_slice_get inputs at here.0 here.0 here.1) (narrow at here.0 there) in
    rw long (owned_narrow (is_owned owner here.0.party) here.0.width bound few)
