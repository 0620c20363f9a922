-- Answers of which one thing is said in any case.
use Rattle.std.proofs.Common.{Result, Ok, Err, OnErr}

pub always_err : {X E : Type 0} (P : Type 0) (r : Result X E) → P → OnErr r P
always_err P (Ok x) p = tt
always_err P (Err e) p = p
