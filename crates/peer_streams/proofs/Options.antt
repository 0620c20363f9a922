-- The first of several options that has a value, and answers of which two things are said.
use Rattle.std.proofs.Common.{◌≡◌, Bool, true, false, cond, Option, Some, None, Result, Ok, Err, OnOk, IfErr, refl}
use Rattle.std.specs.Option.{option_or}

pub or_assoc : {X : Type 0} (a b c : Option X) → option_or a (option_or b c) ≡ option_or (option_or a b) c
or_assoc None b c = refl
or_assoc (Some x) b c = refl

pub cond_or : {X : Type 0} (b : Bool) (x : X) (rest tail : Option X) → cond b (Some x) (option_or rest tail) ≡ option_or (cond b (Some x) rest) tail
cond_or true x rest tail = refl
cond_or false x rest tail = refl

pub both_ok : {X E : Type 0} (P Q : Type 0) (r : Result X E) → OnOk r P → OnOk r Q → OnOk r (P × Q)
both_ok P Q (Ok x) p q = (p, q)
both_ok P Q (Err e) p q = tt

pub always_ok : {X E : Type 0} (P : Type 0) (r : Result X E) → P → OnOk r P
always_ok P (Ok x) p = p
always_ok P (Err e) p = tt

pub both_err : {X E : Type 0} (P Q : E → Type 0) (r : Result X E) → IfErr r P → IfErr r Q → IfErr r (λ e. P e × Q e)
both_err P Q (Ok x) p q = tt
both_err P Q (Err e) p q = (p, q)

-- what an answer says of all things, each time
pub all_ok : {X E A : Type 0} (P : A → Type 0) (r : Result X E) → ((a : A) → OnOk r (P a)) → OnOk r ((a : A) → P a)
all_ok P (Ok x) each = each
all_ok P (Err e) each = tt
