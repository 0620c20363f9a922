-- Two different uses of a tape read no place both.
use Rattle.std.proofs.Common.{◌≡◌, ap, ap₂, ◌∙◌, arith}
use Rattle.joint_run.specs.Uses.{UsesNeverMeet}

pub uses_never_meet : UsesNeverMeet
uses_never_meet u v place is other reads also =
    let a = is.gate in
    let b = is.to in
    let c = other.gate in
    let d = other.to in
    let e = reads.0 in
    let f = reads.1 in
    let g = also.0 in
    let h = also.1 in
    let session : u.session ≡ v.session = omega (arith, a, b, c, d, e, f, g, h) in
    let gate : u.gate ≡ v.gate = omega (arith, a, b, c, d, e, f, g, h, session) in
    let to : u.to ≡ v.to = omega (arith, a, b, c, d, e, f, g, h, session, gate) in
    ap₂ (λ s k. record { session = s; gate = k; to = u.to }) session gate
    ∙ ap (λ t. record { session = v.session; gate = v.gate; to = t }) to
