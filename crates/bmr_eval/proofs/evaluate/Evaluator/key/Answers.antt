use Rattle.std.proofs.Common.{ℕ, ◌∙◌, ap, ap₂, sym}
use Rattle.std.specs.Int.Bits.{xor_assoc}
use Rattle.share_types.specs.Sums.{xor_to}
use Rattle.share_types.specs.Keys.{◌⊕◌, key_of}
use Rattle.share_types.proofs.Parties.{xor_to_more}
use Rattle.bmr_keys.specs.Hiding.{hiding_key}
use Rattle.bmr_eval.proofs.evaluate.Evaluator.key.Goals as goal

pub loop-q-preserved : goal.loop-q-preserved
loop-q-preserved c =
    let self = c.args.self.now in
    let n = self.table.now.parties in
    let f = λ (q : ℕ). hiding_key (key_of n self.u.now.keys c.args.i q) (key_of n self.v.now.keys c.args.i q) self.gate c.args.i c.row-r.result c.args.j in
    let first = c.key_by-key.result.0 in
    ap₂ (λ (k h : ℕ). k ⊕ h) c.loop-q.invariant c.hidden.ensures
    ∙ (xor_assoc first (xor_to c.loop-q.q f) (f c.loop-q.q) ∙ ap (λ m. first ⊕ m) (sym (xor_to_more c.loop-q.q f)))
