use Rattle.std.proofs.Common.{List, ℕ, [], ◌++◌, ap, ap₂, ◌∙◌}
use Rattle.sha2.specs.Sha256.{sha256}
use Rattle.bmr_keys.specs.Hiding.{hiding_key, hiding_text, first_key}
use Rattle.bmr_keys.proofs.hiding.prf.Goals as goal

pub returns : goal.returns
unfolding hiding_key hiding_text first_key
returns c =
    let fed = c.update-4.ensures _ (c.update-3.ensures _ (c.update-2.ensures _ (c.update.ensures [] c.new-hasher.ensures))) in
    let digest = c.finalize-hash.ensures _ fed in
    let x = c.as_slice.ensures ∙ c.to_be_bytes.ensures in
    let y = c.as_slice-2.ensures ∙ c.to_be_bytes-2.ensures in
    let gate = c.as_slice-3.ensures ∙ c.to_be_bytes-3.ensures in
    let text =
    ap₂ (λ (a b : List ℕ). a ++ b) (ap₂ (λ (a b : List ℕ). a ++ b) (ap₂ (λ (a b : List ℕ). a ++ b) x y) gate)
    c.as_slice-4.ensures in
    c.read_u128.ensures ∙ ap first_key (c.as_slice-5.ensures ∙ digest ∙ ap sha256 text)
