-- What was sent, message by message.
use Rattle.std.proofs.Common.{◌≡◌, ◌≢◌, ℕ, zero, suc, ◌+◌, eqb, eq-eqb, Bool, true, false, cond, List, [], ◌∷◌, ◌++◌, append_assoc, length, take, drop, Option, Some, None, refl, sym, ap, subst, ◌∙◌, arith}
use Rattle.std.specs.Prelude.{slice_get}
use Rattle.std.proofs.lemmas.Bool.{eqb-true, eqb-false, ne_eqb}
use Rattle.std.proofs.lemmas.Grind.{flat_map-append}
use Rattle.std.proofs.lemmas.List.{append-nil}
use Rattle.mot_base.proofs.Lists.{take_next}
use Rattle.mot_base.specs.Links.{ByParty, IsAppended}
use Rattle.frames.specs.Bytes.{canonical}
use Rattle.gate_tasks.specs.declared.outgoing.Out.{Out}
use Rattle.peer_streams.specs.Sending.{AreSent, AreBegun}
use Rattle.party_engine.specs.Saying.{frame_of, bytes_to, bytes_of}

-- ---- one message more

bytes_here : (out : Out) → bytes_to out.to.0 out ≡ canonical (frame_of out)
bytes_here out = ap (λ b. cond b (canonical (frame_of out)) []) (eq-eqb out.to.0 out.to.0 refl)

bytes_there : (q : ℕ) (out : Out) → q ≢ out.to.0 → bytes_to q out ≡ []
bytes_there q out other = ap (λ b. cond b (canonical (frame_of out)) []) (ne_eqb out.to.0 q (λ same. other (sym same)))

-- a list cut at one of its elements
cut_next : {X : Type 0} (xs : List X) (k : ℕ) (x : X) → slice_get xs k ≡ Some x → xs ≡ take k xs ++ x ∷ drop (suc k) xs
cut_next [] k x at = absurd (let clash : None ≡ Some x = at in cc)
cut_next (y ∷ xs) zero x at = let same : Some y ≡ Some x = at in let one : y ≡ x = cc in ap (λ z. z ∷ xs) one
cut_next (y ∷ xs) (suc k) x at = ap (λ zs. y ∷ zs) (cut_next xs k x at)

cut_at : {X : Type 0} (xs : List X) (k : ℕ) (x : X) → slice_get xs k ≡ Some x → xs ≡ take k xs ++ x ∷ drop (k + 1) xs
cut_at xs k x at = let next : suc k ≡ k + 1 = omega arith in cut_next xs k x at ∙ ap (λ n. take k xs ++ x ∷ drop n xs) next

bytes_more : (outs : List Out) (k q : ℕ) (out : Out) → slice_get outs k ≡ Some out → bytes_of (take (k + 1) outs) q ≡ bytes_of (take k outs) q ++ bytes_to q out
bytes_more outs k q out at =
    ap (λ xs. bytes_of xs q) (take_next outs k out at)
    ∙ flat_map-append (bytes_to q) (take k outs) (out ∷ [])
    ∙ ap (λ ys. bytes_of (take k outs) q ++ ys) (append-nil (bytes_to q out))

bytes_cut : (outs : List Out) (k q : ℕ) (out : Out) → slice_get outs k ≡ Some out → bytes_of outs q ≡ bytes_of (take k outs) q ++ (bytes_to q out ++ bytes_of (drop (k + 1) outs) q)
bytes_cut outs k q out at =
    ap (λ xs. bytes_of xs q) (cut_at outs k out at)
    ∙ flat_map-append (bytes_to q) (take k outs) (out ∷ drop (k + 1) outs)

-- first ones of bytes behind others
take_behind : (xs ys : List ℕ) (n : ℕ) → take (length xs + n) (xs ++ ys) ≡ xs ++ take n ys
take_behind [] ys n = let none : 0 + n ≡ n = omega arith in ap (λ m. take m ys) none
take_behind (x ∷ xs) ys n =
    let next : suc (length xs) + n ≡ suc (length xs + n) = omega arith in
    ap (λ m. take m (x ∷ (xs ++ ys))) next ∙ ap (λ zs. x ∷ zs) (take_behind xs ys n)

-- of the first n bytes, as many as there are
some_of : (xs ys : List ℕ) (n : ℕ) → (k : ℕ) × (take k (xs ++ ys) ≡ take n xs)
some_of xs ys zero = (0, refl)
some_of [] ys (suc n) = (0, refl)
some_of (x ∷ xs) ys (suc n) = let rest = some_of xs ys n in (suc rest.0, ap (λ zs. x ∷ zs) rest.1)

module _ (outs : List Out) (k : ℕ) (out : Out) (there : slice_get outs k ≡ Some out) where
  pub sent-more : (before now next : Option ByParty) → AreSent before now (bytes_of (take k outs)) → IsAppended now next out.to.0 (canonical (frame_of out)) → AreSent before next (bytes_of (take (k + 1) outs))
  sent-more None now next sent more = tt
  sent-more (Some before) None next sent more = absurd sent
  sent-more (Some before) (Some now) None sent more = absurd more
  sent-more (Some before) (Some now) (Some next) sent more = λ q. at q (eqb q out.to.0) refl
    where
      at : (q : ℕ) (b : Bool) → eqb q out.to.0 ≡ b → next q ≡ before q ++ bytes_of (take (k + 1) outs) q
      at q true is =
          let same : q ≡ out.to.0 = eqb-true q out.to.0 is in
          let here : next out.to.0 ≡ before out.to.0 ++ bytes_of (take (k + 1) outs) out.to.0 =
          more.0
          ∙ ap (λ xs. xs ++ canonical (frame_of out)) (sent out.to.0)
          ∙ append_assoc (before out.to.0) (bytes_of (take k outs) out.to.0) (canonical (frame_of out))
          ∙ ap (λ ys. before out.to.0 ++ ys) (ap (λ ys. bytes_of (take k outs) out.to.0 ++ ys) (sym (bytes_here out)) ∙ sym (bytes_more outs k out.to.0 out there)) in
          subst (λ (p : ℕ). next p ≡ before p ++ bytes_of (take (k + 1) outs) p) (sym same) here
      at q false is =
          let ne : q ≢ out.to.0 = eqb-false q out.to.0 is in
          more.1 q ne ∙ sent q
          ∙ ap (λ ys. before q ++ ys) (sym (bytes_more outs k q out there ∙ ap (λ ys. bytes_of (take k outs) q ++ ys) (bytes_there q out ne) ∙ append-nil (bytes_of (take k outs) q)))

  pub begun-more : (n : ℕ) (before now next : Option ByParty) → AreSent before now (bytes_of (take k outs)) → IsAppended now next out.to.0 (take n (canonical (frame_of out))) → AreBegun before next (bytes_of outs)
  begun-more n None now next sent more = tt
  begun-more n (Some before) None next sent more = absurd sent
  begun-more n (Some before) (Some now) None sent more = absurd more
  begun-more n (Some before) (Some now) (Some next) sent more = λ q. at q (eqb q out.to.0) refl
    where
      at : (q : ℕ) (b : Bool) → eqb q out.to.0 ≡ b → (i : ℕ) × (next q ≡ before q ++ take i (bytes_of outs q))
      at q true is =
          let same : q ≡ out.to.0 = eqb-true q out.to.0 is in
          let front = bytes_of (take k outs) out.to.0 in
          let behind = bytes_of (drop (k + 1) outs) out.to.0 in
          let some = some_of (canonical (frame_of out)) behind n in
          let whole : bytes_of outs out.to.0 ≡ front ++ (canonical (frame_of out) ++ behind) =
          bytes_cut outs k out.to.0 out there ∙ ap (λ ys. front ++ (ys ++ behind)) (bytes_here out) in
          let here : next out.to.0 ≡ before out.to.0 ++ take (length front + some.0) (bytes_of outs out.to.0) =
          more.0
          ∙ ap (λ xs. xs ++ take n (canonical (frame_of out))) (sent out.to.0)
          ∙ append_assoc (before out.to.0) front (take n (canonical (frame_of out)))
          ∙ ap (λ ys. before out.to.0 ++ ys)
          (ap (λ ys. front ++ ys) (sym some.1) ∙ sym (take_behind front (canonical (frame_of out) ++ behind) some.0) ∙ ap (take (length front + some.0)) (sym whole)) in
          subst (λ (p : ℕ). (i : ℕ) × (next p ≡ before p ++ take i (bytes_of outs p))) (sym same) (length front + some.0, here)
      at q false is =
          let ne : q ≢ out.to.0 = eqb-false q out.to.0 is in
          let front = bytes_of (take k outs) q in
          let behind = bytes_to q out ++ bytes_of (drop (k + 1) outs) q in
          let part = take_behind front behind 0 in
          let all : take (length front + 0) (bytes_of outs q) ≡ front = ap (take (length front + 0)) (bytes_cut outs k q out there) ∙ part ∙ append-nil front in
          (length front + 0, more.1 q ne ∙ sent q ∙ ap (λ ys. before q ++ ys) (sym all))
