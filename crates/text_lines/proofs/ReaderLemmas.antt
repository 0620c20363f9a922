-- Of every text a reader of lines reads one value, or one line and cause are its first fault.
use Rattle.std.proofs.Common.{ℕ, ◌≡◌, ◌+◌, List, [], ◌∷◌, ◌++◌, length, Result, Ok, Err, refl, sym, ◌∙◌, ap, subst, arith, ◌⊎◌, inl, inr, append_assoc, append-nil}
use Rattle.std.proofs.lemmas.List.{length-append}
use Rattle.text_lines.specs.Text.{Text, lines}
use Rattle.std.specs.Prelude.{IfOk, IfErr}
use Rattle.text_lines.specs.declared.cause.TextError.{TextError}
use Rattle.text_lines.specs.declared.cause.TextError.TheVariants as text_error
use Rattle.text_lines.specs.LineReader.{LineReader, Lead, ReadsAs, ShowsFirst, FirstFaultOf, ReadsOrFaults}
use Rattle.text_lines.specs.Gives.{FailsAt, GivesAt, IsFirstFaultOf}

module _ (S X C : Type 0) (r : LineReader S X C) where
  -- lines lead on to one line more
  pub lead_more : (before : List Text) (from known next : S) (here : Text) → Lead r from before known → r.behind known here ≡ Ok next → Lead r from (before ++ here ∷ []) next
  lead_more [] from known next here lead e = let P : S → Type 0 = λ s. r.behind s here ≡ Ok next in (next, subst P (sym lead) e, refl)
  lead_more (line ∷ before) from known next here lead e = (lead.0, lead.1, lead_more before lead.0 known next here lead.2 e)

  -- and to one end
  pub lead_unique : (ls : List Text) (from a b : S) → Lead r from ls a → Lead r from ls b → a ≡ b
  lead_unique [] from a b h k = sym h ∙ k
  lead_unique (line ∷ ls) from a b h k =
      let same : k.0 ≡ h.0 = cc in
      let P : S → Type 0 = λ s. Lead r s ls b in
      lead_unique ls h.0 a b h.2 (subst P same k.2)

  -- a line that shows a cause, behind lines that show none
  pub record Fault (from : S) (ls : List Text) (line : ℕ) (cause : C) : Type 0 where
    pub before : List Text
    pub here : Text
    pub after : List Text
    pub parts : ls ≡ before ++ here ∷ after
    pub number : line ≡ length before + 1
    pub known : S
    pub lead : Lead r from before known
    pub shows : r.behind known here ≡ Err cause

  abbrev pub LeadOrFault : S → List Text → Type 0
  LeadOrFault from ls = ((to : S) × Lead r from ls to) ⊎ ((line : ℕ) × (cause : C) × Fault from ls line cause)

  later : (from next : S) (line : Text) (ls : List Text) → r.behind from line ≡ Ok next → LeadOrFault next ls → LeadOrFault from (line ∷ ls)
  later from next line ls e rest = elim rest [
    | inl p ↦ inl (p.0, (next, e, p.1))
    | inr p ↦ inr (
      p.0 + 1,
      p.1,
      record {
        before = line ∷ p.2.before;
        here = p.2.here;
        after = p.2.after;
        parts = ap (λ (more : List Text). line ∷ more) p.2.parts;
        number = (let n = p.2.number in omega arith);
        known = p.2.known;
        lead = (next, e, p.2.lead);
        shows = p.2.shows;
      },
    )
  ]

  first_line : (from : S) (line : Text) (ls : List Text) (o : Result S C) → r.behind from line ≡ o → ((next : S) → LeadOrFault next ls) → LeadOrFault from (line ∷ ls)
  first_line from line ls (Ok next) e rest = later from next line ls e (rest next)
  first_line from line ls (Err cause) e rest = inr (1, cause, record { before = []; here = line; after = ls; parts = refl; number = omega arith; known = from; lead = refl; shows = e })

  pub lead_or_fault : (ls : List Text) (from : S) → LeadOrFault from ls
  lead_or_fault [] from = inl (from, refl)
  lead_or_fault (line ∷ ls) from = first_line from line ls _ refl (λ next. lead_or_fault ls next)

  pub lead_no_fault : (before : List Text) (here : Text) (after : List Text) (from known to : S) (cause : C) → Lead r from (before ++ here ∷ after) to → Lead r from before known → r.behind known here ≡ Err cause → ⊥
  lead_no_fault [] here after from known to cause all lead shows = let one = all.1 in cc
  lead_no_fault (line ∷ before) here after from known to cause all lead shows =
      let same : all.0 ≡ lead.0 = cc in
      let P : S → Type 0 = λ s. Lead r s (before ++ here ∷ after) to in
      lead_no_fault before here after lead.0 known to cause (subst P same all.2) lead.2 shows

  -- two faults behind the same lines
  pub record SameFault (b c : List Text) (x y : C) : Type 0 where
    pub length_is : length b ≡ length c
    pub cause_is : x ≡ y

  pub fault_unique : (b c : List Text) (h k : Text) (after more : List Text) (from m n : S) (x y : C) → b ++ h ∷ after ≡ c ++ k ∷ more → Lead r from b m → r.behind m h ≡ Err x → Lead r from c n → r.behind n k ≡ Err y → SameFault b c x y
  fault_unique [] [] h k after more from m n x y e bl bs cl cs = record { length_is = refl; cause_is = cc }
  fault_unique [] (line ∷ c) h k after more from m n x y e bl bs cl cs = let one = cl.1 in let same : h ≡ line = cc in cc
  fault_unique (line ∷ b) [] h k after more from m n x y e bl bs cl cs = let one = bl.1 in let same : line ≡ k = cc in cc
  fault_unique (line ∷ b) (other ∷ c) h k after more from m n x y e bl bs cl cs =
      let same : other ≡ line = cc in
      let rest : b ++ h ∷ after ≡ c ++ k ∷ more = cc in
      let first = bl.1 in
      let second = cl.1 in
      let next : cl.0 ≡ bl.0 = cc in
      let P : S → Type 0 = λ s. Lead r s c n in
      let ih = fault_unique b c h k after more bl.0 m n x y rest bl.2 bs (subst P next cl.2) cs in
      record { length_is = (let l = ih.length_is in omega arith); cause_is = ih.cause_is }

  whole_or_fault : (text : Text) (end : S) → Lead r r.start (lines text) end → (o : Result X C) → r.whole end ≡ o → ((x : X) × ReadsAs S X C r text x) ⊎ ((line : ℕ) × (cause : C) × FirstFaultOf r text line cause)
  whole_or_fault text end lead (Ok x) e = inl (x, record { end = end; lead = lead; whole = e })
  whole_or_fault text end lead (Err cause) e = inr (length (lines text), cause, inr (record { known = end; lead = lead; last = refl; shows = e }))

  some_of : (text : Text) → ((x : X) × ReadsAs S X C r text x) ⊎ ((line : ℕ) × (cause : C) × FirstFaultOf r text line cause)
  some_of text = elim (lead_or_fault (lines text) r.start) [
    | inl p ↦ whole_or_fault text p.0 p.1 _ refl
    | inr p ↦ inr (p.0, p.1, inl (record { before = p.2.before; here = p.2.here; after = p.2.after; parts = p.2.parts; number = p.2.number; known = p.2.known; lead = p.2.lead; shows = p.2.shows }))
  ]

  not_shown : (text : Text) (end : S) (line : ℕ) (cause : C) → Lead r r.start (lines text) end → ShowsFirst S X C r (lines text) line cause → ⊥
  not_shown text end line cause lead s = lead_no_fault s.before s.here s.after r.start s.known end cause (subst (λ ls. Lead r r.start ls end) s.parts lead) s.lead s.shows

  not_both_of : (text : Text) (x : X) (line : ℕ) (cause : C) → ReadsAs S X C r text x → FirstFaultOf r text line cause → ⊥
  not_both_of text x line cause reads fault = elim fault [
    | inl s ↦ not_shown text reads.end line cause reads.lead s
    | inr s ↦ (let same = lead_unique (lines text) r.start reads.end s.known reads.lead s.lead in
        let one = reads.whole in
        let other = s.shows in cc)
  ]

  one_value_of : (text : Text) (x y : X) → ReadsAs S X C r text x → ReadsAs S X C r text y → x ≡ y
  one_value_of text x y h k =
      let same = lead_unique (lines text) r.start h.end k.end h.lead k.lead in
      let one = h.whole in
      let other = k.whole in
      cc

  one_fault_of : (text : Text) (line other : ℕ) (cause another : C) → FirstFaultOf r text line cause → FirstFaultOf r text other another → (line ≡ other) × (cause ≡ another)
  one_fault_of text line other cause another first second = elim first [
    | inl s ↦ (elim second [
      | inl t ↦ (let same = fault_unique s.before t.before s.here t.here s.after t.after r.start s.known t.known cause another (sym s.parts ∙ t.parts) s.lead s.shows t.lead t.shows in
          (let l = same.length_is in let m = s.number in let n = t.number in omega arith, same.cause_is))
      | inr t ↦ absurd (not_shown text t.known line cause t.lead s)
    ])
    | inr s ↦ (elim second [
      | inl t ↦ absurd (not_shown text s.known other another s.lead t)
      | inr t ↦ (let same = lead_unique (lines text) r.start s.known t.known s.lead t.lead in
          let one = s.shows in
          let two = t.shows in
          (s.last ∙ sym t.last, cc))
    ])
  ]

  pub reads_or_faults : (text : Text) → ReadsOrFaults S X C r text
  reads_or_faults text = record {
    some = some_of text;
    not_both = not_both_of text;
    one_value = one_value_of text;
    one_fault = one_fault_of text;
  }

  -- how far a text is read: lines that show no cause, and those that are left
  pub record IsReadTo (text : Text) (known : S) (number : ℕ) (left : List Text) : Type 0 where
    pub before : List Text
    pub parts : lines text ≡ before ++ left
    pub count : number ≡ length before
    pub lead : Lead r r.start before known

  pub read_more : (text : Text) (known next : S) (number : ℕ) (here : Text) (left : List Text) → IsReadTo text known number (here ∷ left) → r.behind known here ≡ Ok next → IsReadTo text next (number + 1) left
  read_more text known next number here left to e = record {
    before = to.before ++ here ∷ [];
    parts = to.parts ∙ sym (append_assoc to.before (here ∷ []) left);
    count = (let n = to.count in simp length-append (omega arith));
    lead = lead_more to.before r.start known next here to.lead e;
  }

  pub read_fault : (text : Text) (known : S) (number : ℕ) (here : Text) (left : List Text) (cause : C) → IsReadTo text known number (here ∷ left) → r.behind known here ≡ Err cause → FirstFaultOf r text (number + 1) cause
  read_fault text known number here left cause to e = inl (record {
    before = to.before;
    here = here;
    after = left;
    parts = to.parts;
    number = ap (λ n. n + 1) to.count;
    known = known;
    lead = to.lead;
    shows = e;
  })

  read_all : (text : Text) (known : S) (number : ℕ) → IsReadTo text known number [] → Lead r r.start (lines text) known
  read_all text known number to = subst (λ ls. Lead r r.start ls known) (sym (to.parts ∙ append-nil to.before)) to.lead

  pub read_whole : (text : Text) (known : S) (number : ℕ) (x : X) → IsReadTo text known number [] → r.whole known ≡ Ok x → ReadsAs S X C r text x
  read_whole text known number x to e = record { end = known; lead = read_all text known number to; whole = e }

  pub read_end : (text : Text) (known : S) (number : ℕ) (cause : C) → IsReadTo text known number [] → r.whole known ≡ Err cause → FirstFaultOf r text number cause
  read_end text known number cause to e = inr (record {
    known = known;
    lead = read_all text known number to;
    last = to.count ∙ sym (ap length (to.parts ∙ append-nil to.before));
    shows = e;
  })

  pub read_none : (text : Text) → IsReadTo text r.start 0 (lines text)
  read_none text = record { before = []; parts = refl; count = refl; lead = refl }

  -- a text is read one line further, where its next line stands first in what is left
  pub one_more : (text : Text) (known next : S) (number : ℕ) (here : Text) (behind left : List Text) → IsReadTo text known number left → left ≡ here ∷ behind → r.behind known here ≡ Ok next → IsReadTo text next (number + 1) behind
  one_more text known next number here behind left to cut e =
      read_more text known next number here behind (subst (λ ls. IsReadTo text known number ls) cut to) e

  -- an error of the next line is the first fault of the text
  pub fault_here : (text : Text) (known : S) (number : ℕ) (here : Text) (behind left : List Text) (e : TextError C) → IsReadTo text known number left → left ≡ here ∷ behind → FailsAt (number + 1) e (r.behind known here) → IsFirstFaultOf r text e
  fault_here text known number here behind left text_error.NoMemory to cut fails = tt
  fault_here text known number here behind left (text_error.At line cause) to cut fails =
      let P : ℕ → Type 0 = λ n. FirstFaultOf r text n cause in
      subst P (sym fails.0) (read_fault text known number here behind cause (subst (λ ls. IsReadTo text known number ls) cut to) fails.1)

  -- what is read behind the last line is what the text reads as
  pub read_ok : (text : Text) (known : S) (number : ℕ) (left : List Text) (o : Result X (TextError C)) → IsReadTo text known number left → left ≡ [] → GivesAt (λ x. x) number o (r.whole known) → IfOk o (λ x. ReadsAs S X C r text x)
  read_ok text known number left (Err e) to none gives = tt
  read_ok text known number left (Ok x) to none gives = read_whole text known number x (subst (λ ls. IsReadTo text known number ls) none to) gives

  -- and an error there is its first fault
  pub read_at : (text : Text) (known : S) (number : ℕ) (left : List Text) (o : Result X (TextError C)) → IsReadTo text known number left → left ≡ [] → GivesAt (λ x. x) number o (r.whole known) → IfErr o (λ e. IsFirstFaultOf r text e)
  read_at text known number left (Ok x) to none gives = tt
  read_at text known number left (Err text_error.NoMemory) to none gives = tt
  read_at text known number left (Err (text_error.At line cause)) to none gives =
      let P : ℕ → Type 0 = λ n. FirstFaultOf r text n cause in
      subst P (sym gives.0) (read_end text known number cause (subst (λ ls. IsReadTo text known number ls) none to) gives.1)
