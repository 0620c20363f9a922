-- What each party is told, as outputs of the circuit.
use Rattle.std.proofs.Common.{ℕ, ◌≡◌, ◌+◌, Bool, true, false, cond, List, [], ◌∷◌, ◌++◌, length, map, Some, refl, sym, ◌∙◌, ap, ap₂, subst}
use Rattle.std.specs.Prelude.{filter, slice_index}
use Rattle.std.specs.List.{flat_map}
use Rattle.share_types.specs.Bits.{bits}
use Rattle.share_types.specs.Wires.{includes}
use Rattle.share_types.proofs.BitsLemmas.{length-bits}
use Rattle.share_types.specs.declared.receiver.Receiver.{Receiver}
use Rattle.share_types.specs.declared.receiver.Receiver.TheVariants.{All}
use Rattle.circuit_tables.specs.Table.{Output, Told, asked, joined_bits, AreCut}
use Rattle.mixed_language.specs.Circuit.{Statement}
use Rattle.mixed_language.specs.Circuit as mixed
use Rattle.mixed_language.specs.Language.{states, is_told_slot}
use Rattle.mixed_language.specs.Table as mixed_table
use Rattle.mixed_language.specs.Eval.{told_among, told_of}
use Rattle.bristol_reader.specs.Table as bristol_table
use Rattle.bristol_reader.specs.Eval.{output_bits}
use Rattle.plan_gates.specs.Plain.{GateTold}
use Rattle.gate_plan.specs.Keeps.{unnamed}
use Rattle.gate_plan.specs.Bristol.{told_bits}
use Rattle.local_run.specs.Told.{bits_of_entries, outputs_to}
use Rattle.local_run.proofs.Told.{heads, cuts_by_party, joined_entries}
use Rattle.local_engine.specs.Told.{MixedOutputsAreTold, BristolOutputsAreTold}

-- ---- mixed circuits

unnamed_bits : (p : ℕ) (ts : List Told) → bits_of_entries (map unnamed ts) p ≡ flat_map (λ (t : Told). t.bits) (outputs_to p ts)
unnamed_bits p [] = refl
unnamed_bits p (t ∷ ts) = by (includes t.to p) (unnamed_bits p ts)
  where
    by : (b : Bool) → bits_of_entries (map unnamed ts) p ≡ flat_map (λ (t : Told). t.bits) (outputs_to p ts) →
        flat_map (λ (e : GateTold). e.bits) (cond b (unnamed t ∷ filter (λ (e : GateTold). includes e.to p) (map unnamed ts)) (filter (λ (e : GateTold). includes e.to p) (map unnamed ts)))
        ≡ flat_map (λ (t : Told). t.bits) (cond b (t ∷ outputs_to p ts) (outputs_to p ts))
    by true rest = ap (λ (more : List Bool). t.bits ++ more) rest
    by false rest = rest

-- the table of a circuit's outputs, and what it tells
module _ (all : List Statement) (values : List ℕ) where
  abbrev told : Statement → Told
  told s = record {
    name = mixed_table.name_at all (mixed_table.told_value s);
    to = mixed_table.receiver_of s.shape.party;
    bits = bits (mixed_table.width_at all (mixed_table.told_value s)) (slice_index values (mixed_table.told_value s));
  }

  abbrev entry : Statement → Output
  entry s = record {
    name = mixed_table.name_at all (mixed_table.told_value s);
    to = mixed_table.receiver_of s.shape.party;
    width = mixed_table.width_at all (mixed_table.told_value s);
  }

  same_map : {Z : Type 0} (f : Told → Z) (g : Output → Z) → ((s : Statement) → f (told s) ≡ g (entry s)) → (ss : List Statement) →
      map f (told_among all values ss) ≡ map g (mixed_table.outputs_among all ss)
  same_map f g same [] = refl
  same_map {Z} f g same (s ∷ ss) = by (states is_told_slot s.shape.operation) (same_map f g same ss)
    where
      by : (b : Bool) → map f (told_among all values ss) ≡ map g (mixed_table.outputs_among all ss) →
          map f (cond b (told s ∷ []) [] ++ told_among all values ss) ≡ map g (cond b (entry s ∷ []) [] ++ mixed_table.outputs_among all ss)
      by true rest = ap₂ (λ (z : Z) (zs : List Z). z ∷ zs) (same s) rest
      by false rest = rest

mixed_cut : (c : mixed.Circuit) (values : List ℕ) → AreCut (mixed_table.outputs_of c) (flat_map (λ (t : Told). t.bits) (told_of c values)) (told_of c values)
mixed_cut c values = record {
  names = same_map c.statements values (λ (t : Told). t.name) (λ (o : Output). o.name) (λ s. refl) c.statements;
  receivers = same_map c.statements values (λ (t : Told). t.to) (λ (o : Output). o.to) (λ s. refl) c.statements;
  widths = same_map c.statements values (λ (t : Told). length t.bits) (λ (o : Output). o.width)
      (λ s. length-bits (mixed_table.width_at c.statements (mixed_table.told_value s)) (slice_index values (mixed_table.told_value s))) c.statements;
  joined = refl;
}

pub mixed_outputs_are_told : MixedOutputsAreTold
mixed_outputs_are_told c plan outside values p told keeps are =
    let outputs = told_of c values in
    let same : joined_bits told ≡ flat_map (λ (t : Told). t.bits) (outputs_to p outputs) =
    joined_entries plan outside p told are
    ∙ (ap (λ (es : List GateTold). bits_of_entries es p) keeps.told_kept ∙ unnamed_bits p outputs) in
    let cut = cuts_by_party (mixed_table.outputs_of c) (flat_map (λ (t : Told). t.bits) outputs) outputs p (mixed_cut c values) in
    subst (λ (bs : List Bool). AreCut (asked (Some (record { 0 = p })) (mixed_table.outputs_of c)) bs (outputs_to p outputs)) (sym same) cut

-- ---- circuits in Bristol Fashion

told_all : (p : ℕ) (bs : List Bool) → bits_of_entries (told_bits bs) p ≡ bs
told_all p [] = refl
told_all p (b ∷ bs) = ap (λ (more : List Bool). b ∷ more) (told_all p bs)

to_all : (p at : ℕ) (widths : List ℕ) (ts : List Told) → map (λ (t : Told). t.to) ts ≡ map (λ (o : Output). o.to) (bristol_table.outputs_from at widths) →
    outputs_to p ts ≡ ts
to_all p at [] [] same = refl
to_all p at [] (t ∷ ts) same = cc
to_all p at (w ∷ widths) [] same = cc
to_all p at (w ∷ widths) (t ∷ ts) same =
    let head = heads (λ (t : Told). t.to) (λ (o : Output). o.to) t (record { name = bristol_table.output_name at; to = All; width = w }) ts (bristol_table.outputs_from (at + 1) widths) same in
    ap (λ (r : Receiver). cond (includes r p) (t ∷ outputs_to p ts) (outputs_to p ts)) head.first
    ∙ ap (λ (more : List Told). t ∷ more) (to_all p (at + 1) widths ts head.rest)

pub bristol_outputs_are_told : BristolOutputsAreTold
bristol_outputs_are_told c plan outside inputs wires outputs p told keeps numbers widths are_wires cut are =
    let every : outputs_to p outputs ≡ outputs = to_all p 0 c.outputs outputs cut.receivers in
    let same : joined_bits told ≡ flat_map (λ (t : Told). t.bits) (outputs_to p outputs) =
    joined_entries plan outside p told are
    ∙ (ap (λ (es : List GateTold). bits_of_entries es p) (keeps outside inputs wires numbers widths are_wires)
    ∙ (told_all p (output_bits c wires) ∙ (sym cut.joined ∙ ap (flat_map (λ (t : Told). t.bits)) (sym every)))) in
    let by_party = cuts_by_party (bristol_table.outputs_of c) (output_bits c wires) outputs p cut in
    subst (λ (bs : List Bool). AreCut (asked (Some (record { 0 = p })) (bristol_table.outputs_of c)) bs (outputs_to p outputs)) (sym same) by_party
