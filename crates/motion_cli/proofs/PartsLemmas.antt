-- What `deal` comes to.
use Rattle.std.proofs.Common.{ℕ, ◌-◌, ◌^◌, ◌≡◌, ◌<◌, ◌⊎◌, inl, inr, Bool, true, false, List, [], ◌∷◌, ◌++◌, length, take, get_or, Option, Some, None, refl, sym, ◌∙◌, ap, ap₂, subst, arith}
use Rattle.std.specs.Prelude.{codes, slice_get, option_map, if◌then◌else◌, nat_lt, replicate, All}
use Rattle.std.specs.Fmt.{digits, format_spec, padded_integral, char_count}
use Rattle.std.proofs.lemmas.Bool.{ltb-true}
use Rattle.std.proofs.lemmas.List.{append-nil}
use Rattle.mot_base.specs.Files.{Holding}
use Rattle.mot_base.specs.Limits.{most_file_bytes}
use Rattle.share_types.specs.declared.needs.Needs.{Needs}
use Rattle.cli_words.specs.Request.{DealRequest}
use Rattle.dealer_files.specs.Part.{Part, counts_of}
use Rattle.text_lines.specs.Text.{Text}
use Rattle.command_ends.specs.Coming.{Came, IsStopped}
use Rattle.command_ends.specs.Ending.{AreLeft, AreFirst}
use Rattle.command_ends.specs.Outcome.{Outcome, file_refused, reported, memory, part_name}
use Rattle.command_ends.proofs.StoreLemmas.{left_same, all_first}
use Rattle.motion_cli.specs.Commands.{DealEnds}
use Rattle.motion_cli.specs.Parts.{part_files, part_length, deal_files, deal_id, dealt_line, hexadecimal}

-- the files are stored where they are not too long
pub stored_files : (r : DealRequest) → ¬ (most_file_bytes < part_length r) → deal_files r ≡ part_files r
stored_files r fits = either (nat_lt most_file_bytes (part_length r)) refl
  where
    either : (b : Bool) → nat_lt most_file_bytes (part_length r) ≡ b → (if b then [] else part_files r) ≡ part_files r
    either true long = absurd (fits (ltb-true most_file_bytes (part_length r) long))
    either false short = refl

pub came_too_long : (told : Option Holding) (rose : Type 0) (r : DealRequest) (before after : Option Holding) (said : Outcome) →
    after ≡ before → most_file_bytes < part_length r → said ≡ file_refused (part_name r.prefix 0) (codes "too long") →
    Came (DealEnds told rose r) (deal_files r) before after said
came_too_long told rose r before after said same long e = record {
  stored = [];
  torn = None;
  cause = inl (inl (long, ap (λ (o : Outcome). record o { stored = []; torn = None }) e));
  some = inl (refl, refl);
  left = left_same before after None same;
}

pub came_stopped : (told : Option Holding) (rose : Type 0) (r : DealRequest) (before after : Option Holding) (said : Outcome) →
    ¬ (most_file_bytes < part_length r) → IsStopped rose (part_files r) before after said →
    Came (DealEnds told rose r) (deal_files r) before after said
came_stopped told rose r before after said fits stopped =
    let files = part_files r in
    let stored = take stopped.at files in
    let torn : Option Text = Some stopped.file.0 in
    let next : torn ≡ option_map (λ (f : Text × Text). f.0) (slice_get files stopped.at) =
    sym (ap (option_map (λ (f : Text × Text). f.0)) stopped.there) in
    record {
      stored = stored;
      torn = torn;
      cause = ends stopped.cause;
      some = subst (λ fs. AreFirst fs stored torn) (sym (stored_files r fits)) (inr (stopped.at, refl, next));
      left = stopped.left;
    }
  where
    ends : (rose × (said ≡ file_refused stopped.file.0 (codes "fault"))) ⊎ (said ≡ memory) →
        DealEnds told rose r (record said { stored = take stopped.at (part_files r); torn = Some stopped.file.0 }) ⊎ (said ≡ memory)
    ends (inl failed) =
        let same = ap (λ (o : Outcome). record o { stored = take stopped.at (part_files r); torn = Some stopped.file.0 }) failed.1 in
        inl (inr (fits, inr (failed.0, stopped.at, stopped.file, stopped.there, same)))
    ends (inr e) = inr e

pub came_stored : (told : Option Holding) (rose : Type 0) (r : DealRequest) (before after : Option Holding) (said : Outcome) →
    ¬ (most_file_bytes < part_length r) → AreLeft before after (part_files r) None →
    (said ≡ reported (dealt_line r.parties (deal_id r))) ⊎ (said ≡ memory) → Came (DealEnds told rose r) (deal_files r) before after said
came_stored told rose r before after said fits left cause =
    let files = part_files r in
    record {
      stored = files;
      torn = None;
      cause = ends cause;
      some = subst (λ fs. AreFirst fs files None) (sym (stored_files r fits)) (all_first files);
      left = left;
    }
  where
    ends : (said ≡ reported (dealt_line r.parties (deal_id r))) ⊎ (said ≡ memory) →
        DealEnds told rose r (record said { stored = part_files r; torn = None }) ⊎ (said ≡ memory)
    ends (inl e) = inl (inr (fits, inl (ap (λ (o : Outcome). record o { stored = part_files r; torn = None }) e)))
    ends (inr e) = inr e

-- the number of a deal is that of its first part
pub first_id : (parts : List Part) (first : Part) (parties id : ℕ) (counts : Needs) →
    All (λ p. (p.parties ≡ parties) × (p.id ≡ id) × (counts_of p ≡ counts)) parts → 0 < length parts → first ≡ get_or parts 0 first →
    first.id ≡ id
first_id [] first parties id counts deal some is = absurd (omega (arith, some))
first_id (p ∷ parts) first parties id counts deal some is = ap (λ (q : Part). q.id) is ∙ (deal 0 p some).1

-- how numbers and names are written

pub hexadecimal_text : (id : ℕ) →
    padded_integral (format_spec 32 0 4 16 (2 ^ 64 - 1)) false [] (digits 16 false id) ≡ hexadecimal id
unfolding padded_integral char_count
hexadecimal_text id =
    let shown = digits 16 false id in
    let zeros : 16 - length shown - 0 - 0 ≡ 16 - length shown = omega arith in
    ap₂ (λ (n : ℕ) (t : Text). replicate n 48 ++ t) zeros (append-nil shown)
