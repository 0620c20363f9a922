use Rattle.std.proofs.Common.{ℕ, ◌≡◌, ◌<◌, List, None, length, map, inl, inr, refl, sym, ◌∙◌, ap, ap₂, subst, arith}
use Rattle.mot_base.specs.Faults.{Rose}
use Rattle.mot_base.specs.Tape.{long_word_of_tape}
use Rattle.share_types.specs.declared.needs.Needs.{Needs}
use Rattle.cli_words.specs.Request.{deal_request}
use Rattle.dealer_files.specs.Part.{Part}
use Rattle.dealer_maker.specs.Draws.{parts_drawn}
use Rattle.text_lines.specs.Text.{Text}
use Rattle.command_ends.specs.Coming.{IsStopped}
use Rattle.motion_cli.specs.Commands.{DealEnds}
use Rattle.command_ends.specs.Ending.{AreLeft}
use Rattle.command_ends.specs.Outcome.{Outcome, reported}
use Rattle.motion_cli.specs.Parts.{part_file, part_files, deal_files, deal_id, dealt_line}
use Rattle.command_ends.specs.Refusal.{came_to, outcome_of}
use Rattle.motion_cli.proofs.PartsLemmas.{came_stopped, came_stored, first_id}
use Rattle.command_ends.proofs.StoreLemmas.{came_before}
use Rattle.command_ends.proofs.RefusalLemmas.{memory_said, refusal_said}
use Rattle.motion_cli.proofs.deal.deal_and_store.Goals as goal

pub returns-in_err-parts-clause-came : goal.returns-in_err-parts-clause-came
returns-in_err-parts-clause-came g c =
    let old = c.args.files.now in
    let r = deal_request c.args.words.now in
    came_before (DealEnds (g.F.Files.holds old) (Rose (g.F.Files.faults old) (g.F.Files.faults old)) r) (deal_files r) (g.F.Files.holds old)
    (g.F.Files.holds old) (came_to c.from_residual.result) refl (memory_said c.from_residual.result c.from_residual.ensures.1)

pub returns-in_err-store_parts-clause-came : goal.returns-in_err-store_parts-clause-came
returns-in_err-store_parts-clause-came g c =
    let old = c.args.files.now in
    let new = c.store_parts.new.files in
    let r = deal_request c.args.words.now in
    let rose = Rose (g.F.Files.faults old) (g.F.Files.faults new) in
    let fits = c.requires.fits in
    let drawn = c.as_slice.ensures.value ∙ (c.in_ok-parts.ensures.drawn
    ∙ ap₂ (λ (seed : List ℕ) (counts : Needs). parts_drawn seed c.args.words.now.parties counts) c.derive.ensures c.requires.counts) in
    let files : map (part_file c.as_str.result.now) c.as_slice.result.now ≡ part_files r =
    ap₂ (λ (prefix : Text) (parts : List Part). map (part_file prefix) parts) c.as_str.ensures.value drawn in
    let said = refusal_said c.from_residual-in_err-store_parts.result c.in_err-store_parts.field-0.0 c.from_residual-in_err-store_parts.ensures.1 in
    let P : List (Text × Text) → Type 0 = λ fs. IsStopped rose fs (g.F.Files.holds old) (g.F.Files.holds new) (outcome_of c.in_err-store_parts.field-0.0) in
    let Q : Outcome → Type 0 = λ o. IsStopped rose (part_files r) (g.F.Files.holds old) (g.F.Files.holds new) o in
    came_stopped (g.F.Files.holds old) rose r (g.F.Files.holds old) (g.F.Files.holds new) (came_to c.from_residual-in_err-store_parts.result)
    (λ long. omega (arith, fits, long)) (subst Q (sym said) (subst P files c.in_err-store_parts.ensures.stopped))

pub returns-in_err-dealt_line-clause-came : goal.returns-in_err-dealt_line-clause-came
returns-in_err-dealt_line-clause-came g c =
    let old = c.args.files.now in
    let new = c.store_parts.new.files in
    let r = deal_request c.args.words.now in
    let rose = Rose (g.F.Files.faults old) (g.F.Files.faults new) in
    let fits = c.requires.fits in
    let drawn = c.as_slice.ensures.value ∙ (c.in_ok-parts.ensures.drawn
    ∙ ap₂ (λ (seed : List ℕ) (counts : Needs). parts_drawn seed c.args.words.now.parties counts) c.derive.ensures c.requires.counts) in
    let files : map (part_file c.as_str.result.now) c.as_slice.result.now ≡ part_files r =
    ap₂ (λ (prefix : Text) (parts : List Part). map (part_file prefix) parts) c.as_str.ensures.value drawn in
    let P : List (Text × Text) → Type 0 = λ fs. AreLeft (g.F.Files.holds old) (g.F.Files.holds new) fs None in
    came_stored (g.F.Files.holds old) rose r (g.F.Files.holds old) (g.F.Files.holds new) (came_to c.from_residual-in_err-dealt_line.result)
    (λ long. omega (arith, fits, long)) (subst P files c.in_ok-store_parts.ensures.stored)
    (inr (memory_said c.from_residual-in_err-dealt_line.result c.from_residual-in_err-dealt_line.ensures.1))

pub returns-clause-came : goal.returns-clause-came
returns-clause-came g c =
    let old = c.args.files.now in
    let new = c.store_parts.new.files in
    let r = deal_request c.args.words.now in
    let rose = Rose (g.F.Files.faults old) (g.F.Files.faults new) in
    let fits = c.requires.fits in
    let drawn = c.as_slice.ensures.value ∙ (c.in_ok-parts.ensures.drawn
    ∙ ap₂ (λ (seed : List ℕ) (counts : Needs). parts_drawn seed c.args.words.now.parties counts) c.derive.ensures c.requires.counts) in
    let files : map (part_file c.as_str.result.now) c.as_slice.result.now ≡ part_files r =
    ap₂ (λ (prefix : Text) (parts : List Part). map (part_file prefix) parts) c.as_str.ensures.value drawn in
    let P : List (Text × Text) → Type 0 = λ fs. AreLeft (g.F.Files.holds old) (g.F.Files.holds new) fs None in
    let honest = c.in_ok-parts.ensures.honest in
    let parties = c.args.words.now.some in
    let count = honest.count in
    let some : 0 < length c.in_ok-parts.parts.items = omega (arith, parties, count) in
    let first = first_id c.in_ok-parts.parts.items c.index.result.now _ _ _ honest.one_deal some c.index.ensures in
    let id : c.id-id.result ≡ deal_id r = c.id-id.ensures ∙ (first ∙ ap (λ (seed : List ℕ). long_word_of_tape seed 0) c.derive.ensures) in
    let text = c.in_ok-dealt_line.ensures ∙ ap (dealt_line c.args.words.now.parties) id in
    came_stored (g.F.Files.holds old) rose r (g.F.Files.holds old) (g.F.Files.holds new) _
    (λ long. omega (arith, fits, long)) (subst P files c.in_ok-store_parts.ensures.stored) (inl (ap reported text))
