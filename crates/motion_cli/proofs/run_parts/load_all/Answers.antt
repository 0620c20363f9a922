use Rattle.std.proofs.Common.{◌≡◌, ◌⊎◌, List, [], ◌∷◌, map, take, Some, ◌∙◌, subst, arith}
use Rattle.std.proofs.lemmas.List.{map-append}
use Rattle.mot_base.specs.Faults.{Rose}
use Rattle.share_types.proofs.Parties.{length-each}
use Rattle.plan_gates.proofs.NeedsLemmas.{slice_get-each}
use Rattle.text_lines.specs.Text.{Text}
use Rattle.motion_cli.specs.Dealer.{part_names}
use Rattle.command_ends.specs.Outcome.{memory, part_name}
use Rattle.command_ends.proofs.RefusalLemmas.{refused_as}
use Rattle.command_ends.specs.Refusal.{outcome_of}
use Rattle.command_ends.specs.Steps.{AreContents, IsFirstUnloaded}
use Rattle.motion_cli.proofs.DealerLemmas.{contents_next, first_unloaded}
use Rattle.motion_cli.proofs.run_parts.load_all.Goals as goal
use Rattle.mot_base.proofs.Lists.{take_whole as taken_whole}

pub returns-in_err-text-clause-err : goal.returns-in_err-text-clause-err
returns-in_err-text-clause-err g c =
    let old = c.args.files.now in
    let mid = c.loop-party.files in
    let new = c.load_part.new.files in
    let names = part_names (Some c.args.prefix.now) c.args.parties in
    let refusal = c.in_err-text.field-0.0 in
    let was = c.loop-party.invariant in
    let rose = Rose (g.F.Files.faults old) (g.F.Files.faults new) in
    let there = slice_get-each c.args.parties (part_name c.args.prefix.now) c.loop-party.party c.loop-party-test.true in
    refused_as c.from_residual-in_err-text.result refusal
    (λ refusal. IsFirstUnloaded (g.F.Files.holds old) rose names (outcome_of refusal) ⊎ (outcome_of refusal ≡ memory))
    c.from_residual-in_err-text.ensures.1
    (first_unloaded (g.F.Files.holds old) (g.F.Files.holds mid) (g.F.Files.faults old) (g.F.Files.faults mid) (g.F.Files.faults new) names
    (map (λ text. text.items) c.loop-party.texts.items) c.loop-party.party (part_name c.args.prefix.now c.loop-party.party) (outcome_of refusal)
    there was.0 was.1 was.2 c.in_err-text.ensures.err)

pub loop-party-preserved : goal.loop-party-preserved
loop-party-preserved g c =
    let old = c.args.files.now in
    let names = part_names (Some c.args.prefix.now) c.args.parties in
    let was = c.loop-party.invariant in
    let there = slice_get-each c.args.parties (part_name c.args.prefix.now) c.loop-party.party c.loop-party-test.true in
    let early = was.2 in
    let late = c.in_ok-text.ensures.never_falls in
    let name = part_name c.args.prefix.now c.loop-party.party in
    let content = rw was.1 at c.in_ok-text.ensures.ok in (
      rw (c.in_ok-push.ensures.items, map-append (λ text. text.items) c.loop-party.texts.items (c.in_ok-text.text ∷ []))
          (contents_next (g.F.Files.holds old) names (map (λ text. text.items) c.loop-party.texts.items) c.loop-party.party name
          c.in_ok-text.text.items there was.0 content),
      c.in_ok-text.ensures.same ∙ was.1,
      omega (arith, early, late),
    )

pub returns-clause-ok : goal.returns-clause-ok
returns-clause-ok g c =
    let names = part_names (Some c.args.prefix.now) c.args.parties in
    let count = length-each c.args.parties (part_name c.args.prefix.now) in
    let all = c.loop-party-test.false in
    let whole : take c.loop-party.party names ≡ names = taken_whole names c.loop-party.party (omega (arith, count, all)) in
    subst (λ (ns : List Text). AreContents (g.F.Files.holds c.args.files.now) ns (map (λ text. text.items) c.loop-party.texts.items)) whole
    c.loop-party.invariant.0
