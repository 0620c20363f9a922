use Rattle.std.proofs.Common.{ℕ, length, ap}
use Rattle.gate_plan.specs.Convert.{entry_gates}
use Rattle.gate_plan.proofs.PartsLemmas.{entry_row, length_entry}
use Rattle.gate_plan.proofs.BristolCodeLemmas.{row_start, row_next, row_room}
use Rattle.gate_plan.proofs.convert.push_entries.Goals as goal

pub push_entry-requires : goal.push_entry-requires
push_entry-requires c =
    let parts = c.args.parts in
    let n : ℕ = length c.args.draft.now.gates in
    record {
      room = row_room c.args.draft.now c.loop-party.draft c.loop-party.party 2 (entry_row parts n) (length_entry parts n)
          c.loop-party.invariant c.args.parties c.loop-party-test.true c.requires.room;
    }

pub loop-party-preserved : goal.loop-party-preserved
loop-party-preserved c =
    let parts = c.args.parts in
    let n : ℕ = length c.args.draft.now.gates in
    row_next c.args.draft.now c.loop-party.draft c.loop-party.party 2 (entry_row parts n) (length_entry parts n)
    c.loop-party.invariant c.push_entry.new.draft (entry_gates parts (length c.loop-party.draft.gates) c.loop-party.party)
    (ap (λ (m : ℕ). entry_gates parts m c.loop-party.party)
    (row_start c.args.draft.now c.loop-party.draft c.loop-party.party 2 (entry_row parts n) (length_entry parts n)
    c.loop-party.invariant))
    c.in_ok-push_entry.ensures
