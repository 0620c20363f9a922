-- Circuits of both languages.
use Rattle.std.proofs.Common.{ℕ, zero, suc, ◌≡◌, ◌<◌, ◌≤◌, ◌++◌, Bool, true, false, cond, List, [], ◌∷◌, length, get_or, Option, Some, None, Result, Ok, Err, refl, sym, subst, ◌↔◌, arith}
use Rattle.std.specs.Prelude.{All, option_map, IfOk, IsErrOf}
use Rattle.std.specs.Option.{unwrap_or}
use Rattle.mot_base.specs.Limits.{most_gates, most_width}
use Rattle.share_types.specs.declared.sharing.WireType.{WireType}
use Rattle.circuit_tables.specs.Table.{Output}
use Rattle.mixed_language.specs.Circuit as mixed
use Rattle.mixed_language.specs.Circuit.{Statement, wire_at}
use Rattle.share_types.specs.Wires.{width_of}
use Rattle.mixed_language.specs.Language.{states, is_told_slot}
use Rattle.mixed_language.specs.Valid.{IsCircuit}
use Rattle.mixed_language.specs.Table.{receiver_of, name_at, width_at, told_value, inputs_of, output_entry, outputs_among, outputs_of}
use Rattle.mixed_language.specs.Wide.{AllWide}
use Rattle.mixed_language.proofs.WidthLemmas.{circuit_wide}
use Rattle.bristol_reader.specs.Circuit.{Circuit}
use Rattle.bristol_reader.specs.Table.{inputs_of as bristol_inputs}
use Rattle.gate_plan.specs.declared.error.PlanError.{PlanError}
use Rattle.plan_gates.specs.Plan.{Gates}
use Rattle.gate_plan.specs.Lowering.{lowered}
use Rattle.gate_plan.specs.Bristol.{bristol_lowered}
use Rattle.local_run.specs.Inputs.{TakesInputs}
use Rattle.local_engine.proofs.Taking.{mixed_plans_take_inputs, bristol_plans_take_inputs}

-- the outputs of a mixed circuit have at most 64 bits each
width_there : (all : List Statement) (at : ℕ) → AllWide all → width_at all at ≤ most_width
width_there all at wide = by (wire_at all at) refl
  where
    by : (o : Option WireType) → wire_at all at ≡ o → unwrap_or (option_map width_of o) 0 ≤ most_width
    by None e = omega arith
    by (Some wire) e = (wide at wire e).1

entry_narrow : (all : List Statement) (s : Statement) (more : List Output) → AllWide all → All (λ o. o.width ≤ most_width) more →
    All (λ o. o.width ≤ most_width) (output_entry all s ++ more)
entry_narrow all s more wide rest = either (states is_told_slot s.shape.operation)
  where
    entry : Output
    entry = record {
      name = name_at all (told_value s);
      to = receiver_of s.shape.party;
      width = width_at all (told_value s);
    }

    one : (i : ℕ) (d : Output) → i < length (entry ∷ more) → (get_or (entry ∷ more) i d).width ≤ most_width
    one zero d h = width_there all (told_value s) wide
    one (suc i) d h = rest i d (omega (arith, h))

    either : (b : Bool) → All (λ o. o.width ≤ most_width) (cond b (entry ∷ []) [] ++ more)
    either true = one
    either false = rest

among_narrow : (all ss : List Statement) → AllWide all → All (λ o. o.width ≤ most_width) (outputs_among all ss)
among_narrow all [] wide = λ i d h. absurd (omega (arith, h))
among_narrow all (s ∷ more) wide = entry_narrow all s (outputs_among all more) wide (among_narrow all more wide)

pub mixed_narrow : (c : mixed.Circuit) → IsCircuit c → All (λ o. o.width ≤ most_width) (outputs_of c)
mixed_narrow c whole = among_narrow c.statements c.statements (circuit_wide c whole)

-- the plan of a mixed circuit takes its inputs
pub mixed_takes : (c : mixed.Circuit) (r : Result Gates PlanError) → IsCircuit c →
    IfOk r (λ plan. plan ≡ lowered c) → IfOk r (λ plan. TakesInputs (inputs_of c.statements) plan)
mixed_takes c (Err e) whole is = tt
mixed_takes c (Ok plan) whole is = subst (λ (p : Gates). TakesInputs (inputs_of c.statements) p) (sym is) (mixed_plans_take_inputs c whole)

-- and so does that of one in Bristol Fashion
pub bristol_takes : (keys : Bool) (parties : ℕ) (c : Circuit) (r : Result Gates PlanError) → IfOk r (λ plan. plan ≡ bristol_lowered keys parties c) →
    IfOk r (λ plan. TakesInputs (bristol_inputs parties c) plan)
bristol_takes keys parties c (Err e) is = tt
bristol_takes keys parties c (Ok plan) is =
    subst (λ (p : Gates). TakesInputs (bristol_inputs parties c) p) (sym is) (bristol_plans_take_inputs keys parties c)
