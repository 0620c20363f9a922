-- A run of all parties, ready to be run.
use Rattle.std.specs.Prelude.{◌≡◌, List}
use Rattle.turn_core.specs.Graph.{Graph}
use Rattle.dealer_files.specs.Part.{Part}
use Rattle.plan_gates.specs.Plan.{Gates, IsPlan}
use Rattle.joint_run.specs.declared.own.Own.{Own as OwnInMemory}
use Rattle.joint_run.specs.Party.{Own}
use Rattle.local_run.specs.declared.item.Item.{Item}
use Rattle.local_run.specs.declared.item.Load.{Load}
use Rattle.local_run.specs.Items.{all_items}
use Rattle.local_run.specs.Loads.{all_loads, graph_of}
use Rattle.local_run.specs.Job.{IsJob}

-- the plan, the own data of all parties, and the graph of its items
pub record Running : Type 0 where
  pub plan : Gates
  pub owns : List Own
  pub graph : Graph

-- items, loads and graph are those of the plan, and there is what the run is asked on
pub record IsRunning
    (plan : Gates) (owns : List OwnInMemory) (parts : List Part)
    (items : List Item) (loads : List Load) (graph : Graph) : Type 0 where
  pub plan_is : IsPlan plan
  pub job : IsJob plan owns parts
  pub items_are : items ≡ all_items plan
  pub loads_are : loads ≡ all_loads plan
  pub graph_is : graph ≡ graph_of plan
