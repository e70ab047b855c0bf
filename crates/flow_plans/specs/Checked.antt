-- The check of a plan: one pass along it, with what may be about to be entered and what is known of the variables then.
use Rattle.std.specs.Prelude.{ℕ, nat_eq, Bool, true, false, not, ◌&&◌, ◌||◌, if◌then◌else◌, List, [], ◌∷◌, ◌++◌, Option, Some, None, slice_get}
use Rattle.dream_words.specs.declared.machine.Name.{Name}
use Rattle.micro_ir.specs.declared.flow.Case.{Case}
use Rattle.micro_ir.specs.declared.flow.End.{End as BlockEnd}
use Rattle.micro_ir.specs.declared.flow.End.TheVariants as end
use Rattle.micro_ir.specs.declared.flow.Block.{Block}
use Rattle.flow_plans.specs.declared.plan.Value.{Value}
use Rattle.flow_plans.specs.declared.plan.Way.{Way}
use Rattle.flow_plans.specs.declared.plan.Entry.{Entry}
use Rattle.flow_plans.specs.declared.plan.Plan.{Plan, Plan-F, fold-Plan}
use Rattle.flow_plans.specs.Known.{is_added, are_tests, told, allows_any, none_known, knows, entry_of, known_in, only, put_all, fade_all, pick_all, owing, behind}

-- ---- behind a block

-- at the target of a case its value is known
abbrev pub case_ways : Name → List Value → List Case → List Entry
case_ways v known [] = []
case_ways v known (c ∷ cases) = entry_of false c.to (told v c.value known) ∷ case_ways v known cases

-- What may be entered behind a block, by its end.
abbrev pub ways : Way → List Value → BlockEnd → List Entry
ways w known (end.Go x) = entry_of false x known ∷ []
ways w known (end.Branch t x y) = entry_of false x (told w.name w.on_true known) ∷ entry_of false y (told w.name w.on_false known) ∷ []
ways w known (end.Switch e cases) = case_ways w.name known cases
ways w known end.Return = []
ways w known (end.Leave e) = []

-- ---- what a plan asks of entries

-- Each is the node's. A turn is owed only where the node is a head.
abbrev pub all_are : Bool → ℕ → List Entry → Bool
all_are head n [] = true
all_are head n (e ∷ rest) = nat_eq e.node n && ((not e.owes || head) && all_are head n rest)

-- two truths are one
abbrev pub same_truth : Bool → Bool → Bool
same_truth true b = b
same_truth false b = not b

-- the entry is among these, where no more is known
abbrev pub is_covered : Entry → List Entry → Bool
is_covered e [] = false
is_covered e (f ∷ rest) = (same_truth e.owes f.owes && (nat_eq e.node f.node && knows f.known e.known)) || is_covered e rest

abbrev pub all_covered : List Entry → List Entry → Bool
all_covered [] fs = true
all_covered (e ∷ rest) fs = is_covered e fs && all_covered rest fs

-- no turn is owed
abbrev pub all_clear : List Entry → Bool
all_clear [] = true
all_clear (e ∷ rest) = not e.owes && all_clear rest

-- each is that of a head
abbrev pub all_heads : (ℕ → Bool) → List Entry → Bool
all_heads head [] = true
all_heads head (e ∷ rest) = head e.node && all_heads head rest

-- ---- the pass

-- What may be entered behind a plan, from what may be entered where the innermost loop is left, and before the plan. None
-- where the plan is refused.
abbrev pub Pass : Type 0
Pass = List Entry → List Entry → Option (List Entry)

abbrev pub where_true : Bool → List Entry → Option (List Entry)
where_true b es = if b then Some es else None

abbrev pub then_pass : Option (List Entry) → (List Entry → Option (List Entry)) → Option (List Entry)
then_pass None f = None
then_pass (Some es) f = f es

-- what may be entered behind either of two plans
abbrev pub either_pass : Option (List Entry) → Option (List Entry) → Option (List Entry)
either_pass None q = None
either_pass (Some es) None = None
either_pass (Some es) (Some fs) = Some (es ++ fs)

abbrev pub block_pass : Bool → ℕ → Way → Option Block → List Entry → Option (List Entry)
block_pass head n w None es = None
block_pass head n w (Some k) es = where_true (is_added w.name && all_are head n es) (behind es (ways w (known_in es) k.end))

abbrev pub all_pass : List Pass → Pass
all_pass [] out es = Some es
all_pass (p ∷ rest) out es = then_pass (p out es) (all_pass rest out)

-- A loop may begin at these entries: each turn begins before a head, and none is owed there, nor where the loop is left.
abbrev pub is_loop : (ℕ → Bool) → List Entry → List Entry → List Entry → Bool
is_loop head begins ends es = all_covered es begins && (all_heads head begins && (all_clear begins && all_clear ends))

-- a loop; each turn ends where one may begin
abbrev pub loop_pass : (ℕ → Bool) → List Entry → List Entry → Pass → Pass
loop_pass head begins ends p out es =
    if is_loop head begins ends es
    then then_pass (p ends (owing begins)) (λ fs. where_true (all_covered fs begins) (behind es ends))
    else None

-- A plan by its parts.
abbrev pub pass_at : List Block → (ℕ → Bool) → Plan-F Pass → Pass
pass_at blocks head (Plan-F.Block n w) out es = block_pass (head n) n w (slice_get blocks n) es
pass_at blocks head (Plan-F.Seq ps) out es = all_pass ps out es
pass_at blocks head (Plan-F.Test c p q) out es = if are_tests c then either_pass (p out (only (allows_any c) es)) (q out (only (none_known c) es)) else None
pass_at blocks head (Plan-F.Put a) out es = where_true (is_added a.name) (put_all a.name a.value es)
pass_at blocks head (Plan-F.Pick w u) out es = where_true (is_added w.name && is_added u.name) (pick_all w u es)
pass_at blocks head (Plan-F.Forget fs) out es = where_true (all_covered es fs) (behind es fs)
pass_at blocks head (Plan-F.Fade v) out es = Some (fade_all v es)
pass_at blocks head Plan-F.Leave out es = where_true (all_covered es out) []
pass_at blocks head (Plan-F.Loop begins ends p) out es = loop_pass head begins ends p out es

-- the pass along a plan
abbrev pub checked : List Block → (ℕ → Bool) → Plan → Pass
checked blocks head = fold-Plan Pass (pass_at blocks head)

-- whether a node is a head, where there is a truth for each node
abbrev pub is_true_at : Option Bool → Bool
is_true_at None = false
is_true_at (Some b) = b

abbrev pub head_in : List Bool → ℕ → Bool
head_in heads n = is_true_at (slice_get heads n)
