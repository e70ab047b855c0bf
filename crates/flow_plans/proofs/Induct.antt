-- Induction over plans: one field a variant. And what the definitions over plans give at a layer.
use Rattle.std.proofs.Common.{◌≡◌, ℕ, Bool, List, [], ◌∷◌, map, subst}
use Rattle.dream_words.specs.declared.machine.Name.{Name}
use Rattle.micro_ir.specs.declared.flow.Block.{Block}
use Rattle.guarded.specs.declared.tree.Tree.{Tree}
use Rattle.guarded.proofs.Induct.{Each}
use Rattle.flow_plans.specs.declared.plan.Value.{Value}
use Rattle.flow_plans.specs.declared.plan.Way.{Way}
use Rattle.flow_plans.specs.declared.plan.Entry.{Entry}
use Rattle.flow_plans.specs.declared.plan.Plan as plan
use Rattle.flow_plans.specs.declared.plan.Plan.{Plan, Plan-F, roll-Plan, ind-Plan}
use Rattle.flow_plans.specs.Checked.{Pass, pass_at, checked}
use Rattle.flow_plans.specs.Emitted.{trees_at, trees_of}

pub checked_layer : (blocks : List Block) (head : ℕ → Bool) (y : Plan-F Plan) → checked blocks head (roll-Plan y) ≡ pass_at blocks head (plan.map-Plan Plan Pass (checked blocks head) y)
checked_layer blocks head y = plan.fold-roll-Plan Pass (pass_at blocks head) y

pub trees_layer : (blocks : List Block) (y : Plan-F Plan) → trees_of blocks (roll-Plan y) ≡ trees_at blocks (plan.map-Plan Plan (List Tree) (trees_of blocks) y)
trees_layer blocks y = plan.fold-roll-Plan (List Tree) (trees_at blocks) y

each_of : {A X : Type 0} (P : A → Type 0) (f : X → A) → ((x : X) → P (f x)) → (xs : List X) → Each P (map f xs)
each_of P f p [] = tt
each_of P f p (x ∷ xs) = (p x, each_of P f p xs)

-- what is to be shown of each variant
pub record PlanCases (P : Plan → Type 0) : Type 0 where
  pub block : (n : ℕ) (w : Way) → P (roll-Plan (Plan-F.Block n w))
  pub seq : (ps : List Plan) → Each P ps → P (roll-Plan (Plan-F.Seq ps))
  pub test : (c : List Value) (p q : Plan) → P p → P q → P (roll-Plan (Plan-F.Test c p q))
  pub put : (a : Value) → P (roll-Plan (Plan-F.Put a))
  pub pick : (w : Way) (u : Value) → P (roll-Plan (Plan-F.Pick w u))
  pub forget : (fs : List Entry) → P (roll-Plan (Plan-F.Forget fs))
  pub fade : (v : Name) → P (roll-Plan (Plan-F.Fade v))
  pub leave : P (roll-Plan Plan-F.Leave)
  pub loop : (begins ends : List Entry) (p : Plan) → P p → P (roll-Plan (Plan-F.Loop begins ends p))

module _ (P : Plan → Type 0) (cases : PlanCases P) (X : Type 0) (f : X → Plan) (p : (x : X) → P (f x)) where
  plan_layer : (y : Plan-F X) → P (roll-Plan (plan.map-Plan X Plan f y))
  plan_layer (Plan-F.Block n w) = cases.block n w
  plan_layer (Plan-F.Seq ps) = cases.seq (map f ps) (each_of P f p ps)
  plan_layer (Plan-F.Test c x y) = cases.test c (f x) (f y) (p x) (p y)
  plan_layer (Plan-F.Put a) = cases.put a
  plan_layer (Plan-F.Pick w u) = cases.pick w u
  plan_layer (Plan-F.Forget fs) = cases.forget fs
  plan_layer (Plan-F.Fade v) = cases.fade v
  plan_layer Plan-F.Leave = cases.leave
  plan_layer (Plan-F.Loop begins ends x) = cases.loop begins ends (f x) (p x)

-- what holds at each variant holds of every plan
pub every_plan : {P : Plan → Type 0} → PlanCases P → (p : Plan) → P p
every_plan {P} cases t = ind-Plan P (λ x y h. subst (λ z. P (roll-Plan z)) h (plan_layer P cases _ (λ e'. e'.0) (λ e'. e'.1) y)) t
