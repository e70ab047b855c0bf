-- What a plan needs so that its tree is well formed: variables and numbers that a text can have, tests that aren't too long,
-- and no Leave but in a loop. How deep it nests is told beside.
use Rattle.std.specs.Prelude.{ℕ, ◌+◌, max, Bool, true, ◌&&◌, nat_le, List, [], ◌∷◌, length}
use Rattle.dream_words.specs.declared.machine.Name.{Name}
use Rattle.c_syntax.specs.Formed.{is_word, Allowed, all}
use Rattle.c_syntax.specs.Depth.{deepest}
use Rattle.guarded.specs.Formed.{is_text_name}
use Rattle.flow_plans.specs.declared.plan.Value.{Value}
use Rattle.flow_plans.specs.declared.plan.Way.{Way}
use Rattle.flow_plans.specs.declared.plan.Plan.{Plan, Plan-F, fold-Plan}
use Rattle.flow_plans.specs.Known.{is_added}

-- an added variable that a text can have
abbrev pub is_variable : Name → Bool
is_variable n = is_added n && is_text_name n

abbrev pub value_fits : Value → Bool
value_fits a = is_variable a.name && is_word a.value

abbrev pub values_fit : List Value → Bool
values_fit [] = true
values_fit (a ∷ rest) = value_fits a && values_fit rest

abbrev pub way_fits : Way → Bool
way_fits w = is_variable w.name && (is_word w.on_true && is_word w.on_false)

-- A plan by its parts, where `breakable` says that a loop stands round it. A test has at most 250 values.
abbrev pub fits_at : Plan-F Allowed → Allowed
fits_at (Plan-F.Block n w) breakable = way_fits w
fits_at (Plan-F.Seq ps) breakable = all ps breakable
fits_at (Plan-F.Test c p q) breakable = (values_fit c && nat_le (length c) 250) && (p breakable && q breakable)
fits_at (Plan-F.Put a) breakable = value_fits a
fits_at (Plan-F.Pick w u) breakable = way_fits w && value_fits u
fits_at (Plan-F.Forget fs) breakable = true
fits_at (Plan-F.Fade v) breakable = true
fits_at Plan-F.Leave breakable = breakable
fits_at (Plan-F.Loop begins ends p) breakable = p true

abbrev pub fits : Plan → Allowed
fits = fold-Plan Allowed fits_at

-- how many tests and loops stand one in another
abbrev pub nest_at : Plan-F ℕ → ℕ
nest_at (Plan-F.Block n w) = 0
nest_at (Plan-F.Seq ps) = deepest ps
nest_at (Plan-F.Test c p q) = max p q + 1
nest_at (Plan-F.Put a) = 0
nest_at (Plan-F.Pick w u) = 0
nest_at (Plan-F.Forget fs) = 0
nest_at (Plan-F.Fade v) = 0
nest_at Plan-F.Leave = 0
nest_at (Plan-F.Loop begins ends p) = p + 1

abbrev pub nest : Plan → ℕ
nest = fold-Plan ℕ nest_at
