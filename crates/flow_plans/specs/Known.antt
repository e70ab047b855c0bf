-- What is known of added variables where the flow may be about to enter a block.
use Rattle.std.specs.Prelude.{ℕ, nat_eq, Bool, true, false, not, ◌&&◌, ◌||◌, if◌then◌else◌, List, [], ◌∷◌}
use Rattle.dream_words.specs.declared.machine.Name.{Name}
use Rattle.dream_words.specs.declared.machine.Name.TheVariants.{B, S}
use Rattle.flow_passes.specs.Uses.{same_name}
use Rattle.flow_plans.specs.declared.plan.Value.{Value}
use Rattle.flow_plans.specs.declared.plan.Way.{Way}
use Rattle.flow_plans.specs.declared.plan.Entry.{Entry}

-- ---- variables

-- a variable that a tree may add: a local for tests or for selecting, which no flow has
abbrev pub is_added : Name → Bool
is_added (B n) = true
is_added (S n) = true
is_added m = false

-- a local for tests
abbrev pub is_test : Name → Bool
is_test (B n) = true
is_test m = false

abbrev pub are_tests : List Value → Bool
are_tests [] = true
are_tests (a ∷ rest) = is_test a.name && are_tests rest

-- ---- values

abbrev pub value_of : Name → ℕ → Value
value_of v x = record { name = v; value = x }

-- what is known of other variables
abbrev pub without : Name → List Value → List Value
without v [] = []
without v (a ∷ rest) = if same_name a.name v then without v rest else a ∷ without v rest

-- what is known after a variable is set
abbrev pub told : Name → ℕ → List Value → List Value
told v x known = value_of v x ∷ without v known

-- the value is known
abbrev pub is_known : Value → List Value → Bool
is_known a [] = false
is_known a (b ∷ rest) = (same_name b.name a.name && nat_eq b.value a.value) || is_known a rest

-- no other value of the variable is known
abbrev pub allows : Value → List Value → Bool
allows a [] = true
allows a (b ∷ rest) = (not (same_name b.name a.name) || nat_eq b.value a.value) && allows a rest

-- one of the values may be the variable's
abbrev pub allows_any : List Value → List Value → Bool
allows_any [] known = false
allows_any (a ∷ rest) known = allows a known || allows_any rest known

-- none of the values is known
abbrev pub none_known : List Value → List Value → Bool
none_known [] known = true
none_known (a ∷ rest) known = not (is_known a known) && none_known rest known

-- each of the first values is known by the second
abbrev pub knows : List Value → List Value → Bool
knows [] known = true
knows (a ∷ rest) known = is_known a known && knows rest known

-- what both know
abbrev pub common : List Value → List Value → List Value
common [] other = []
common (a ∷ rest) other = if is_known a other then a ∷ common rest other else common rest other

-- ---- entries

abbrev pub entry_of : Bool → ℕ → List Value → Entry
entry_of owes n known = record { owes = owes; node = n; known = known }

-- what is known there and in each entry
abbrev pub common_all : List Value → List Entry → List Value
common_all known [] = known
common_all known (e ∷ rest) = common_all (common known e.known) rest

-- what is known in each entry
abbrev pub known_in : List Entry → List Value
known_in [] = []
known_in (e ∷ rest) = common_all e.known rest

-- the entries of which a test of what is known holds
abbrev pub only : (List Value → Bool) → List Entry → List Entry
only f [] = []
only f (e ∷ rest) = if f e.known then e ∷ only f rest else only f rest

-- the variable is set
abbrev pub put_all : Name → ℕ → List Entry → List Entry
put_all v x [] = []
put_all v x (e ∷ rest) = entry_of e.owes e.node (told v x e.known) ∷ put_all v x rest

-- nothing is known of the variable
abbrev pub fade_all : Name → List Entry → List Entry
fade_all v [] = []
fade_all v (e ∷ rest) = entry_of e.owes e.node (without v e.known) ∷ fade_all v rest

-- what is known after a variable is set by whether another one has its value
abbrev pub picked_known : Way → Value → List Value → List Value
picked_known w u known = if is_known u known then told w.name w.on_true known else (if allows u known then without w.name known else told w.name w.on_false known)

abbrev pub pick_all : Way → Value → List Entry → List Entry
pick_all w u [] = []
pick_all w u (e ∷ rest) = entry_of e.owes e.node (picked_known w u e.known) ∷ pick_all w u rest

-- a turn is owed
abbrev pub owing : List Entry → List Entry
owing [] = []
owing (e ∷ rest) = entry_of true e.node e.known ∷ owing rest

-- where nothing may be entered nothing is behind it
abbrev pub behind : List Entry → List Entry → List Entry
behind [] fs = []
behind (e ∷ rest) fs = fs
