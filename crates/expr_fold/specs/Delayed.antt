-- Sets that are delayed: names, and the words that they are to be set to.
use Rattle.std.specs.Prelude.{◌≡◌, Bool, true, false, not, ◌&&◌, ◌||◌, List, [], ◌∷◌, Some, filter}
use Rattle.dream_words.specs.declared.machine.Name.{Name}
use Rattle.run_parts.specs.World.{Names}
use Rattle.c_syntax.specs.Value.{word_of}
use Rattle.micro_ir.specs.Rule.{is_flow_target, is_flow_word}
use Rattle.flow_passes.specs.Uses.{NameSet, same_name, is_flag, word_reads}
use Rattle.expr_fold.specs.declared.delayed.Delayed.{Delayed}

-- a name is delayed
abbrev pub is_delayed : List Delayed → NameSet
is_delayed [] n = false
is_delayed (d ∷ ds) n = same_name d.name n || is_delayed ds n

-- no delayed word reads a name
abbrev pub none_reads : List Delayed → NameSet
none_reads [] n = true
none_reads (d ∷ ds) n = not (word_reads d.word n) && none_reads ds n

-- the delayed sets of other names
abbrev pub without : Name → List Delayed → List Delayed
without n = filter (λ d. not (same_name d.name n))

-- only flags are delayed
abbrev pub are_flags : List Delayed → Bool
are_flags [] = true
are_flags (d ∷ ds) = is_flag d.name && are_flags ds

-- each delayed set may stand in a flow
abbrev pub are_flow_delayed : List Delayed → Bool
are_flow_delayed [] = true
are_flow_delayed (d ∷ ds) = (is_flow_target d.name && is_flow_word d.word) && are_flow_delayed ds

-- each delayed word has, among the new names, the value that its name has among the old ones
abbrev pub AreHeld : List Delayed → Names → Names → Type 0
AreHeld [] v u = Unit {0}
AreHeld (d ∷ ds) v u = (word_of d.word u ≡ Some (v d.name)) × AreHeld ds v u
