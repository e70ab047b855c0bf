-- What an end needs to have delayed words in place.
use Rattle.std.specs.Prelude.{◌≡◌, ℕ, Bool, true, false, not, ◌&&◌, ◌||◌, List, [], ◌∷◌, Contains, IsTrue}
use Rattle.std.specs.List.{list_any}
use Rattle.dream_words.specs.declared.machine.Name.{Name}
use Rattle.micro_ir.specs.declared.flow.End.{End as BlockEnd}
use Rattle.micro_ir.specs.declared.flow.End.TheVariants as end
use Rattle.micro_ir.specs.Checked.{nodes_of}
use Rattle.flow_passes.specs.Uses.{NameSet, is_register, end_reads}
use Rattle.flow_passes.specs.Laws.{Within}
use Rattle.expr_fold.specs.declared.delayed.Delayed.{Delayed}
use Rattle.expr_fold.specs.Delayed.{is_delayed}
use Rattle.expr_fold.specs.Fits.{word_fits, cond_fits}

-- an end that leaves the function
abbrev pub leaves_of : BlockEnd → Bool
leaves_of (end.Go a) = false
leaves_of (end.Branch t a b) = false
leaves_of (end.Switch e cases) = false
leaves_of end.Return = true
leaves_of (end.Leave e) = true

-- What an end needs: what it reads is seen; what is live where it leads is seen and not delayed; and where it leaves no
-- register is delayed.
pub record EndsWell (live : ℕ → NameSet) (seen : NameSet) (p : List Delayed) (e : BlockEnd) : Type 0 where
  pub reads : Within (end_reads e) seen
  pub targets : (k : ℕ) → Contains (nodes_of e) k → (n : Name) → IsTrue (live k n) → IsTrue (seen n) × (is_delayed p n ≡ false)
  pub registers : IsTrue (leaves_of e) → (n : Name) → IsTrue (is_register n) → is_delayed p n ≡ false

-- the words of an end fit
abbrev pub end_fits : BlockEnd → Bool
end_fits (end.Go a) = true
end_fits (end.Branch t a b) = cond_fits t
end_fits (end.Switch e cases) = word_fits e
end_fits end.Return = true
end_fits (end.Leave e) = word_fits e

-- What may be seen after an end: what is live at one of its nodes, and the registers where it leaves the function.
abbrev pub seen_after : BlockEnd → (ℕ → NameSet) → NameSet
seen_after e live n = (leaves_of e && is_register n) || list_any (λ k. live k n) (nodes_of e)

-- no delayed name may be seen after an end
abbrev pub none_seen_after : BlockEnd → (ℕ → NameSet) → List Delayed → Bool
none_seen_after e live [] = true
none_seen_after e live (d ∷ ds) = not (seen_after e live d.name) && none_seen_after e live ds
