-- A block whose nodes are named anew does the same, and leads to the new nodes.
use Rattle.std.proofs.Common.{◌≡◌, ℕ, Bool, true, false, nat_eq, if◌then◌else◌, List, [], ◌∷◌, Option, Some, None, map, refl, ap, ◌∙◌}
use Rattle.run_parts.specs.Steps.{Next, Halt, Jam, To, arrive}
use Rattle.run_parts.specs.World.{World}
use Rattle.run_parts.specs.Effects.{Doing}
use Rattle.c_syntax.specs.Run.{word_in, holds, does_ext}
use Rattle.micro_ir.specs.declared.flow.Case.{Case}
use Rattle.micro_ir.specs.declared.flow.End.{End as BlockEnd}
use Rattle.micro_ir.specs.declared.flow.End.TheVariants as end
use Rattle.micro_ir.specs.Run.{Arrive, stmts_do, branch, first_case, by_value, left_by, end_leads}
use Rattle.micro_ir.specs.Laws.{moved_case, moved_end, relocate, BlocksMove}

branch_moved : (f : ℕ → ℕ) (o : Option Bool) (a b : ℕ) (w : World) → branch o (f a) (f b) w ≡ relocate f (branch o a b w)
branch_moved f None a b w = refl
branch_moved f (Some true) a b w = refl
branch_moved f (Some false) a b w = refl

to_or : (f : ℕ → ℕ) (t : Bool) (n : ℕ) (w : World) (a b : Arrive) → a ≡ relocate f b → if t then To (f n) w else a ≡ relocate f (if t then To n w else b)
to_or f true n w a b e = refl
to_or f false n w a b e = e

case_moved : (f : ℕ → ℕ) (cases : List Case) (x : ℕ) (w : World) → first_case (map (moved_case f) cases) x w ≡ relocate f (first_case cases x w)
case_moved f [] x w = refl
case_moved f (c ∷ cases) x w = to_or f (nat_eq x c.value) c.to w (first_case (map (moved_case f) cases) x w) (first_case cases x w) (case_moved f cases x w)

value_moved : (f : ℕ → ℕ) (o : Option ℕ) (cases : List Case) (w : World) → by_value o (map (moved_case f) cases) w ≡ relocate f (by_value o cases w)
value_moved f None cases w = refl
value_moved f (Some x) cases w = case_moved f cases x w

left_moved : (f : ℕ → ℕ) (d : Doing) → left_by d ≡ relocate f (left_by d)
left_moved f (Next w) = refl
left_moved f (Halt o) = refl
left_moved f Jam = refl

pub end_moved : (f : ℕ → ℕ) (e : BlockEnd) (w : World) → end_leads (moved_end f e) w ≡ relocate f (end_leads e w)
end_moved f (end.Go a) w = refl
end_moved f (end.Branch t a b) w = branch_moved f (holds t w) a b w
end_moved f (end.Switch e cases) w = value_moved f (word_in e w) cases w
end_moved f end.Return w = refl
end_moved f (end.Leave e) w = left_moved f (does_ext e w)

after_moved : (f : ℕ → ℕ) (d : Doing) (e : BlockEnd) → arrive d (end_leads (moved_end f e)) ≡ relocate f (arrive d (end_leads e))
after_moved f (Next w) e = end_moved f e w
after_moved f (Halt o) e = refl
after_moved f Jam e = refl

pub blocks_move : BlocksMove
blocks_move f a b w s e =
    ap (λ ss. arrive (stmts_do ss w) (end_leads b.end)) s
    ∙ ap (λ x. arrive (stmts_do a.stmts w) (end_leads x)) e
    ∙ after_moved f (stmts_do a.stmts w) a.end
