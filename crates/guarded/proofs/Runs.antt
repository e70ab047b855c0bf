-- What a tree does is a run, so a tree's run only continues in more turns.
use Rattle.std.proofs.Common.{◌≡◌, ℕ, ◌+◌, List, [], ◌∷◌, refl, sym, ap, ◌∙◌, subst, map, arith, append-nil, None, Some}
use Rattle.dream_words.specs.declared.outcome.Outcome.{Outcome}
use Rattle.dream_words.specs.declared.outcome.Outcome.TheVariants as outcome
use Rattle.dream_words.specs.declared.outcome.Call.{Call}
use Rattle.run_parts.specs.Parts.{Exit, Run, Ends, Goes, Past, Broke, Over, Stuck, skip}
use Rattle.run_parts.specs.Steps.{Next, Halt, Jam, then_do}
use Rattle.run_parts.specs.World.{World, returned, start_world, outcome_of}
use Rattle.run_parts.specs.Effects.{Doing}
use Rattle.run_parts.specs.Laws.{Begins, IsRun, Told, Shows, OutcomeShows, DidShows, AllRuns, AllGroups}
use Rattle.run_parts.proofs.Runs.{begins_self, begins_on, shows_on, skip_run, leave_run, in_turn_run, choose_run, switch_run, repeat_run, simply_run, having_shows, effects}
use Rattle.c_syntax.specs.Run.{Part, word_in, does_ext}
use Rattle.c_syntax.specs.RunLaws.{Continues}
use Rattle.micro_ir.specs.declared.flow.Stmt.{Stmt}
use Rattle.micro_ir.specs.declared.flow.Stmt.TheVariants as stmt
use Rattle.micro_ir.specs.declared.flow.End.{End as BlockEnd}
use Rattle.micro_ir.specs.declared.flow.End.TheVariants as end
use Rattle.micro_ir.specs.declared.flow.Block.{Block}
use Rattle.micro_ir.specs.Run.{stmt_does, stmts_do}
use Rattle.guarded.specs.declared.tree.Tree as tree
use Rattle.guarded.specs.declared.tree.Tree.{Tree, Tree-F, roll-Tree}
use Rattle.guarded.specs.declared.tree.TreeCase.{TreeCase}
use Rattle.guarded.specs.Run.{term_holds, word_to, end_does, block_does, tree_at, tree_does, case_does}
use Rattle.guarded.specs.Laws.{MoreTurnsContinue, TreesAreRuns}
use Rattle.guarded.proofs.Induct.{Each, TreeCases, every_tree}
use Rattle.guarded.proofs.Layers.{does_layer, case_does_layer}

-- ---- blocks

-- what shows more calls shows fewer
did_on : (xs ys : List Call) (d : Doing) → Begins xs ys → DidShows ys d → DidShows xs d
did_on xs ys (Next w) a h = begins_on xs ys w.calls a h
did_on xs ys (Halt o) a h = shows_on xs ys (Ends (Over o) 0) a h
did_on xs ys Jam a h = tt

-- what follows a simple statement
then_on : (c : List Call) (d : Doing) (k : World → Doing) → DidShows c d → ((v : World) → DidShows v.calls (k v)) → DidShows c (then_do d k)
then_on c (Next v) k h s = did_on c v.calls (k v) h (s v)
then_on c (Halt o) k h s = h
then_on c Jam k h s = tt

stmt_shows : (s : Stmt) (w : World) → DidShows w.calls (stmt_does s w)
stmt_shows (stmt.Set n e) w = having_shows w.calls (word_in e w) _ (λ x. effects.setting_is n x w)
stmt_shows (stmt.Load n width e) w = having_shows w.calls (word_in e w) _ (λ x. effects.loading_is n width x w)
stmt_shows (stmt.Store width e f) w = having_shows w.calls (word_in e w) _ (λ at. having_shows w.calls (word_in f w) _ (λ x. effects.storing_is width at x w))
stmt_shows (stmt.Ext e) w = having_shows w.calls (word_in e w) _ (λ x. effects.calling_is x w)
stmt_shows (stmt.Trap vector e) w = having_shows w.calls (word_in e w) _ (λ x. effects.trapping_is vector x w)

stmts_show : (ss : List Stmt) (w : World) → DidShows w.calls (stmts_do ss w)
stmts_show [] w = begins_self w.calls
stmts_show (s ∷ ss) w = then_on w.calls (stmt_does s w) (stmts_do ss) (stmt_shows s w) (stmts_show ss)

end_shows : (e : BlockEnd) (w : World) → DidShows w.calls (end_does e w)
end_shows (end.Go a) w = begins_self w.calls
end_shows (end.Branch t a b) w = tt
end_shows (end.Switch e cases) w = tt
end_shows end.Return w = effects.returning_is w
end_shows (end.Leave e) w =
    then_on w.calls (does_ext e w) (λ v. Halt (returned v)) (having_shows w.calls (word_in e w) _ (λ x. effects.calling_is x w)) effects.returning_is

block_shows : (b : Block) (w : World) → DidShows w.calls (block_does b w)
block_shows b w = then_on w.calls (stmts_do b.stmts w) (end_does b.end) (stmts_show b.stmts w) (end_shows b.end)

-- ---- each tree is a run

runs_of : (ts : List Tree) → Each (λ t. IsRun (tree_does t)) ts → AllRuns (map tree_does ts)
runs_of [] h = tt
runs_of (t ∷ ts) h = (h.0, runs_of ts h.1)

groups_of : (cs : List TreeCase) → Each (λ c. IsRun (case_does c).1) cs → AllGroups (map case_does cs)
groups_of [] h = tt
groups_of (c ∷ cs) h = (h.0, groups_of cs h.1)

-- a tree by its parts
by_layer : (y : Tree-F Tree TreeCase) → IsRun (tree_at (tree.map-Tree Tree TreeCase Part (List ℕ × Part) tree_does case_does y)) → IsRun (tree_does (roll-Tree y))
by_layer y h = subst IsRun (sym (does_layer y)) h

cases : TreeCases (λ t. IsRun (tree_does t)) (λ c. IsRun (case_does c).1)
cases = record {
  block = λ b. by_layer (Tree-F.Block b) (simply_run (block_does b) (block_shows b));
  seq = λ ts h. by_layer (Tree-F.Seq ts) (in_turn_run _ (runs_of ts h));
  if_none = λ t a ha. by_layer (Tree-F.If t a None) (choose_run (term_holds t) (tree_does a) skip ha skip_run);
  if_some = λ t a b ha hb. by_layer (Tree-F.If t a (Some b)) (choose_run (term_holds t) (tree_does a) (tree_does b) ha hb);
  switch = λ n cs last hc hl. by_layer (Tree-F.Switch n cs last) (switch_run (λ w. Some (w.names n)) _ _ (groups_of cs hc) hl);
  loop = λ a h. by_layer (Tree-F.Loop a) (repeat_run _ _ _ h);
  while = λ t a h. by_layer (Tree-F.While t a) (repeat_run _ _ _ h);
  do_while = λ a t h. by_layer (Tree-F.DoWhile a t) (repeat_run _ _ _ h);
  break = by_layer Tree-F.Break leave_run;
  set = λ n to. by_layer (Tree-F.Set n to) (simply_run _ (λ w. having_shows w.calls (word_to to w) _ (λ x. effects.setting_is n x w)));
  case_of = λ values body h. subst (λ c. IsRun c.1) (sym (case_does_layer (record { values = values; body = body }))) h;
}

pub tree_is : TreesAreRuns
tree_is t = every_tree cases t

-- ---- the outcome of a whole run

-- calls that a run shows its outcome shows
shown : (c : List Call) (r : Run World Outcome) → Shows c r → OutcomeShows c (outcome_of r)
shown c (Ends (Past w) m) h = h
shown c (Ends (Broke w) m) h = tt
shown c (Ends (Over o) m) h = h
shown c (Ends Stuck m) h = tt
shown c (Goes w) h = h

-- an outcome stays
stays : (o p : Outcome) → p ≡ o → Continues o p
stays (outcome.Returned r m c) p e = e
stays (outcome.Faulted v a m c) p e = e
stays (outcome.Asking c) p e = e
stays (outcome.Going c) p e = subst (OutcomeShows c) (sym e) ([], sym (append-nil c))
stays outcome.Strayed p e = e
stays outcome.Undecoded p e = e
stays outcome.Stuck p e = e

-- the turns that are left don't matter to an outcome
at_end : (x : Exit World Outcome) (f g : ℕ) → outcome_of (Ends x f) ≡ outcome_of (Ends x g)
at_end (Past w) f g = refl
at_end (Broke w) f g = refl
at_end (Over o) f g = refl
at_end Stuck f g = refl

-- what a run tells its outcome tells
outcome_told : (p : ℕ → Run World Outcome) (m k : ℕ) (r : Run World Outcome) → Told p m r → Continues (outcome_of r) (outcome_of (p (m + k)))
outcome_told p m k (Ends x f) t =
    stays (outcome_of (Ends x f)) (outcome_of (p (m + k)))
    (ap (λ n. outcome_of (p n)) (let z : m + k ≡ t.0 + (f + k) = omega (arith, t.1) in z) ∙ ap outcome_of (t.2 (f + k)) ∙ at_end x (f + k) f)
outcome_told p m k (Goes w) t = shown w.calls (p (m + k)) (t k)

pub more_turns : MoreTurnsContinue
more_turns t start answers m k = outcome_told (λ n. tree_does t n (start_world start answers)) m k _ ((tree_is t).told m (start_world start answers))
